-- The open spans.
use Rattle.std.specs.Prelude.{List}
use Rattle.markdown_events.specs.declared.around.Around.{Around}
use Rattle.markdown_acceptance.specs.declared.open_spans.Frame.{Frame}
use Rattle.markdown_acceptance.specs.declared.site.Site.{Site}

-- the frames, the innermost first; the surroundings of the next span, and its site
pub record Stack : Type 0 where
  pub frames : List Frame
  pub around : Around
  pub site : Site
