-- Output whose constructs are on.
use Rattle.std.specs.Prelude.{List, [], true, ◌∷◌, ◌≡◌}
use Rattle.event_writer.specs.Written.{Written}
use Rattle.markdown_acceptance.specs.declared.open_spans.Frame.{Frame}
use Rattle.markdown_options.specs.Spans.{AreOn, is_on}
use Rattle.markdown_options.specs.declared.Constructs.{Constructs}

-- the constructs of the open spans are on
abbrev pub AreOpenOn : Constructs → List Frame → Type 0
AreOpenOn c [] = Unit {0}
AreOpenOn c (frame ∷ frames) = (is_on c frame.name ≡ true) × AreOpenOn c frames

-- the constructs of what a writer has written are on: those of the events so far, and those of the open spans
pub record IsWithin {R : Type 0} (c : Constructs) (w : Written R) : Type 0 where
  pub events : AreOn c w.events
  pub spans : AreOpenOn c w.spans.frames
