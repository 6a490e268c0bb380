use Rattle.commonmark_syntax.specs.Blocks.{footnote_character}
use Rattle.commonmark_syntax.specs.Language.{many}
use Rattle.commonmark_syntax.proofs.Scans.{size_most}
use Rattle.commonmark_syntax.proofs.footnote_label.past_text.Goals as goal

pub overflow_sub-size : goal.overflow_sub-size
overflow_sub-size c = size_most (many footnote_character) _ _ c.past_characters-rest.ensures
