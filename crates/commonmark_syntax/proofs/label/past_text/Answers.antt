use Rattle.commonmark_syntax.specs.Language.{many}
use Rattle.commonmark_syntax.specs.Syntax.{character, in_brackets, is_any}
use Rattle.commonmark_syntax.proofs.Scans.{size_most}
use Rattle.commonmark_syntax.proofs.label.past_text.Goals as goal

pub overflow_sub-size : goal.overflow_sub-size
overflow_sub-size c = size_most (many (character is_any in_brackets)) _ _ c.past_characters-rest.ensures
