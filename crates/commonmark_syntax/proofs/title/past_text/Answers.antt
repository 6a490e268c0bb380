use Rattle.commonmark_syntax.specs.Language.{many}
use Rattle.commonmark_syntax.specs.Syntax.{character, is_any}
use Rattle.commonmark_syntax.proofs.Scans.{size_most}
use Rattle.commonmark_syntax.proofs.title.past_text.Goals as goal

pub overflow_sub-size : goal.overflow_sub-size
overflow_sub-size g c = size_most (many (character is_any g.C.Class.class)) _ _ c.past_characters-rest.ensures
