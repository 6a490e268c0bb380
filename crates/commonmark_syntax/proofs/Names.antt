-- The name of a tag, as far as it goes.
use Rattle.std.proofs.Common.{◌≡◌, List, ℕ}
use Rattle.commonmark_syntax.specs.Language.{all, many, one}
use Rattle.commonmark_syntax.specs.Reading.{read}
use Rattle.commonmark_syntax.specs.Syntax.{is_letter, is_of_tag_name, tag_name, whole_tag_name}
use Rattle.commonmark_syntax.proofs.Loops.{many_is_all, sequence_same}

pub whole_name : (s : List ℕ) → read tag_name s ≡ read whole_tag_name s
whole_name s = sequence_same (one is_letter) (many (one is_of_tag_name)) (all is_of_tag_name) s (λ m. many_is_all is_of_tag_name m)
