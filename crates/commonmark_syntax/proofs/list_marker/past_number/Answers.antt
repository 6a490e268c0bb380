use Rattle.commonmark_syntax.specs.Language.{one, some}
use Rattle.commonmark_syntax.specs.Syntax.{is_digit}
use Rattle.commonmark_syntax.proofs.Scans.{size_most}
use Rattle.commonmark_syntax.proofs.list_marker.past_number.Goals as goal

pub overflow_sub-size : goal.overflow_sub-size
overflow_sub-size c = size_most (some (one is_digit)) _ _ c.in_ok-rest.ensures
