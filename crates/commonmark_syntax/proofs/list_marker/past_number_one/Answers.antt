use Rattle.commonmark_syntax.specs.Language.{many, ◌then◌}
use Rattle.commonmark_syntax.specs.Syntax.{byte}
use Rattle.commonmark_syntax.proofs.Scans.{size_most}
use Rattle.commonmark_syntax.proofs.list_marker.past_number_one.Goals as goal

pub overflow_sub-size : goal.overflow_sub-size
overflow_sub-size c = size_most (many (byte 48) then byte 49) _ _ c.in_ok-rest.ensures
