use Rattle.commonmark_syntax.specs.Blocks.{run}
use Rattle.commonmark_syntax.proofs.Scans.{size_most}
use Rattle.commonmark_syntax.proofs.atx_opening.past_signs.Goals as goal

pub overflow_sub-size : goal.overflow_sub-size
overflow_sub-size c = size_most (run 1 35) _ _ c.in_ok-rest.ensures
