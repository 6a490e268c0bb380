use Rattle.std.proofs.Common.{length}
use Rattle.markdown_nodes.specs.WalkLevels.{coming}
use Rattle.table_of_contents.proofs.table_of_contents.Given as goal

abbrev pub decreases-loop-walk : goal.decreases-loop-walk
decreases-loop-walk l = length (coming l.walk)
