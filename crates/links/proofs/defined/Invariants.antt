use Rattle.std.proofs.Common.{length}
use Rattle.markdown_nodes.specs.WalkLevels.{coming}
use Rattle.links.proofs.defined.Given as goal

abbrev pub decreases-loop-walk : goal.decreases-loop-walk
decreases-loop-walk l = length (coming l.walk)
