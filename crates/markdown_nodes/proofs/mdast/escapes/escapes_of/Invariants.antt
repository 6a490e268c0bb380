use Rattle.std.proofs.Common.{length}
use Rattle.markdown_nodes.specs.WalkLevels.{coming}
use Rattle.markdown_nodes.proofs.mdast.escapes.escapes_of.Given as goal

abbrev pub decreases-nodes : goal.decreases-nodes
decreases-nodes l = length (coming l.walk)
