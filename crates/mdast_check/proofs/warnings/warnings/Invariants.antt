use Rattle.std.proofs.Common.{length}
use Rattle.markdown_nodes.specs.View.{view}
use Rattle.markdown_nodes.specs.WalkLevels.{coming}
use Rattle.mdast_check.proofs.Linting.{WarnedSoFar}
use Rattle.mdast_check.proofs.warnings.warnings.Given as goal

abbrev pub invariant-nodes : goal.invariant-nodes
invariant-nodes l = WarnedSoFar (view l.fn.tree) l.around l.texts.items l.found.items (coming l.walk)

abbrev pub decreases-nodes : goal.decreases-nodes
decreases-nodes l = length (coming l.walk)
