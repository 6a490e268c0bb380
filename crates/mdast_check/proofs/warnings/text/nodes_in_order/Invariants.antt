use Rattle.std.proofs.Common.{◌≡◌, ◌++◌, length, map}
use Rattle.markdown_nodes.specs.View.{view}
use Rattle.markdown_nodes.specs.WalkLevels.{coming}
use Rattle.markdown_nodes.specs.Walk.{walk}
use Rattle.mdast_check.proofs.Reading.{viewed}
use Rattle.mdast_check.proofs.warnings.text.nodes_in_order.Given as goal

abbrev pub invariant-nodes : goal.invariant-nodes
invariant-nodes l = map viewed l.nodes.items ++ coming l.walk ≡ walk (view l.fn.tree)

abbrev pub decreases-nodes : goal.decreases-nodes
decreases-nodes l = length (coming l.walk)
