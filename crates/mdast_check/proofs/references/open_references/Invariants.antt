use Rattle.std.proofs.Common.{◌≡◌, ◌++◌, length, map}
use Rattle.std.specs.List.{filter_map}
use Rattle.markdown_nodes.specs.View.{view}
use Rattle.markdown_nodes.specs.WalkLevels.{coming}
use Rattle.mdast_check.specs.Asking.{answered, open_node}
use Rattle.mdast_check.specs.References.{told}
use Rattle.markdown_nodes.specs.Walk.{walk}
use Rattle.mdast_check.proofs.references.open_references.Given as goal

abbrev pub invariant-nodes : goal.invariant-nodes
invariant-nodes l = map told l.found.items ++ filter_map (open_node (answered l.known)) (coming l.walk) ≡ filter_map (open_node (answered l.known)) (walk (view l.fn.tree))

abbrev pub decreases-nodes : goal.decreases-nodes
decreases-nodes l = length (coming l.walk)
