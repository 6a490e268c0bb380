use Rattle.std.proofs.Common.{◌≡◌, length}
use Rattle.std.specs.List.{find}
use Rattle.markdown_nodes.specs.View.{view}
use Rattle.markdown_nodes.specs.WalkLevels.{coming}
use Rattle.mdast_util.specs.Definitions.{defines, definition_in}
use Rattle.mdast_util.proofs.definitions.definition_of.Given as goal

abbrev pub invariant-nodes : goal.invariant-nodes
invariant-nodes l = find (defines l.identifier) (coming l.walk) ≡ definition_in (view l.fn.tree) l.identifier

abbrev pub decreases-nodes : goal.decreases-nodes
decreases-nodes l = length (coming l.walk)
