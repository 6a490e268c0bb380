use Rattle.std.proofs.Common.{arith}
use Rattle.std.specs.Prelude.{map}
use Rattle.markdown_nodes.specs.View.{view}
use Rattle.markdown_nodes.specs.WalkLevels.{coming}
use Rattle.mdast_check.specs.References.{told}
use Rattle.mdast_check.proofs.Asking.{asked_all}
use Rattle.markdown_nodes.proofs.WalkSteps.{none_is}
use Rattle.mdast_check.proofs.references.open_references.Goals as goal

pub returns : goal.returns
returns c =
    let left = coming c.nodes.walk in
    asked_all c.in_ok-known.known (view c.args.tree.now) (map told c.nodes.found.items) left c.in_ok-known.ensures (none_is c.in_ok-node.field-0 left _ c.in_ok-node.ensures.next c.in_default.is) c.nodes.invariant
