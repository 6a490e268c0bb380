use Rattle.std.proofs.Common.{◌++◌, ◌∙◌, ap}
use Rattle.std.specs.Prelude.{string_bytes}
use Rattle.markdown_nodes.specs.View.{view}
use Rattle.markdown_nodes.specs.WalkLevels.{coming}
use Rattle.markdown_nodes.proofs.WalkSteps.{next_is}
use Rattle.markdown_nodes.proofs.WalkTexts.{value_read, values, values-walk}
use Rattle.markdown_nodes.proofs.mdast.reading.add_text.Goals as goal

pub nodes-init : goal.nodes-init
nodes-init c = ap (λ s. string_bytes c.args.text.now ++ s) (ap values c.new-walk.ensures ∙ values-walk (view c.args.node.now))

pub nodes-preserved : goal.nodes-preserved
nodes-preserved c =
    let next = next_is c.in_ok-node.field-0 c.in-Some.node (coming c.nodes.walk) (coming c.next.new.self) c.in_ok-node.ensures.next c.in-Some.is in
    value_read _ _ c.value.result.now _ c.in-Some.node.now (coming c.nodes.walk) (coming c.next.new.self) c.nodes.invariant next c.value.ensures c.in_ok-push_str.ensures.bytes
