use Rattle.markdown_nodes.specs.View.{view}
use Rattle.markdown_nodes.specs.WalkLevels.{coming}
use Rattle.mdast_check.proofs.Linting.{next_read, some_left, warns}
use Rattle.markdown_nodes.proofs.WalkSteps.{next_is}
use Rattle.mdast_check.proofs.warnings.warnings.Goals as goal

pub add_warnings-requires : goal.add_warnings-requires
add_warnings-requires c =
    let before = coming c.nodes.walk in
    let after = coming c.next.new.self in
    let next = next_is c.in_ok-node.field-0 c.in-Some.node before after c.in_ok-node.ensures.next c.in-Some.is in
    let some = c.pop.ensures.variant.1 (some_left c.nodes.texts.items before after (view c.in-Some.node.now) c.nodes.texts.len c.nodes.invariant.read next c.nodes.texts.ok.0) in
    (next_read c.nodes.texts.items c.pop.new.self.items c.pop.result c.unwrap_or-has_text.result before after (view c.in-Some.node.now) c.nodes.invariant.read next c.pop.ensures.items some c.unwrap_or-has_text.ensures).0

pub nodes-preserved : goal.nodes-preserved
nodes-preserved c =
    let before = coming c.nodes.walk in
    let after = coming c.next.new.self in
    let next = next_is c.in_ok-node.field-0 c.in-Some.node before after c.in_ok-node.ensures.next c.in-Some.is in
    let some = c.pop.ensures.variant.1 (some_left c.nodes.texts.items before after (view c.in-Some.node.now) c.nodes.texts.len c.nodes.invariant.read next c.nodes.texts.ok.0) in
    let read = (next_read c.nodes.texts.items c.pop.new.self.items c.pop.result c.unwrap_or-has_text.result before after (view c.in-Some.node.now) c.nodes.invariant.read next c.pop.ensures.items some c.unwrap_or-has_text.ensures).1 in
    warns (view c.args.tree.now) c.nodes.around c.pass.new.self c.nodes.texts.items c.pop.new.self.items c.nodes.found.items c.add_warnings.new.found.items before after (view c.in-Some.node.now) c.nodes.invariant next read c.in_ok-add_warnings.ensures c.in_ok-pass.ensures
