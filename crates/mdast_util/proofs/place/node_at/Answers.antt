use Rattle.mdast_util.proofs.Reaching.{reaches_child, reaches_last}
use Rattle.mdast_util.proofs.place.node_at.Goals as goal

pub levels-preserved : goal.levels-preserved
levels-preserved c =
    reaches_child c.args.offset c.args.tree.now c.levels.node.now c.in-Some.child.now c.child_nodes.result.now c.levels.invariant c.child_nodes.ensures c.in-Some.ensures.first c.in-Some.ensures.held.0 c.in-Some.ensures.held.1

pub returns-clause-deepest : goal.returns-clause-deepest
returns-clause-deepest c = λ ordered.
    reaches_last c.args.offset c.args.tree.now c.levels.node.now c.child_nodes.result.now c.levels.invariant c.child_nodes.ensures c.in_default.ensures.first ordered
