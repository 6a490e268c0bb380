use Rattle.std.specs.Vec.{vec_len}
use Rattle.markdown_nodes.specs.Freeing.{WithoutLast}
use Rattle.markdown_nodes.proofs.mdast.drop_leaves.Given as goal

abbrev pub invariant-loop-last : goal.invariant-loop-last
invariant-loop-last l = WithoutLast l.initial.nodes.items l.nodes.items

abbrev pub decreases-loop-last : goal.decreases-loop-last
decreases-loop-last l = vec_len l.nodes
