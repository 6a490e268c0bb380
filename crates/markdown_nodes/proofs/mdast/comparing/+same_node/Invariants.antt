use Rattle.std.proofs.Common.{◌≡◌, take}
use Rattle.markdown_nodes.specs.View.{views}
use Rattle.markdown_nodes.proofs.mdast.comparing.+same_node.Given as goal

-- the nodes so far are the same
abbrev pub invariant-same_nodes-loop-i : goal.invariant-same_nodes-loop-i
invariant-same_nodes-loop-i l = views (take l.i l.xs) ≡ views (take l.i l.ys)
