use Rattle.std.proofs.Common.{◌≡◌, take}
use Rattle.markdown_nodes.proofs.mdast.comparing.same_align.Given as goal

-- the columns so far are the same
abbrev pub invariant-loop-i : goal.invariant-loop-i
invariant-loop-i l = take l.i l.xs ≡ take l.i l.ys
