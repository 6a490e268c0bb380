use Rattle.std.proofs.Common.{◌≡◌, take}
use Rattle.markdown_kinds.proofs.copying.copy_align.Given as goal

-- the columns so far are copied
abbrev pub invariant-loop-kind : goal.invariant-loop-kind
invariant-loop-kind l = l.copy.items ≡ take l.kind-index l.kind-items
