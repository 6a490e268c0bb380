use Rattle.std.proofs.Common.{◌≡◌, length}
use Rattle.markdown.specs.Hidden.{with_set}
use Rattle.markdown.proofs.hidden.set_all.Given as goal

-- with the flags that are left to set, all are set
abbrev pub invariant-offsets : goal.invariant-offsets
invariant-offsets l = with_set l.rest l.flags.items ≡ with_set l.offsets l.initial.flags.items

abbrev pub decreases-offsets : goal.decreases-offsets
decreases-offsets l = length l.rest
