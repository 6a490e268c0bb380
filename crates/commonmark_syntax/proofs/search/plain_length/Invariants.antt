use Rattle.std.proofs.Common.{true, length, slice_index, ℕ, ◌-◌, ◌<◌, ◌≡◌}
use Rattle.commonmark_syntax.proofs.search.plain_length.Given as goal

-- the bytes so far are plain
abbrev pub invariant-loop-size : goal.invariant-loop-size
invariant-loop-size g l = (k : ℕ) → k < l.size → g.C.Class.class (slice_index l.text k) ≡ true

abbrev pub decreases-loop-size : goal.decreases-loop-size
decreases-loop-size g l = length l.text - l.size
