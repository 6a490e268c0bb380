use Rattle.std.proofs.Common.{length, slice_index, ℕ, ◌-◌, ◌<◌, ◌≢◌}
use Rattle.commonmark_syntax.proofs.search.find_byte.Given as goal

-- the byte is not among those so far
abbrev pub invariant-loop-at : goal.invariant-loop-at
invariant-loop-at l = (k : ℕ) → k < l.at → slice_index l.text k ≢ l.of

abbrev pub decreases-loop-at : goal.decreases-loop-at
decreases-loop-at l = length l.text - l.at
