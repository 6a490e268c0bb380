use Rattle.std.proofs.Common.{true, length, slice_index, ℕ, ◌-◌, ◌<◌, ◌≤◌, ◌≡◌}
use Rattle.commonmark_syntax.proofs.search.plain_length_of_few.Given as goal

abbrev pub invariant-loop-size : goal.invariant-loop-size
invariant-loop-size g l = record {
  within : l.size ≤ length l.text;
  plain : (k : ℕ) → k < l.size → g.C.Class.class (slice_index l.text k) ≡ true;
}

abbrev pub decreases-loop-size : goal.decreases-loop-size
decreases-loop-size g l = length l.text - l.size
