use Rattle.std.proofs.Common.{length, slice_index, ℕ, ◌-◌, ◌<◌, ◌≤◌, ◌≢◌}
use Rattle.commonmark_syntax.proofs.search.find_byte_in_few.Given as goal

abbrev pub invariant-loop-at : goal.invariant-loop-at
invariant-loop-at l = record {
  within : l.at ≤ length l.text;
  before : (k : ℕ) → k < l.at → slice_index l.text k ≢ l.of;
}

abbrev pub decreases-loop-at : goal.decreases-loop-at
decreases-loop-at l = length l.text - l.at
