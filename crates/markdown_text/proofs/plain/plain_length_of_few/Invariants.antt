use Rattle.std.proofs.Common.{false, length, slice_index, ℕ, ◌+◌, ◌-◌, ◌<◌, ◌≡◌}
use Rattle.markdown_text.specs.Plain.{may_begin}
use Rattle.markdown_text.proofs.plain.plain_length_of_few.Given as goal

abbrev pub invariant-loop-size : goal.invariant-loop-size
invariant-loop-size l = record {
  within : l.size < length l.text;
  plain : (k : ℕ) → k < l.size → may_begin l.literals (slice_index l.text k) (slice_index l.text (k + 1)) ≡ false;
}

abbrev pub decreases-loop-size : goal.decreases-loop-size
decreases-loop-size l = length l.text - l.size
