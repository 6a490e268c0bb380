use Rattle.std.proofs.Common.{◌≡◌, ◌∷◌, [], ℕ, ◌-◌, ◌<◌, ◌≤◌, length, slice_index}
use Rattle.markdown_json.specs.Strings.{escape}
use Rattle.markdown_json.proofs.strings.plain_size.Given as goal

abbrev pub invariant-loop-at : goal.invariant-loop-at
invariant-loop-at l = record {
  within : l.at ≤ length l.text;
  plain : (k : ℕ) → k < l.at → escape (slice_index l.text k) ≡ slice_index l.text k ∷ [];
}

abbrev pub decreases-loop-at : goal.decreases-loop-at
decreases-loop-at l = length l.text - l.at
