use Rattle.std.proofs.Common.{◌≡◌, ◌+◌, ◌<◌, ◌≤◌, ℕ, length}
use Rattle.std.specs.Prelude.{min, slice_index}
use Rattle.markdown_attention.proofs.openers.Openers.lower_bottoms.Given as goal

-- the bottoms so far are lowered, and the others are as they were
abbrev pub invariant-loop-class : goal.invariant-loop-class
invariant-loop-class l =
    (l.self.stack ≡ l.initial.self.stack) × ((length l.self.bottoms ≡ length l.initial.self.bottoms) × (((k : ℕ) → k < l.class → slice_index l.self.bottoms k ≡ min (slice_index l.initial.self.bottoms k) (length l.initial.self.stack.items)) × ((k : ℕ) → l.class ≤ k → slice_index l.self.bottoms k ≡ slice_index l.initial.self.bottoms k))) × (l.steps.number ≡ l.initial.steps.number + l.class)
