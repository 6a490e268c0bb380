-- The size of a line, by the control characters in it.
use Rattle.std.proofs.Common.{◌≡◌, ◌≢◌, ℕ, ◌+◌, ◌-◌, ◌<◌, ◌≤◌, List, drop, inl, inr, length, slice_index, subst, take, arith, ap}
use Rattle.std.proofs.lemmas.Bool.{cases_lt}
use Rattle.markdown_flow.specs.Lines.{IsInLine}
use Rattle.markdown_events.proofs.Searches.{shifted}

-- none of these bytes ends a line
high : (b : ℕ) → 32 ≤ b → (b ≢ 10) × (b ≢ 13)
high b is = (λ e. omega (arith, is, e), λ e. omega (arith, is, e))

-- there is none before the first
pub at_first : (text : List ℕ) (size : ℕ) → ((k : ℕ) → k < size → 32 ≤ slice_index text k) → IsInLine text 0 size
at_first text size before k from below = high _ (before k below)

-- one that does not end the line, and what comes before the next
pub more : (text : List ℕ) (size next : ℕ) → IsInLine text 0 size → slice_index text size ≢ 10 → slice_index text size ≢ 13 → ((k : ℕ) → k < next → 32 ≤ slice_index (take (length text - (size + 1)) (drop (size + 1) text)) k) → IsInLine text 0 (size + 1 + next)
more text size next so_far feed return after k from below =
    elim (cases_lt k size) [
      | inl lt ↦ so_far k from lt
      | inr ge ↦ elim (cases_lt size k) [
        | inl gt ↦ high _ (shifted (λ b. 32 ≤ b) (size + 1) next text after k (omega arith) below)
        | inr le ↦ let same : size ≡ k = omega arith in subst (λ i. (slice_index text i ≢ 10) × (slice_index text i ≢ 13)) same (feed, return)
      ]
    ]
