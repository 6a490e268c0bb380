-- The text of a span, as the program reads it.
use Rattle.std.proofs.Common.{◌≡◌, ◌≤◌, ◌+◌, arith, ℕ, Bool, true, false, cond, List, length, Some, None, Result, Ok, Err, refl, sym, ap, ◌∙◌}
use Rattle.std.specs.Prelude.{IsUtf8, MatchResult, option_copied, slice_range}
use Rattle.std.specs.Result.{result_ok}
use Rattle.std.specs.Borrow.{Bor}
use Rattle.std.specs.Str.{is_utf8}
use Rattle.std.proofs.lemmas.Bool.{le-leb}
use Rattle.std.proofs.lemmas.Str.{IsUtf8-from_is_utf8, is_utf8-from_IsUtf8}
use Rattle.markdown_events.specs.Slices.{text_between}

by_test : (b : Bool) (P : Type 0) (x : List ℕ) → (b ≡ true → P) → ¬ P → cond b (Some x) None ≡ None
by_test true P x holds fails = absurd (fails (holds refl))
by_test false P x holds fails = refl

within : (bytes : List ℕ) (i j : ℕ) → i ≤ j → j ≤ length bytes → text_between bytes i j ≡ cond (is_utf8 (slice_range bytes i j)) (Some (slice_range bytes i j)) None
within bytes i j low high = rw (le-leb i j low, le-leb j (length bytes) high) refl

pub read_is : {E : Type 0} (bytes : List ℕ) (i j : ℕ) (r : Result (Bor (List ℕ)) E) (Q : E → Type 0) → i ≤ j → j ≤ length bytes
    → MatchResult r (λ s. (s.now ≡ slice_range bytes i j) × IsUtf8 (slice_range bytes i j)) (λ e. ¬ (IsUtf8 (slice_range bytes i j)) × Q e)
    → option_copied (result_ok r) ≡ text_between bytes i j
read_is bytes i j (Ok s) Q low high h =
    rw (within bytes i j low high, is_utf8-from_IsUtf8 (slice_range bytes i j) h.1) (ap (λ (x : List ℕ). Some x) h.0)
read_is bytes i j (Err e) Q low high h =
    sym (within bytes i j low high ∙ by_test (is_utf8 (slice_range bytes i j)) (IsUtf8 (slice_range bytes i j)) (slice_range bytes i j) (IsUtf8-from_is_utf8 (slice_range bytes i j)) h.0)

-- a part of the whole text is what stands there
pub part_is : (bytes : List ℕ) (i j : ℕ) (part : List ℕ) → part ≡ slice_range bytes i j → length part + i ≡ j → j ≤ length bytes → IsUtf8 part → Some part ≡ text_between bytes i j
part_is bytes i j part is ends high valid =
    sym (within bytes i j (omega (arith, ends)) high ∙ (rw (← is, is_utf8-from_IsUtf8 part valid) refl))
