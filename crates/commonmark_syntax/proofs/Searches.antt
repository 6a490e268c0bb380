-- The bytes before a place, and those after it.
use Rattle.std.proofs.Common.{◌≡◌, ◌≢◌, ◌==◌, ℕ, ◌+◌, ◌-◌, ◌<◌, ◌≤◌, Bool, cond, false, true, List, [], ◌∷◌, zero, suc, ◌||◌, sym, drop, inl, inr, length, slice_index, subst, take, arith, ap, refl, ◌∙◌}
use Rattle.std.proofs.lemmas.Bool.{cases_lt}
use Rattle.std.proofs.lemmas.Bool.Decides.{nat_tests}
use Rattle.std.proofs.lemmas.List.{get_or-drop, length-drop}
use Rattle.std.specs.Prelude.{nat_lt}
use Rattle.std.proofs.Math.Seq.{take-length}
use Rattle.commonmark_syntax.specs.Blocks.{has}
use Rattle.commonmark_syntax.proofs.Tests.{less_test, or_left}

-- the bytes from a place on
rest_of : (bytes : List ℕ) (at : ℕ) → take (length bytes - at) (drop at bytes) ≡ drop at bytes
rest_of bytes at = ap (λ k. take k (drop at bytes)) (omega (arith, length-drop at bytes)) ∙ take-length (drop at bytes)

pub rest_at : (bytes : List ℕ) (at k : ℕ) → slice_index (take (length bytes - at) (drop at bytes)) k ≡ slice_index bytes (at + k)
rest_at bytes at k = ap (λ rest. slice_index rest k) (rest_of bytes at) ∙ get_or-drop at bytes k 0

-- what is true of those after a place, up to another, in the bytes from there on and in all bytes
pub shifted : (P : ℕ → Type 0) (at size : ℕ) (bytes : List ℕ) → ((k : ℕ) → k < size → P (slice_index (take (length bytes - at) (drop at bytes)) k)) → (k : ℕ) → at ≤ k → k < at + size → P (slice_index bytes k)
shifted P at size bytes after k from below =
    let place : at + (k - at) ≡ k = omega arith in
    subst P (rest_at bytes at (k - at) ∙ ap (λ i. slice_index bytes i) place) (after (k - at) (omega arith))

rest_length : (bytes : List ℕ) (at : ℕ) → length (take (length bytes - at) (drop at bytes)) ≡ length bytes - at
rest_length bytes at = ap length (rest_of bytes at) ∙ length-drop at bytes

pub most_of_rest : (bytes : List ℕ) (at size : ℕ) → size ≤ length (take (length bytes - at) (drop at bytes)) → at ≤ length bytes → at + size ≤ length bytes
most_of_rest bytes at size most le = omega (arith, most, le, rest_length bytes at)

-- and of the one there
pub shifted_there : (P : ℕ → Type 0) (at size : ℕ) (bytes : List ℕ) → (size < length (take (length bytes - at) (drop at bytes)) → P (slice_index (take (length bytes - at) (drop at bytes)) size)) → at + size < length bytes → P (slice_index bytes (at + size))
shifted_there P at size bytes there less = subst P (rest_at bytes at size) (there (omega (arith, less, rest_length bytes at)))

-- and where it is true of those before that place, or before one after it, it is true of all up to there
pub joined : (P : ℕ → Type 0) (known at size : ℕ) (bytes : List ℕ) → at ≤ known → ((k : ℕ) → k < known → P (slice_index bytes k)) → ((k : ℕ) → k < size → P (slice_index (take (length bytes - at) (drop at bytes)) k))
    → (k : ℕ) → k < at + size → P (slice_index bytes k)
joined P known at size bytes le before after k below =
    elim (cases_lt k at) [
      | inl lt ↦ before k (omega (arith, lt, le))
      | inr ge ↦ shifted P at size bytes after k ge below
    ]

-- what a bit says of a byte and a class
pub unset : (b : Bool) → ◌≡◌ {A = ℕ} (cond b 0 1) 0 → b ≡ true
unset true is = refl
unset false is = absurd (omega (arith, is))

-- what a bit says of two bytes
pub same_byte : (b of : ℕ) → ◌≡◌ {A = ℕ} (cond (b == of) 1 0) 1 → b ≡ of
same_byte b of is = grind (arith, nat_tests, is)

pub other_byte : (b of : ℕ) → ◌≡◌ {A = ℕ} (cond (b == of) 1 0) 0 → b ≢ of
other_byte b of is = grind (arith, nat_tests, is)

shorter : (a b : ℕ) → nat_lt (suc a) (suc b) ≡ nat_lt a b
shorter a b = elim (cases_lt a b) [
  | inl less ↦ less_test (suc a) (suc b) (omega (arith, less)) ∙ sym (less_test a b less)
  | inr more ↦ grind (arith, nat_tests, more)
]

-- a byte is in a text where it is found before the end
pub found_is : (of : ℕ) (s : List ℕ) (n : ℕ) → n ≤ length s → ((k : ℕ) → k < n → slice_index s k ≢ of) → (n < length s → slice_index s n ≡ of) → nat_lt n (length s) ≡ has of s
found_is of [] zero most before at = refl
found_is of [] (suc n) most before at = absurd (omega arith)
found_is of (c ∷ u) zero most before at = less_test 0 (length (c ∷ u)) (omega arith) ∙ sym (or_left (c == of) (has of u) (let here : c ≡ of = at (omega arith) in grind (arith, nat_tests, here)))
found_is of (c ∷ u) (suc n) most before at =
    let other : (c == of) ≡ false = (let no : c ≢ of = before 0 (omega arith) in grind (arith, nat_tests, no)) in
    shorter n (length u) ∙ found_is of u n (omega arith) (λ k less. before (suc k) (omega (arith, less))) (λ less. at (omega (arith, less))) ∙ sym (ap (λ b. b || has of u) other)
