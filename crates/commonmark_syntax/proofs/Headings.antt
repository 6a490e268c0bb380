-- The ends of headings.
use Rattle.std.proofs.Common.{◌≡◌, ℕ, zero, suc, ◌-◌, ◌<◌, ◌≤◌, Bool, true, false, cond, List, [], ◌∷◌, take, length, refl, sym, ◌∙◌, ap, arith}
use Rattle.std.specs.Prelude.{not, slice_index}
use Rattle.commonmark_syntax.specs.Blocks.{ends_solid, with_byte, without_last}
use Rattle.commonmark_syntax.specs.Syntax.{is_blank}

-- all of it
none_left : (p : ℕ → Bool) (s : List ℕ) → ((k : ℕ) → k < length s → p (slice_index s k) ≡ true) → without_last p s ≡ []
none_left p [] every = refl
none_left p (c ∷ u) every =
    ap (with_byte p c) (none_left p u (λ k less. every (suc k) (omega (arith, less)))) ∙ ap (λ b. cond b [] (c ∷ [])) (every 0 (omega arith))

-- a byte before a text that is not empty
pub before_some : (p : ℕ → Bool) (c : ℕ) (v : List ℕ) → 0 < length v → with_byte p c v ≡ c ∷ v
before_some p c [] some = absurd (omega arith)
before_some p c (d ∷ v) some = refl

take_length : (u : List ℕ) (n : ℕ) → n ≤ length u → length (take n u) ≡ n
take_length u zero less = refl
take_length [] (suc n) less = absurd (omega arith)
take_length (c ∷ u) (suc n) less = ap suc (take_length u n (omega (arith, less)))

-- by the number of bytes that stay
stays : (p : ℕ → Bool) (s : List ℕ) (m : ℕ) → m ≤ length s → ((k : ℕ) → m ≤ k → k < length s → p (slice_index s k) ≡ true)
    → (0 < m → p (slice_index s (m - 1)) ≡ false) → without_last p s ≡ take m s
stays p s zero most every next = none_left p s (λ k less. every k (omega arith) less)
stays p [] (suc m) most every next = absurd (omega arith)
stays p (c ∷ u) (suc zero) most every next =
    ap (with_byte p c) (none_left p u (λ k less. every (suc k) (omega arith) (omega (arith, less)))) ∙ ap (λ b. cond b [] (c ∷ [])) (next (omega arith))
stays p (c ∷ u) (suc (suc m)) most every next =
    let place : suc (suc m) - 1 ≡ suc (suc m - 1) = omega arith in
    let other : p (slice_index u (suc m - 1)) ≡ false = sym (ap (λ k. p (slice_index (c ∷ u) k)) place) ∙ next (omega arith) in
    let inner : without_last p u ≡ take (suc m) u = stays p u (suc m) (omega (arith, most)) (λ k least less. every (suc k) (omega (arith, least)) (omega (arith, less))) (λ some. other) in
    ap (with_byte p c) inner ∙ before_some p c (take (suc m) u) (omega (arith, take_length u (suc m) (omega (arith, most))))

pub last_counted : (p : ℕ → Bool) (s : List ℕ) (n : ℕ) → n ≤ length s → ((k : ℕ) → length s - n ≤ k → k < length s → p (slice_index s k) ≡ true)
    → (n < length s → p (slice_index s (length s - n - 1)) ≡ false) → take (length s - n) s ≡ without_last p s
last_counted p s n most every next =
    sym (stays p s (length s - n) (omega arith) every (λ some. next (omega (arith, some, most))))

-- the last byte of a text
pub solid_last : (s : List ℕ) → 0 < length s → ends_solid s ≡ not (is_blank (slice_index s (length s - 1)))
solid_last [] some = absurd (omega arith)
solid_last (c ∷ []) some = refl
solid_last (c ∷ d ∷ u) some =
    let place : length (c ∷ d ∷ u) - 1 ≡ suc (length (d ∷ u) - 1) = omega arith in
    solid_last (d ∷ u) (omega arith) ∙ ap (λ k. not (is_blank (slice_index (c ∷ d ∷ u) k))) (sym place)
