-- Plain bytes of a text, from those of its parts.
use Rattle.std.proofs.Common.{◌≡◌, ℕ, suc, zero, ◌+◌, ◌-◌, ◌<◌, Bool, cond, false, true, ◌&&◌, ◌||◌, List, drop, length, slice_index, subst, take, inl, inr, ap, ◌∙◌, arith, refl, max, min}
use Rattle.std.proofs.lemmas.Bool.{cases_lt}
use Rattle.std.proofs.lemmas.List.{get_or-drop, length-drop}
use Rattle.std.proofs.Math.Seq.{take-length}
use Rattle.std.proofs.lemmas.Bool.Decides.{nat_tests}
use Rattle.commonmark_syntax.specs.Inlines.{is_in_any_case}
use Rattle.markdown_text.specs.Plain.{is_scheme_letter}

-- the bytes from a place on
pub rest_at : (bytes : List ℕ) (at k : ℕ) → slice_index (take (length bytes - at) (drop at bytes)) k ≡ slice_index bytes (at + k)
rest_at bytes at k =
    let whole = ap (λ n. take n (drop at bytes)) (omega (arith, length-drop at bytes)) ∙ take-length (drop at bytes) in
    ap (λ rest. slice_index rest k) whole ∙ get_or-drop at bytes k 0

pub byte_of : (bytes rest : List ℕ) (at k : ℕ) → rest ≡ drop at bytes → slice_index rest k ≡ slice_index bytes (at + k)
byte_of bytes rest at k is = ap (λ (x : List ℕ). slice_index x k) is ∙ get_or-drop at bytes k 0

-- what is true of neighbours up to a place, and of those after it
pub joined : (P : ℕ → ℕ → Type 0) (bytes : List ℕ) (at size : ℕ) → ((k : ℕ) → k < at → P (slice_index bytes k) (slice_index bytes (k + 1)))
    → ((k : ℕ) → k < size → P (slice_index (take (length bytes - at) (drop at bytes)) k) (slice_index (take (length bytes - at) (drop at bytes)) (k + 1)))
    → (k : ℕ) → k < at + size → P (slice_index bytes k) (slice_index bytes (k + 1))
joined P bytes at size before after k below =
    elim (cases_lt k at) [
      | inl less ↦ before k less
      | inr more ↦
          let back : at + (k - at) ≡ k = omega arith in
          let after_back : at + (k - at + 1) ≡ k + 1 = omega (arith, more) in
          let here = rest_at bytes at (k - at) ∙ ap (slice_index bytes) back in
          let next = rest_at bytes at (k - at + 1) ∙ ap (slice_index bytes) after_back in
          subst (λ x. P x (slice_index bytes (k + 1))) here (subst (P (slice_index (take (length bytes - at) (drop at bytes)) (k - at))) next (after (k - at) (omega arith)))
    ]

-- the bytes after the first
pub after_first : (bytes : List ℕ) (k : ℕ) → slice_index (take (length bytes - 1) (drop 1 bytes)) k ≡ slice_index bytes (k + 1)
after_first bytes k = rest_at bytes 1 k ∙ ap (slice_index bytes) (omega arith)

-- the bit of a byte where a construct may begin
pub with_literals : (a b : Bool) → max (cond a 1 0) (cond b 1 0) ≡ cond (a || (true && b)) 1 0
with_literals true true = refl
with_literals true false = refl
with_literals false true = refl
with_literals false false = refl

-- the first letter of www. or of a scheme, after what may come before it
pub of_both : (w s a b : Bool) → (w ≡ true → s ≡ false) → max (min (cond w 1 0) (cond a 1 0)) (min (cond s 1 0) (cond b 1 0)) ≡ cond ((w || s) && cond w a b) 1 0
of_both true true a b apart = (let k : true ≡ false = apart refl in cc)
of_both true false true true apart = refl
of_both true false true false apart = refl
of_both true false false true apart = refl
of_both true false false false apart = refl
of_both false true true true apart = refl
of_both false true true false apart = refl
of_both false true false true apart = refl
of_both false true false false apart = refl
of_both false false true true apart = refl
of_both false false true false apart = refl
of_both false false false true apart = refl
of_both false false false false apart = refl

pub scheme_is_no_www : (c : ℕ) → is_in_any_case 119 c ≡ true → is_scheme_letter c ≡ false
scheme_is_no_www c e = grind (arith, nat_tests)

pub without_literals : (a b : Bool) → ◌≡◌ {A = ℕ} (cond a 1 0) (cond (a || (false && b)) 1 0)
without_literals true b = refl
without_literals false b = refl

-- what a bit says
pub set : (a : Bool) → ◌≡◌ {A = ℕ} (cond a 1 0) 1 → a ≡ true
set true is = refl
set false is = absurd (omega (arith, is))

pub unset : (a : Bool) → ◌≡◌ {A = ℕ} (cond a 1 0) 0 → a ≡ false
unset true is = absurd (omega (arith, is))
unset false is = refl

-- what is true below a place, and at it
pub one_more : (P : ℕ → Type 0) (n : ℕ) → ((k : ℕ) → k < n → P k) → P n → (k : ℕ) → k < n + 1 → P k
one_more P n below here k less =
    elim (cases_lt k n) [
      | inl earlier ↦ below k earlier
      | inr later ↦ let same : n ≡ k = omega (arith, less, later) in subst P same here
    ]

-- what is true of the first byte after some other, and of all neighbours, is true of each byte after some other
pub each : (P : ℕ → ℕ → Type 0) (bytes : List ℕ) (before count : ℕ) → P before (slice_index bytes 0) → ((k : ℕ) → k < count → P (slice_index bytes k) (slice_index bytes (k + 1))) → count + 1 ≡ length bytes
    → (k : ℕ) → k < length bytes → (other : ℕ) × P other (slice_index bytes k)
each P bytes before count first next all zero less = (before, first)
each P bytes before count first next all (suc k) less =
    let place : k + 1 ≡ suc k = omega arith in
    (slice_index bytes k, subst (λ n. P (slice_index bytes k) (slice_index bytes n)) place (next k (omega (arith, less, all))))
