-- The language and the meta of an info string, as they are found one after the other.
use Rattle.std.proofs.Common.{◌≡◌, ℕ, zero, suc, ◌<◌, ◌≤◌, Bool, true, false, cond, List, [], ◌∷◌, take, drop, length, Some, refl, inl, inr, sym, ◌∙◌, ap, arith}
use Rattle.std.specs.Prelude.{not, slice_index}
use Rattle.commonmark_syntax.specs.Blocks.{with_byte, without_last}
use Rattle.commonmark_syntax.specs.Html.{front}
use Rattle.commonmark_syntax.specs.InfoStrings.{info_string, is_solid, language, meta}
use Rattle.commonmark_syntax.specs.Reading.{behind_run}
use Rattle.commonmark_syntax.specs.Syntax.{is_blank}
use Rattle.commonmark_syntax.proofs.Counts.{many_counted}
use Rattle.commonmark_syntax.proofs.Loops.{many_is_all}
use Rattle.commonmark_syntax.proofs.Tests.{cases_bool, not_true}

front_counted : (p : ℕ → Bool) (s : List ℕ) (n : ℕ) → ((i : ℕ) → i < n → p (slice_index s i) ≡ true) → (n < length s → p (slice_index s n) ≡ false) → n ≤ length s → take n s ≡ front p s
front_counted p [] zero every next most = refl
front_counted p [] (suc n) every next most = absurd (omega arith)
front_counted p (c ∷ u) zero every next most = sym (ap (λ (b : Bool). cond b (c ∷ front p u) []) (next (omega arith)))
front_counted p (c ∷ u) (suc n) every next most =
    ap (λ (x : List ℕ). c ∷ x) (front_counted p u n (λ i less. every (suc i) (omega (arith, less))) (λ less. next (omega (arith, less))) (omega (arith, most)))
    ∙ sym (ap (λ (b : Bool). cond b (c ∷ front p u) []) (every 0 (omega arith)))

behind_counted : (p : ℕ → Bool) (s : List ℕ) (n : ℕ) → ((i : ℕ) → i < n → p (slice_index s i) ≡ true) → (n < length s → p (slice_index s n) ≡ false) → n ≤ length s → drop n s ≡ behind_run p s
behind_counted p s n every next most =
    (let e : Some (drop n s) ≡ Some (behind_run p s) = sym (many_counted p s n every next most) ∙ many_is_all p s in cc)

-- The end is trimmed, and the front is taken off: either may come first.
kept_byte : (p q : ℕ → Bool) (c : ℕ) (v : List ℕ) → q c ≡ false → behind_run q (with_byte p c v) ≡ with_byte p c v
kept_byte p q c [] other = elim (cases_bool (p c)) [
  | inl is ↦ ap (λ (b : Bool). behind_run q (cond b [] (c ∷ []))) is ∙ sym (ap (λ (b : Bool). cond b [] (c ∷ [])) is)
  | inr not ↦ ap (λ (b : Bool). behind_run q (cond b [] (c ∷ []))) not ∙ ap (λ (b : Bool). cond b [] (c ∷ [])) other ∙ sym (ap (λ (b : Bool). cond b [] (c ∷ [])) not)
]
kept_byte p q c (d ∷ v) other = ap (λ (b : Bool). cond b (behind_run q (d ∷ v)) (c ∷ d ∷ v)) other

lost_byte : (p q : ℕ → Bool) (c : ℕ) (v : List ℕ) → q c ≡ true → behind_run q (with_byte p c v) ≡ behind_run q v
lost_byte p q c [] same = elim (cases_bool (p c)) [
  | inl is ↦ ap (λ (b : Bool). behind_run q (cond b [] (c ∷ []))) is
  | inr not ↦ ap (λ (b : Bool). behind_run q (cond b [] (c ∷ []))) not ∙ ap (λ (b : Bool). cond b [] (c ∷ [])) same
]
lost_byte p q c (d ∷ v) same = ap (λ (b : Bool). cond b (behind_run q (d ∷ v)) (c ∷ d ∷ v)) same

either_first : (p q : ℕ → Bool) (s : List ℕ) → without_last p (behind_run q s) ≡ behind_run q (without_last p s)
either_first p q [] = refl
either_first p q (c ∷ u) = elim (cases_bool (q c)) [
  | inl is ↦ ap (λ (b : Bool). without_last p (cond b (behind_run q u) (c ∷ u))) is ∙ either_first p q u ∙ sym (lost_byte p q c (without_last p u) is)
  | inr not ↦ ap (λ (b : Bool). without_last p (cond b (behind_run q u) (c ∷ u))) not ∙ sym (kept_byte p q c (without_last p u) not)
]

-- The first word is no part of what is trimmed.
solid_kept : (c : ℕ) (v : List ℕ) → is_solid c ≡ true → front is_solid (with_byte is_blank c v) ≡ c ∷ front is_solid v
solid_kept c [] solid = ap (λ (b : Bool). front is_solid (cond b [] (c ∷ []))) (not_true (is_blank c) solid) ∙ ap (λ (b : Bool). cond b (c ∷ []) []) solid
solid_kept c (d ∷ v) solid = ap (λ (b : Bool). cond b (c ∷ front is_solid (d ∷ v)) []) solid

blank_first : (c : ℕ) (v : List ℕ) → is_solid c ≡ false → front is_solid (with_byte is_blank c v) ≡ []
blank_first c [] blank = elim (cases_bool (is_blank c)) [
  | inl is ↦ ap (λ (b : Bool). front is_solid (cond b [] (c ∷ []))) is
  | inr not ↦ ap (λ (b : Bool). front is_solid (cond b [] (c ∷ []))) not ∙ ap (λ (b : Bool). cond b (c ∷ []) []) blank
]
blank_first c (d ∷ v) blank = ap (λ (b : Bool). cond b (c ∷ front is_solid (d ∷ v)) []) blank

first_word : (s : List ℕ) → front is_solid s ≡ language s
first_word [] = refl
first_word (c ∷ u) = elim (cases_bool (is_solid c)) [
  | inl solid ↦ ap (λ (b : Bool). cond b (c ∷ front is_solid u) []) solid ∙ ap (λ (x : List ℕ). c ∷ x) (first_word u) ∙ sym (solid_kept c (info_string u) solid)
  | inr blank ↦ ap (λ (b : Bool). cond b (c ∷ front is_solid u) []) blank ∙ sym (blank_first c (info_string u) blank)
]

pub language_counted : (s : List ℕ) (n : ℕ) → ((i : ℕ) → i < n → is_solid (slice_index s i) ≡ true) → (n < length s → is_solid (slice_index s n) ≡ false) → n ≤ length s → take n s ≡ language s
language_counted s n every next most = front_counted is_solid s n every next most ∙ first_word s

pub meta_counted : (s : List ℕ) (n : ℕ) → ((i : ℕ) → i < n → is_solid (slice_index s i) ≡ true) → (n < length s → is_solid (slice_index s n) ≡ false) → n ≤ length s → info_string (behind_run is_blank (drop n s)) ≡ meta s
meta_counted s n every next most =
    ap (λ (x : List ℕ). info_string (behind_run is_blank x)) (behind_counted is_solid s n every next most)
    ∙ either_first is_blank is_blank (behind_run is_solid s) ∙ ap (behind_run is_blank) (either_first is_blank is_solid s)
