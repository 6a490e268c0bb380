-- Spaces at the end of a text, which are read backwards.
use Rattle.std.proofs.Common.{◌≡◌, ◌≢◌, ℕ, zero, suc, ◌-◌, ◌<◌, ◌≤◌, ◌⊎◌, true, false, cond, List, [], ◌∷◌, drop, length, get_or, Some, None, refl, inl, inr, sym, subst, ◌∙◌, ap, arith, ◌==◌}
use Rattle.std.specs.Prelude.{option_and_then, reverse, slice_index}
use Rattle.std.proofs.lemmas.Bool.Decides.{nat_tests}
use Rattle.std.proofs.lemmas.List.{get_or-reverse, length-reverse}
use Rattle.commonmark_syntax.specs.Inlines.{is_space, spaces_break}
use Rattle.commonmark_syntax.specs.Language.{IsNotAt, Leaves, all, ◌then◌}
use Rattle.commonmark_syntax.specs.Reading.{behind_run, everything, is_clear, read}
use Rattle.commonmark_syntax.specs.Syntax.{byte}
use Rattle.commonmark_syntax.proofs.Counts.{many_counted}
use Rattle.commonmark_syntax.proofs.Exact.{is_not_at, leaves}
use Rattle.commonmark_syntax.proofs.Fronts.{AreBytes, bytes_of}
use Rattle.commonmark_syntax.proofs.Loops.{many_is_all}

-- the bytes of a text are those of it backwards
bytes_reversed : (s : List ℕ) → ((i : ℕ) → get_or s i 0 < 256) → AreBytes (reverse s)
bytes_reversed s each = bytes_of (reverse s) (λ i. elim (inside i) [
  | inl less ↦ subst (λ x. x < 256) (sym (get_or-reverse s i 0 less)) (each (length s - 1 - i))
  | inr out ↦ subst (λ x. x < 256) (sym (beyond (reverse s) i (omega (arith, out, length-reverse s)))) (omega arith)
])
  where
    inside : (i : ℕ) → (i < length s) ⊎ (length s ≤ i)
    inside i = grind arith

    beyond : (x : List ℕ) (i : ℕ) → length x ≤ i → get_or x i 0 ≡ 0
    beyond [] i le = refl
    beyond (c ∷ x) zero le = absurd (omega (arith, le))
    beyond (c ∷ x) (suc i) le = beyond x i (omega (arith, le))

-- n spaces, and something else after them
pub record AreSpaces (s : List ℕ) (n : ℕ) : Type 0 where
  pub most : n ≤ length s
  pub spaces : (k : ℕ) → k < n → slice_index s k ≡ 32
  pub other : n < length s → slice_index s n ≢ 32

other_test : (c : ℕ) → c ≢ 32 → (c == 32) ≡ false
other_test c other = grind (arith, nat_tests)

same_test : (c : ℕ) → c ≡ 32 → (c == 32) ≡ true
same_test c same = grind (arith, nat_tests)

counted : (s : List ℕ) (n : ℕ) → AreSpaces s n → behind_run is_space s ≡ drop n s
counted s n it =
    let e : Some (behind_run is_space s) ≡ Some (drop n s) = sym (many_is_all is_space s) ∙ many_counted is_space s n (λ k less. same_test _ (it.spaces k less)) (λ less. other_test _ (it.other less)) it.most in cc

some_read : (s : List ℕ) (n : ℕ) → 2 ≤ n → AreSpaces s n → read spaces_break s ≡ Some (drop n s)
some_read [] n two it = absurd (omega (arith, two, it.most))
some_read (c ∷ []) n two it = absurd (omega (arith, two, it.most))
some_read (c ∷ d ∷ u) n two it =
    let e : (c == 32) ≡ true = same_test c (it.spaces 0 (omega (arith, two))) in
    let f : (d == 32) ≡ true = same_test d (it.spaces 1 (omega (arith, two))) in
    ap (λ b. option_and_then (read (byte 32 then all is_space)) (cond b (Some (d ∷ u)) None)) e
    ∙ ap (λ b. option_and_then (read (all is_space)) (cond b (Some u) None)) f
    ∙ ap Some (sym (ap (λ b. cond b (behind_run is_space (d ∷ u)) (c ∷ d ∷ u)) e ∙ ap (λ b. cond b (behind_run is_space u) (d ∷ u)) f) ∙ counted (c ∷ d ∷ u) n it)

none_read : (s : List ℕ) (n : ℕ) → n < 2 → AreSpaces s n → read spaces_break s ≡ None
none_read [] n few it = refl
none_read (c ∷ u) zero few it = ap (λ b. option_and_then (read (byte 32 then all is_space)) (cond b (Some u) None)) (other_test c (it.other (omega arith)))
none_read (c ∷ []) (suc zero) few it = ap (λ b. option_and_then (read (byte 32 then all is_space)) (cond b (Some []) None)) (same_test c (it.spaces 0 (omega arith)))
none_read (c ∷ d ∷ u) (suc zero) few it =
    ap (λ b. option_and_then (read (byte 32 then all is_space)) (cond b (Some (d ∷ u)) None)) (same_test c (it.spaces 0 (omega arith)))
    ∙ ap (λ b. option_and_then (read (all is_space)) (cond b (Some u) None)) (other_test d (it.other (omega arith)))
none_read (c ∷ u) (suc (suc n)) few it = absurd (omega (arith, few))

-- the same of a text from its end on
pub record EndsInSpaces (s : List ℕ) (n : ℕ) : Type 0 where
  pub most : n ≤ length s
  pub spaces : (k : ℕ) → length s - n ≤ k → k < length s → slice_index s k ≡ 32
  pub other : n < length s → slice_index s (length s - n - 1) ≢ 32

turned : (s : List ℕ) (n : ℕ) → EndsInSpaces s n → AreSpaces (reverse s) n
turned s n it = record {
  most = omega (arith, it.most, length-reverse s);
  spaces = λ k less. get_or-reverse s k 0 (omega (arith, less, it.most)) ∙ it.spaces (length s - 1 - k) (omega (arith, less)) (omega (arith, less, it.most));
  other = λ less. (let inside : n < length s = omega (arith, less, length-reverse s) in
      let place : length s - 1 - n ≡ length s - n - 1 = omega arith in
      λ e. it.other inside (ap (slice_index s) (sym place) ∙ sym (get_or-reverse s n 0 inside) ∙ e));
}

clear : is_clear spaces_break everything ≡ true
clear = refl

pub break_some : (s : List ℕ) (n : ℕ) → ((i : ℕ) → get_or s i 0 < 256) → 2 ≤ n → EndsInSpaces s n → Leaves spaces_break (reverse s) (drop n (reverse s))
break_some s n each two it = leaves spaces_break (reverse s) (drop n (reverse s)) clear (bytes_reversed s each) (some_read (reverse s) n two (turned s n it))

pub break_none : (s : List ℕ) (n : ℕ) → ((i : ℕ) → get_or s i 0 < 256) → n < 2 → EndsInSpaces s n → IsNotAt spaces_break (reverse s)
break_none s n each few it = is_not_at spaces_break (reverse s) clear (bytes_reversed s each) (none_read (reverse s) n few (turned s n it))
