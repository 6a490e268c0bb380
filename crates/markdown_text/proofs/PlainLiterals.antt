-- Among plain bytes no extended autolink begins.
use Rattle.std.proofs.Common.{◌≡◌, ◌≤◌, ◌<◌, ◌+◌, ◌-◌, ◌∙◌, ◌&&◌, ◌||◌, Bool, List, ap, ap₂, arith, drop, false, inl, inr, length, length-drop, refl, slice_index, sym, take, true, ℕ}
use Rattle.std.proofs.lemmas.Bool.{both_ways}
use Rattle.std.proofs.lemmas.Bool.Decides.{nat_tests}
use Rattle.std.proofs.lemmas.List.{get_or-drop, get_or-take, length-take-le}
use Rattle.commonmark_syntax.specs.Inlines.{extended_autolink_start, is_in_any_case}
use Rattle.commonmark_syntax.specs.Language.{Reads, one}
use Rattle.markdown_attention.specs.ExtendedAddresses.{HasNoExtendedAutolink, may_come_before}
use Rattle.markdown_attention.proofs.Autolinks.{follows_last, none_begins, none_follows}
use Rattle.markdown_text.specs.Plain.{is_first_letter, may_begin}
use Rattle.markdown_text.proofs.PlainBytes.{byte_of}

-- ---- The first letter

w_is : (c : ℕ) → is_in_any_case 119 c ≡ true → is_first_letter c ≡ true
w_is c e = grind (arith, nat_tests)

h_is : (c : ℕ) → is_in_any_case 104 c ≡ true → is_first_letter c ≡ true
h_is c e = grind (arith, nat_tests)

f_is : (c : ℕ) → is_in_any_case 102 c ≡ true → is_first_letter c ≡ true
f_is c e = grind (arith, nat_tests)

first_is : (p : ℕ → Bool) (s m : List ℕ) → ((c : ℕ) → p c ≡ true → is_first_letter c ≡ true) → Reads (one p) s m → is_first_letter (slice_index s 0) ≡ true
first_is p s m letter r = ap (λ (x : List ℕ). is_first_letter (slice_index x 0)) r.2 ∙ letter r.0 r.1

pub first_letter : (s t : List ℕ) → Reads extended_autolink_start s t → is_first_letter (slice_index s 0) ≡ true
first_letter s t (inl r) = first_is (is_in_any_case 119) s _ w_is r.1
first_letter s t (inr r) =
    elim r.1 [
      | inl q ↦ first_is (is_in_any_case 104) s _ h_is q.1.1
      | inr q ↦ first_is (is_in_any_case 102) s _ f_is q.1
    ]

-- ---- Plain bytes

may_not_come : (mark letter come : Bool) → (mark || (true && (letter && come))) ≡ false → letter ≡ true → come ≡ false
may_not_come true letter come none is = absurd (both_ways _ none refl)
may_not_come false true come none is = none
may_not_come false false come none is = absurd (both_ways _ refl is)

module _ (bytes rest : List ℕ) (literals : Bool) (at count : ℕ) (is : rest ≡ drop at bytes) (within : count < length rest) (on : literals ≡ true)
    (plain : (k : ℕ) → k < count → may_begin literals (slice_index rest k) (slice_index rest (k + 1)) ≡ false) where
  -- after a byte that may come before an extended autolink, no letter may begin one
  pub no_literals : (in_bracket : Bool) (k : ℕ) → at < k → k < at + (1 + count) → HasNoExtendedAutolink in_bracket bytes k
  no_literals in_bracket k more less = by (is_first_letter (slice_index bytes k)) refl
    where
      i : ℕ
      i = k - (at + 1)

      before : slice_index rest i ≡ slice_index bytes (k - 1)
      before = let place : at + i ≡ k - 1 = omega (arith, more) in byte_of bytes rest at i is ∙ ap (slice_index bytes) place

      here : slice_index rest (i + 1) ≡ slice_index bytes k
      here = let place : at + (i + 1) ≡ k = omega (arith, more) in byte_of bytes rest at (i + 1) is ∙ ap (slice_index bytes) place

      clear : may_begin true (slice_index bytes (k - 1)) (slice_index bytes k) ≡ false
      clear =
          sym (ap (λ l. may_begin l (slice_index rest i) (slice_index rest (i + 1))) on ∙ ap₂ (λ a b. may_begin true a b) before here) ∙ plain i (omega (arith, more, less))

      room : k ≤ length bytes
      room = omega (arith, less, within, ap (λ (x : List ℕ). length x) is, length-drop at bytes)

      size : length (take k bytes) ≡ k
      size = length-take-le k bytes room

      last : slice_index (take k bytes) (length (take k bytes) - 1) ≡ slice_index bytes (k - 1)
      last = ap (λ n. slice_index (take k bytes) (n - 1)) size ∙ get_or-take k bytes (k - 1) 0 (omega (arith, more))

      front : slice_index (drop k bytes) 0 ≡ slice_index bytes k
      front = let place : k + 0 ≡ k = omega arith in get_or-drop k bytes 0 0 ∙ ap (slice_index bytes) place

      first : ℕ
      first = slice_index bytes k

      by : (b : Bool) → is_first_letter (slice_index bytes k) ≡ b → HasNoExtendedAutolink in_bracket bytes k
      by true letter =
          none_follows in_bracket bytes k (sym (follows_last first (take k bytes) (omega (arith, size, more))) ∙ ap (may_come_before first) last ∙ may_not_come _ _ _ clear letter)
      by false other =
          none_begins in_bracket bytes k (λ t r. both_ways _ (ap is_first_letter front ∙ other) (first_letter (drop k bytes) t r))
