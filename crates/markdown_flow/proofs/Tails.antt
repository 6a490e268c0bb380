-- The end of a line that may be a thematic break, and what comes after white space.
use Rattle.std.proofs.Common.{◌≡◌, ◌+◌, ◌-◌, ◌<◌, ◌≤◌, ◌∷◌, ◌∙◌, Bool, List, [], ap, arith, cond, drop, false, inl, inr, length, lit<, refl, subst, suc, sym, take, true, zero, ℕ, ◌↔◌}
use Rattle.std.proofs.lemmas.List.{drop-drop, drop-take}
use Rattle.std.specs.Prelude.{nat_le, slice_index, slice_range}
use Rattle.std.proofs.lemmas.Bool.Decides.{nat_tests}
use Rattle.std.specs.Str.{IsAscii}
use Rattle.commonmark_syntax.proofs.Tests.{and_parts, or_parts}
use Rattle.commonmark_syntax.specs.Blocks.{has_one_sign, is_blank_or, thematic_break}
use Rattle.commonmark_syntax.specs.Language.{Matches, are_all}
use Rattle.commonmark_syntax.specs.Syntax.{is_blank}
use Rattle.markdown_flow.specs.Lines.{IsBefore, IsTail, after_spaces, is_space_or_tab}

-- the end of the text of a line is that of the line
end_before : (bytes text : List ℕ) (end n : ℕ) → IsBefore bytes end text → length text ≤ end → n ≤ length text → drop (length text - n) text ≡ slice_range bytes (end - n) end
end_before bytes text end n before fits less =
    let size : end - (end - length text) ≡ (length text - n) + n = omega (arith, fits, less) in
    let at : (end - length text) + (length text - n) ≡ end - n = omega (arith, fits, less) in
    let rest : n ≡ end - (end - n) = omega (arith, fits, less) in
    ap (drop (length text - n)) (before ∙ ap (λ i. take i (drop (end - length text) bytes)) size)
    ∙ drop-take (length text - n) n (drop (end - length text) bytes)
    ∙ ap (take n) (drop-drop (length text - n) (end - length text) bytes ∙ ap (λ i. drop i bytes) at)
    ∙ ap (λ i. take i (drop (end - n) bytes)) rest

pub tail_is : (bytes text : List ℕ) (start end tail : ℕ) → IsBefore bytes end text → length text ≤ end → end ≤ start + length text
    → ((n : ℕ) → n ≤ length text → has_one_sign (drop (length text - n) text) ≡ nat_le n tail) → IsTail bytes start end tail
tail_is bytes text start end tail before fits whole longest = record {
  exact = λ n less. ap has_one_sign (sym (end_before bytes text end n before fits (omega (arith, less, whole)))) ∙ longest n (omega (arith, less, whole));
}

pub is_tail : (bytes text : List ℕ) (start end tail : ℕ) → IsBefore bytes end text → start + length text ≤ end → IsTail bytes start end tail → nat_le (length text) tail ≡ has_one_sign text
is_tail bytes text start end tail before fits is = sym (ap has_one_sign before ∙ is.exact (length text) fits)

-- no white space comes first after white space
solid_head : (b : ℕ) (bs : List ℕ) (t : Bool) → is_space_or_tab b ≡ t → (0 < length (after_spaces bs) → is_blank (slice_index (after_spaces bs) 0) ≡ false) → 0 < length (cond t (after_spaces bs) (b ∷ bs)) → is_blank (slice_index (cond t (after_spaces bs) (b ∷ bs)) 0) ≡ false
solid_head b bs true white later some = later some
solid_head b bs false white later some = white

pub after_solid : (s : List ℕ) → 0 < length (after_spaces s) → is_blank (slice_index (after_spaces s) 0) ≡ false
unfolding after_spaces
after_solid [] some = absurd (omega arith)
after_solid (b ∷ bs) some = solid_head b bs (is_space_or_tab b) refl (after_solid bs) some

pub text_solid : (rest text : List ℕ) → text ≡ after_spaces rest → 0 < length text → is_blank (slice_index text 0) ≡ false
text_solid rest text is some = ap (λ x. is_blank (slice_index x 0)) is ∙ after_solid rest (omega (arith, some, ap length is))

-- a text of one sign of thematic breaks is ASCII
low_or : (x b : ℕ) → x < 128 → is_blank_or x b ≡ true → b < 128
low_or x b low e = grind (arith, nat_tests)

low_at : (x : ℕ) (s : List ℕ) (k : ℕ) → x < 128 → are_all (is_blank_or x) s ≡ true → slice_index s k < 128
low_at x [] zero low every = lit< tt
low_at x [] (suc k) low every = lit< tt
low_at x (b ∷ bs) zero low every = low_or x b low (and_parts _ _ every).0
low_at x (b ∷ bs) (suc k) low every = low_at x bs k low (and_parts _ _ every).1

pub one_sign_ascii : (s : List ℕ) → has_one_sign s ≡ true → IsAscii s
one_sign_ascii s e k = elim (or_parts _ _ e) [
  | inl a ↦ low_at 42 s k (lit< tt) a
  | inr a ↦ elim (or_parts _ _ a) [
    | inl b ↦ low_at 45 s k (lit< tt) b
    | inr b ↦ low_at 95 s k (lit< tt) b
  ]
]

-- whether a text is a thematic break, of an equal text
pub same_break : (r has_one : Bool) (s t : List ℕ) → s ≡ t → (has_one ≡ has_one_sign s → (0 < length s → is_blank (slice_index s 0) ≡ false) → (r ≡ true) ↔ Matches thematic_break s)
    → has_one ≡ has_one_sign t → (0 < length t → is_blank (slice_index t 0) ≡ false) → (r ≡ true) ↔ Matches thematic_break t
same_break r has_one s t same exact = subst (λ x. has_one ≡ has_one_sign x → (0 < length x → is_blank (slice_index x 0) ≡ false) → (r ≡ true) ↔ Matches thematic_break x) same exact
