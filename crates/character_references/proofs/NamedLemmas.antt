-- Lemmas on tables of named references: a table is read line by line, and lines that are not for a name are passed over.
use Rattle.std.proofs.Common.{◌≡◌, ℕ, inl, inr, suc, zero, ◌+◌, ◌<◌, ◌≤◌, ◌==◌, ◌&&◌, List, [], ◌∷◌, ◌++◌, Bool, true, false, if◌then◌else◌, Option, Some, None, append_assoc, drop, length, nat_lt, slice_index, refl, sym, ap, arith, ◌∙◌}
use Rattle.std.specs.List.{after_first, before_first, onto_first, position_or_len, slice_split}
use Rattle.std.specs.Option.{option_or}
use Rattle.std.specs.Str.{bytes_eq}
use Rattle.std.proofs.lemmas.Bool.{and_from, and_parts, cases_Bool, eq-eqb, eqb-true}
use Rattle.std.proofs.lemmas.Bool.Decides.{nat_tests}
use Rattle.std.proofs.lemmas.List.{drop_all, get_or-append-add, take-append-drop}
use Rattle.std.proofs.lemmas.List.Sums.{passes_at_first, split_at_first}
use Rattle.std.proofs.lemmas.Slice.Eq.{bytes_eq-Decides}
use Rattle.character_references.specs.Named.{is_equals, is_line_feed, text_in, first_text, text_of}
use Rattle.character_references.specs.Search.{may_follow}

-- the first of some lines, and the text for a name from the lines after it
abbrev first_line : List ℕ → List ℕ
first_line lines = before_first is_line_feed lines

abbrev rest_of : List (List ℕ) → List (List ℕ)
rest_of [] = []
rest_of (part ∷ parts) = parts

abbrev later : List ℕ → List ℕ → Option (List ℕ)
later name lines = first_text name (rest_of (slice_split is_line_feed lines))

-- a line is for a name
abbrev IsFor : List ℕ → List ℕ → Bool
IsFor name line = nat_lt (position_or_len is_equals line) (length line) && bytes_eq (before_first is_equals line) name

-- then it begins with the name and `=`
shape : (name line : List ℕ) → IsFor name line ≡ true → (text : List ℕ) × (line ≡ name ++ (61 ∷ text))
shape name line is =
    let parts = and_parts (nat_lt (position_or_len is_equals line) (length line)) (bytes_eq (before_first is_equals line) name) is in
    let inside : position_or_len is_equals line < length line = grind (arith, nat_tests, parts.0) in
    let found : before_first is_equals line ≡ name = (bytes_eq-Decides _ name).0 parts.1 in
    let here : (slice_index line (position_or_len is_equals line) == 61) ≡ true = passes_at_first is_equals line 0 inside in
    let equals : slice_index line (position_or_len is_equals line) ≡ 61 = grind (arith, nat_tests, here) in
    (after_first is_equals line, split_at_first is_equals line 0 inside ∙ ap (λ front. front ++ (slice_index line (position_or_len is_equals line) ∷ after_first is_equals line)) found ∙ ap (λ b. name ++ (b ∷ after_first is_equals line)) equals)

-- and so do the lines of which it is the first
shape_of_first : (name lines : List ℕ) → IsFor name (first_line lines) ≡ true → (more : List ℕ) × (lines ≡ name ++ (61 ∷ more))
shape_of_first name lines is =
    let line = shape name (first_line lines) is in
    let n = position_or_len is_line_feed lines in
    (line.0 ++ drop n lines, sym (take-append-drop n lines) ∙ ap (λ front. front ++ drop n lines) line.1 ∙ append_assoc name (61 ∷ line.0) (drop n lines))

no_text : (b : Bool) (text : List ℕ) → (b ≡ true → ⊥) → (if b then Some text else None) ≡ None
no_text true text fails = absurd (fails refl)
no_text false text fails = refl

-- lines that do not begin with a name have no text for it in the first of them
pub not_first : (name lines : List ℕ) → ((more : List ℕ) → lines ≡ name ++ more → ⊥) → None ≡ text_in name (first_line lines)
not_first name lines not = sym (no_text _ _ (λ is. let found = shape_of_first name lines is in not (61 ∷ found.0) found.1))

-- where it is for the name, it may follow a line feed
same_end : (b : ℕ) (name more : List ℕ) → slice_index (b ∷ (name ++ more)) (length name) ≡ slice_index (b ∷ name) (length name)
same_end b [] more = refl
same_end b (c ∷ name) more = same_end c name more

follows : (name more : List ℕ) → may_follow name (10 ∷ (name ++ (61 ∷ more))) 0 ≡ true
follows name more =
    let none : 0 + length name ≡ length name = omega arith in
    let one : 1 + length name ≡ suc (length name) = omega arith in
    let last = same_end 10 name (61 ∷ more) in
    let more_of : length name + 0 ≡ length name = omega arith in
    let equals : slice_index (name ++ (61 ∷ more)) (length name) ≡ 61 = ap (slice_index (name ++ (61 ∷ more))) (sym more_of) ∙ get_or-append-add name (61 ∷ more) 0 0 in
    rw (none, one, last, equals) (and_from _ _ (eq-eqb _ _ refl) refl)

-- so where it may not follow one, it is not for the name
passed : (name lines : List ℕ) → may_follow name (10 ∷ lines) 0 ≡ false → text_in name (first_line lines) ≡ None
passed name lines not = no_text _ _ (λ is. let found = shape_of_first name lines is in let yes = ap (λ l. may_follow name (10 ∷ l) 0) found.1 ∙ follows name found.0 in cc)

-- the lines of a table begin with its first line
rest_of_longer : (b : ℕ) (parts : List (List ℕ)) → rest_of (onto_first b parts) ≡ rest_of parts
rest_of_longer b [] = refl
rest_of_longer b (part ∷ parts) = refl

splits : (lines : List ℕ) → slice_split is_line_feed lines ≡ first_line lines ∷ rest_of (slice_split is_line_feed lines)
splits [] = refl
splits (b ∷ lines) = elim (cases_Bool (is_line_feed b)) [
  | inl is ↦ rw is refl
  | inr is ↦
      (let longer : 1 + position_or_len is_line_feed lines ≡ suc (position_or_len is_line_feed lines) = omega arith in
      rw (is, longer) (ap (onto_first b) (splits lines) ∙ ap (λ parts. (b ∷ first_line lines) ∷ parts) (sym (rest_of_longer b (slice_split is_line_feed lines)))))
]

-- the text for a name is that from the first line, or else from those after it
by_first : (name lines : List ℕ) → text_of name lines ≡ option_or (text_in name (first_line lines)) (later name lines)
unfolding text_of
by_first name lines = ap (first_text name) (splits lines)

-- one byte more before the lines
one_more : (name lines : List ℕ) (b k : ℕ) → may_follow name (b ∷ lines) (suc k) ≡ may_follow name lines k
one_more name lines b k =
    let end : suc k + length name ≡ suc (k + length name) = omega arith in
    let equals : suc k + 1 + length name ≡ suc (k + 1 + length name) = omega arith in
    rw (end, equals) refl

-- where a line for the name may follow none of the places before a line feed, the lines between are passed over
pass : (name lines : List ℕ) (at : ℕ) → at ≤ length lines → ((k : ℕ) → k < at → may_follow name lines k ≡ false) → (at < length lines → slice_index lines at ≡ 10) → later name lines ≡ text_of name (drop (suc at) lines)
unfolding text_of
pass name [] at within before there = refl
pass name (b ∷ lines) zero within before there = let here : b ≡ 10 = there (omega arith) in rw here refl
pass name (b ∷ lines) (suc at) within before there =
    let after = pass name lines at (omega arith) (λ k less. sym (one_more name lines b k) ∙ before (suc k) (omega (arith, less))) (λ less. there (omega (arith, less))) in
    let first : may_follow name (b ∷ lines) 0 ≡ false = before 0 (omega arith) in
    elim (cases_Bool (is_line_feed b)) [
      | inl is ↦
          (let here : b ≡ 10 = grind (arith, nat_tests, is) in
          let other = passed name lines (ap (λ c. may_follow name (c ∷ lines) 0) (sym here) ∙ first) in
          rw is (by_first name lines ∙ ap (λ found. option_or found (later name lines)) other ∙ after))
      | inr is ↦ rw is (ap (first_text name) (rest_of_longer b (slice_split is_line_feed lines)) ∙ after)
    ]

-- where a line may follow there is a line feed
pub line_feed_there : (name lines letters bytes : List ℕ) (at : ℕ) → letters ≡ name → bytes ≡ lines → may_follow letters bytes at ≡ true → slice_index lines at ≡ 10
line_feed_there name lines letters bytes at is_name is_lines follows_it =
    ap (λ s. slice_index s at) (sym is_lines) ∙ eqb-true (slice_index bytes at) 10 (and_parts (slice_index bytes at == 10) _ follows_it).0

-- the text from the first line is that for the name
pub from_first : (name lines text : List ℕ) → Some text ≡ text_in name (first_line lines) → Some text ≡ text_of name lines
from_first name lines text is = sym (by_first name lines ∙ ap (λ found. option_or found (later name lines)) (sym is))

-- and otherwise it is that from the lines after a place, where none for the name may follow an earlier place
pub from_later : (name lines letters bytes : List ℕ) (at : ℕ) → letters ≡ name → bytes ≡ lines → None ≡ text_in name (first_line lines)
    → at ≤ length bytes → ((k : ℕ) → k < at → may_follow letters bytes k ≡ false) → (at < length bytes → may_follow letters bytes at ≡ true) → text_of name (drop (at + 1) lines) ≡ text_of name lines
from_later name lines letters bytes at is_name is_lines none within before there =
    let after : at + 1 ≡ suc at = omega arith in
    let size : length bytes ≡ length lines = ap length is_lines in
    let earlier = (λ (k : ℕ) (less : k < at). ap (λ s. may_follow s lines k) (sym is_name) ∙ ap (λ s. may_follow letters s k) (sym is_lines) ∙ before k less) in
    let line_feed = (λ (less : at < length lines). line_feed_there name lines letters bytes at is_name is_lines (there (omega arith))) in
    rw after (sym (by_first name lines ∙ ap (λ found. option_or found (later name lines)) (sym none) ∙ pass name lines at (omega arith) earlier line_feed))

-- there is none after the end
pub from_end : (name lines : List ℕ) (at : ℕ) → length lines ≤ at → None ≡ text_of name (drop (at + 1) lines)
unfolding text_of
from_end name lines at end = ap (text_of name) (sym (drop_all (at + 1) lines (omega arith)))
