-- Whole values, and texts that are whole as they stand.
use Rattle.std.proofs.Common.{◌≡◌, ℕ, zero, suc, ◌+◌, ◌-◌, ◌<◌, Bool, true, false, cond, ◌&&◌, ◌||◌, List, [], ◌∷◌, ◌++◌, length, take, drop, get_or, append_assoc, ◌≢◌, ◌≤◌, Option, Some, None, Result, Ok, Err, refl, sym, ap, ◌∙◌, arith}
use Rattle.std.specs.Prelude.{◌==◌, IfSome, if◌then◌else◌, OnOk, is_ok, is_some, nat_lt, slice_index, slice_range, replicate, unwrap_or}
use Rattle.std.specs.Borrow.{Bor}
use Rattle.std.proofs.lemmas.Bool.{ne_eqb}
use Rattle.markdown_events.specs.Slices.{edge, slice, text_between}
use Rattle.markdown_events.specs.declared.event.Point.{Point}
use Rattle.markdown_events.specs.TextWalks.{before_last}
use Rattle.markdown_grammar.specs.Document.{Given, value_as, value_between, visible_between}
use Rattle.markdown_grammar.specs.Whole.{blanks, ended, left_of_tab, tab_width, used_of_tab, whole, without_nul}
use Rattle.markdown_grammar.specs.declared.values.Values.{Values}
use Rattle.markdown_grammar.specs.declared.values.Values.TheVariants.{AsInDocument, Whole}
use Rattle.markdown_parts.specs.WholeValues.{has_nul, is_split, is_whole}
use Rattle.markdown_grammar.specs.Hidden.{visible}
use Rattle.markdown_parts.proofs.HiddenWalk.{no_flags, visible_all}

or-left : (a b : Bool) → (a || b) ≡ false → a ≡ false
or-left true b h = h
or-left false b h = refl

or-right : (a b : Bool) → (a || b) ≡ false → b ≡ false
or-right true b h = let z : true ≡ false = h in absurd cc
or-right false b h = h

-- a text without a NUL stands for itself
pub same_without_nul : (text : List ℕ) → has_nul text ≡ false → without_nul text ≡ text
same_without_nul [] h = refl
same_without_nul (b ∷ bytes) h =
    let first : (b == 0) ≡ false = or-left (b == 0) (has_nul bytes) h in
    let rest : has_nul bytes ≡ false = or-right (b == 0) (has_nul bytes) h in
    ap (λ (t : Bool). cond t (239 ∷ 191 ∷ 189 ∷ []) (b ∷ []) ++ without_nul bytes) first ∙ ap (λ (t : List ℕ). b ∷ t) (same_without_nul bytes rest)

-- a text without a NUL up to a place, and none from there on
pub none_before : (at : ℕ) (text rest : List ℕ) → rest ≡ drop at text → ((k : ℕ) → k < at → slice_index text k ≢ 0) → has_nul rest ≡ false → has_nul text ≡ false
none_before zero text rest is before none = ap has_nul (sym is) ∙ none
none_before (suc at) [] rest is before none = refl
none_before (suc at) (b ∷ bytes) rest is before none =
    ap (λ (t : Bool). t || has_nul bytes) (ne_eqb b 0 (before 0 (omega arith)))
    ∙ none_before at bytes rest is (λ k below. before (suc k) (omega (arith, below))) none

-- nor has a part of it one
none-in-take : (n : ℕ) (text : List ℕ) → has_nul text ≡ false → has_nul (take n text) ≡ false
none-in-take zero text h = refl
none-in-take (suc n) [] h = refl
none-in-take (suc n) (b ∷ bytes) h = elim (b == 0) as (λ t. (t || has_nul bytes) ≡ false → (t || has_nul (take n bytes)) ≡ false) [
  | true ↦ λ wrong. let z : true ≡ false = wrong in absurd cc
  | false ↦ none-in-take n bytes
] h

none-in-drop : (n : ℕ) (text : List ℕ) → has_nul text ≡ false → has_nul (drop n text) ≡ false
none-in-drop zero text h = h
none-in-drop (suc n) [] h = refl
none-in-drop (suc n) (b ∷ bytes) h = elim (b == 0) as (λ t. (t || has_nul bytes) ≡ false → has_nul (drop n bytes) ≡ false) [
  | true ↦ λ wrong. let z : true ≡ false = wrong in absurd cc
  | false ↦ none-in-drop n bytes
] h

pub part_without_nul : (bytes : List ℕ) (i j : ℕ) (part : List ℕ) → part ≡ slice_range bytes i j → has_nul bytes ≡ false → without_nul part ≡ part
part_without_nul bytes i j part is h = same_without_nul part (ap has_nul is ∙ none-in-take (j - i) (drop i bytes) (none-in-drop i bytes h))

-- ---- A part of the document is its own value

no_columns : (p : Point) → nat_lt 0 p.vs ≡ false → left_of_tab p ≡ 0
no_columns p h = ap (λ (t : Bool). cond t (tab_width (p.column - p.vs) - p.vs) 0) h

ends_outside : (text : List ℕ) (end : Point) → nat_lt 0 end.vs ≡ false → ended text end ≡ without_nul text
ends_outside text end h =
    ap (λ (t : Bool). elim (cond t (before_last 9 text) None) as (λ o. List ℕ) [ None ↦ without_nul text | Some front ↦ without_nul front ++ blanks (used_of_tab end) ]) h

whole_as_it_stands : (text : List ℕ) (start end : Point) → nat_lt 0 start.vs ≡ false → nat_lt 0 end.vs ≡ false → without_nul text ≡ text → whole text start end ≡ text
whole_as_it_stands [] start end at_start at_end same = λ i. replicate (no_columns start at_start i - no_columns end at_end i) 32
whole_as_it_stands (b ∷ bytes) start end at_start at_end same =
    (λ i. replicate (no_columns start at_start i) 32 ++ ends_outside (b ∷ bytes) end at_end i) ∙ same

both-false : (a b : Bool) → ((a || b) && true) ≡ false → (a ≡ false) × (b ≡ false)
both-false true b h = let z : true ≡ false = h in absurd cc
both-false false true h = let z : true ≡ false = h in absurd cc
both-false false false h = (refl, refl)

value_as_it_stands : (values : Values) (text : List ℕ) (start end : Point) → ((nat_lt 0 start.vs || nat_lt 0 end.vs) && is_whole values) ≡ false → (is_whole values ≡ true → without_nul text ≡ text) → value_as values text start end ≡ text
value_as_it_stands AsInDocument text start end split same = refl
value_as_it_stands Whole text start end split same =
    let outside = both-false (nat_lt 0 start.vs) (nat_lt 0 end.vs) split in
    whole_as_it_stands text start end outside.0 outside.1 (same refl)

-- a part that is taken has a slice
pub part_read : (given : Given) (start end : Point) (from to : ℕ) (r : Option (Bor (List ℕ))) → ◌≡◌ {A = ℕ × ℕ} (from, to) (edge start, edge end) → IfSome r (λ (p : Bor (List ℕ)). Some p.now ≡ text_between given.bytes from to)
    → IfSome r (λ (p : Bor (List ℕ)). is_some (slice given.bytes start end) ≡ true)
unfolding slice
part_read given start end from to None at is = tt
part_read given start end from to (Some part) at is = ap is_some (sym (is ∙ ap (λ (e : ℕ × ℕ). text_between given.bytes e.0 e.1) at))

-- none of these flags is set
abbrev pub none_set : List Bool → Bool
none_set [] = true
none_set (set ∷ flags) = if set then false else none_set flags

pub none_in_empty : (flags : List Bool) → length flags ≡ 0 → none_set flags ≡ true
none_in_empty [] size = refl
none_in_empty (set ∷ flags) size = absurd (omega (arith, size))

-- where none of the first flags is set, all of a text that is no longer is visible
pub all_visible : (flags : List Bool) (count : ℕ) (text : List ℕ) → none_set (take count flags) ≡ true → length text ≤ count → visible flags text ≡ text
all_visible flags count [] none size = refl
all_visible [] count (b ∷ text) none size = refl
all_visible (set ∷ flags) zero (b ∷ text) none size = absurd (omega (arith, size))
all_visible (true ∷ flags) (suc count) (b ∷ text) none size = absurd cc
all_visible (false ∷ flags) (suc count) (b ∷ text) none size = ap (λ (t : List ℕ). b ∷ t) (all_visible flags count text none (omega (arith, size)))

-- where there are no flags, all of a text is visible
pub all_visible_without : (flags : List Bool) (n : ℕ) (text : List ℕ) → length flags ≡ 0 → visible (drop n flags) text ≡ text
all_visible_without [] n text size = ap (λ (f : List Bool). visible f text) (no_flags n) ∙ visible_all text
all_visible_without (set ∷ flags) n text size = absurd (omega (arith, size))

-- a slice all of whose bytes are visible is its visible bytes
pub slice_visible : (given : Given) (start end : Point) (text : List ℕ) → Some text ≡ slice given.bytes start end → visible (drop (edge start) given.hidden) text ≡ text
    → (is_some (slice given.bytes start end) ≡ true) × (text ≡ visible_between given start end)
slice_visible given start end text is shown = (
  ap is_some (sym is),
  sym shown ∙ ap (λ (o : Option (List ℕ)). visible (drop (edge start) given.hidden) (unwrap_or o [])) is,
)

-- and is the value
pub part_taken : (given : Given) (start end : Point) (from to : ℕ) (r : Option (Bor (List ℕ))) → ◌≡◌ {A = ℕ × ℕ} (from, to) (edge start, edge end) → is_split given start end ≡ false → IfSome r (λ (p : Bor (List ℕ)). Some p.now ≡ text_between given.bytes from to)
    → IfSome r (λ (p : Bor (List ℕ)). length p.now + from ≡ to) → IfSome r (λ (p : Bor (List ℕ)). is_whole given.values ≡ true → without_nul p.now ≡ p.now)
    → ((text : List ℕ) → length text ≤ to - from → visible (drop (edge start) given.hidden) text ≡ text) → IfSome r (λ (p : Bor (List ℕ)). p.now ≡ value_between given start end)
unfolding slice
part_taken given start end from to None at split is size same shown = tt
part_taken given start end from to (Some part) at split is size same shown =
    sym (ap (λ (o : Option (List ℕ)). value_as given.values (visible (drop (edge start) given.hidden) (unwrap_or o [])) start end) (sym (is ∙ ap (λ (e : ℕ × ℕ). text_between given.bytes e.0 e.1) at))
    ∙ ap (λ (text : List ℕ). value_as given.values text start end) (shown part.now (omega (arith, size)))
    ∙ value_as_it_stands given.values part.now start end split same)

-- ---- How a whole value is written

-- where no byte is a NUL, none stands in the text
pub none_at : (text : List ℕ) → ((i : ℕ) → i < length text → get_or text i 0 ≢ 0) → has_nul text ≡ false
none_at [] h = refl
none_at (b ∷ bytes) h =
    let first : (b == 0) ≡ false = ne_eqb b 0 (h 0 (omega arith)) in
    (λ t. first t || has_nul bytes) ∙ none_at bytes (λ i lt. h (suc i) (omega arith))

-- a text up to a NUL, U+FFFD, and then what follows
pub nul_replaced : (front back : List ℕ) → has_nul front ≡ false → without_nul (front ++ 0 ∷ back) ≡ front ++ (239 ∷ 191 ∷ 189 ∷ without_nul back)
nul_replaced [] back h = refl
nul_replaced (b ∷ front) back h =
    let first : (b == 0) ≡ false = or-left (b == 0) (has_nul front) h in
    ap (λ (t : Bool). cond t (239 ∷ 191 ∷ 189 ∷ []) (b ∷ []) ++ without_nul (front ++ 0 ∷ back)) first
    ∙ ap (λ (t : List ℕ). b ∷ t) (nul_replaced front back (or-right (b == 0) (has_nul front) h))

-- what is written and what is left stay the whole
pub nul_written : (written more last all rest front back : List ℕ) → written ++ without_nul rest ≡ all → rest ≡ front ++ 0 ∷ back → ((i : ℕ) → i < length front → get_or front i 0 ≢ 0)
    → more ≡ written ++ front → last ≡ more ++ (239 ∷ 191 ∷ 189 ∷ []) → last ++ without_nul back ≡ all
nul_written written more last all rest front back so_far is none added marked =
    ap (λ (t : List ℕ). t ++ without_nul back) (marked ∙ ap (λ (t : List ℕ). t ++ (239 ∷ 191 ∷ 189 ∷ [])) added)
    ∙ append_assoc (written ++ front) (239 ∷ 191 ∷ 189 ∷ []) (without_nul back)
    ∙ append_assoc written front (239 ∷ 191 ∷ 189 ∷ without_nul back)
    ∙ ap (λ (t : List ℕ). written ++ t) (sym (ap without_nul is ∙ nul_replaced front back (none_at front none)))
    ∙ so_far

-- after the last NUL the text stands as it is
pub rest_written : (written all rest : List ℕ) → written ++ without_nul rest ≡ all → ((i : ℕ) → i < length rest → get_or rest i 0 ≢ 0) → written ++ rest ≡ all
rest_written written all rest so_far none = ap (λ (t : List ℕ). written ++ t) (sym (same_without_nul rest (none_at rest none))) ∙ so_far

-- what a text is once a part was added, if there was memory
pub added_part : {T E : Type 0} (r : Result T E) (old new part all : List ℕ) → new ≡ cond (is_ok r) (old ++ part) old → old ++ part ≡ all → OnOk r (new ≡ all)
added_part (Ok x) old new part all is same = is ∙ same
added_part (Err e) old new part all is same = tt
