-- Lines of a document, and how the cursor of one moves.
use Rattle.std.proofs.Common.{◌≡◌, ◌<◌, ◌≤◌, ◌+◌, ◌-◌, ◌*◌, ◌%◌, ◌≢◌, ◌⊎◌, inl, inr, Bool, true, false, cond, List, [], ◌∷◌, ◌++◌, length, take, drop, get_or, ℕ, suc, zero, refl, sym, ap, subst, ◌∙◌, arith, nat_eq, ◌==◌, drop-cons, add-zero, zero-add, length-drop, length-take-le, get_or-drop, Option, None, Some}
use Rattle.std.specs.Prelude.{nat_le, not, slice_get, ◌&&◌, ◌||◌}
use Rattle.commonmark_syntax.specs.Blocks.{has_more}
use Rattle.std.proofs.Math.Nat.{sub-zero}
use Rattle.std.proofs.lemmas.Bool.{cases_lt}
use Rattle.std.proofs.lemmas.Bool.Decides.{nat_tests}
use Rattle.std.proofs.lemmas.List.{at_drop_all, at_drop_more, drop_more}
use Rattle.std.proofs.lemmas.Option.{same_Some, slice_get-get_or, slice_get_past, slice_get_within}
use Rattle.event_writer.specs.Calls.{EndsLine, is_byte_at, line_ending_length}
use Rattle.markdown_events.specs.declared.event.Point.{Point}
use Rattle.event_writer.specs.Places.{IsPlace, after_tab, column_at, line_at, walk}
use Rattle.event_writer.proofs.Walks.{column-bound, place-after-ending, plain, tab-below}
use Rattle.markdown_flow.specs.Lines.{HasColumns, IsBefore, IsInLine, IsRest, after_spaces, begins_indented_code, columns_after, indentation, is_space_or_tab, width}

-- ---- Widths

-- a byte takes one column to four
pub width-bounds : (b columns : ℕ) → (0 < width b columns) × (width b columns ≤ 4)
width-bounds b columns = by (nat_eq b 9)
  where
    by : (t : Bool) → (0 < cond t (4 - columns % 4) 1) × (cond t (4 - columns % 4) 1 ≤ 4)
    by true = (omega arith, omega arith)
    by false = (omega arith, omega arith)

-- each byte of white space takes four columns at most
pub indentation-bound : (columns : ℕ) (text : List ℕ) → indentation columns text ≤ 4 * length text
unfolding indentation
indentation-bound columns [] = omega arith
indentation-bound columns (b ∷ bs) = by (is_space_or_tab b) (indentation-bound (columns + width b columns) bs)
  where
    by : (t : Bool) → indentation (columns + width b columns) bs ≤ 4 * length bs → cond t (width b columns + indentation (columns + width b columns) bs) 0 ≤ 4 * length (b ∷ bs)
    by true r = omega (arith, (width-bounds b columns).1)
    by false r = omega arith

-- ---- White space

-- a byte that is no white space is no tab
not-tab : (b : ℕ) → is_space_or_tab b ≡ false → b ≢ 9
not-tab b e is = let x : is_space_or_tab 9 ≡ false = ap is_space_or_tab (sym is) ∙ e in cc

-- what comes after the white space is no longer than the text
pub after_spaces-length : (text : List ℕ) → length (after_spaces text) ≤ length text
unfolding after_spaces
after_spaces-length [] = omega arith
after_spaces-length (b ∷ bs) = by (is_space_or_tab b) (after_spaces-length bs)
  where
    by : (t : Bool) → length (after_spaces bs) ≤ length bs → length (cond t (after_spaces bs) (b ∷ bs)) ≤ length (b ∷ bs)
    by true r = omega arith
    by false r = omega arith

-- it begins with no white space
pub after_spaces-twice : (text : List ℕ) → after_spaces (after_spaces text) ≡ after_spaces text
unfolding after_spaces
after_spaces-twice [] = refl
after_spaces-twice (b ∷ bs) = by (is_space_or_tab b) refl (after_spaces-twice bs)
  where
    by : (t : Bool) → is_space_or_tab b ≡ t → after_spaces (after_spaces bs) ≡ after_spaces bs
        → after_spaces (cond t (after_spaces bs) (b ∷ bs)) ≡ cond t (after_spaces bs) (b ∷ bs)
    by true e r = r
    by false e r = ap (λ (t : Bool). cond t (after_spaces bs) (b ∷ bs)) e

filled : (n : ℕ) → not (suc n == 0) ≡ true
filled n = grind (arith, nat_tests)

-- something else than white space is left exactly where there is more
pub more_after_spaces : (text : List ℕ) → not (length (after_spaces text) == 0) ≡ has_more text
unfolding after_spaces
more_after_spaces [] = refl
more_after_spaces (b ∷ bs) = by (is_space_or_tab b) (more_after_spaces bs)
  where
    by : (t : Bool) → not (length (after_spaces bs) == 0) ≡ has_more bs → not (length (cond t (after_spaces bs) (b ∷ bs)) == 0) ≡ (not t || has_more bs)
    by true same = same
    by false same = filled (length bs)

-- indented code, where the white space is counted
pub code_begins : (on indented empty : Bool) (indent columns : ℕ) (rest text : List ℕ) → on ≡ true → indented ≡ (on && nat_le 4 indent) → indented ≡ true → indent ≡ indentation columns rest → text ≡ after_spaces rest → empty ≡ (length text == 0) → not empty ≡ begins_indented_code columns rest
code_begins on indented empty indent columns rest text is_on same is counted left none =
    let deep : nat_le 4 (indentation columns rest) ≡ true = ap (nat_le 4) (sym counted) ∙ sym (ap (λ (b : Bool). b && nat_le 4 indent) is_on) ∙ sym same ∙ is in
    ap not none ∙ ap (λ (x : List ℕ). not (length x == 0)) left ∙ more_after_spaces rest ∙ sym (ap (λ (b : Bool). b && has_more rest) deep)

-- so there are no columns of it
pub indentation-none : (columns : ℕ) (text : List ℕ) → indentation columns (after_spaces text) ≡ 0
unfolding after_spaces indentation
indentation-none columns [] = refl
indentation-none columns (b ∷ bs) = by (is_space_or_tab b) refl (indentation-none columns bs)
  where
    by : (t : Bool) → is_space_or_tab b ≡ t → indentation columns (after_spaces bs) ≡ 0 → indentation columns (cond t (after_spaces bs) (b ∷ bs)) ≡ 0
    by true e r = r
    by false e r = ap (λ (t : Bool). cond t (width b columns + indentation (columns + width b columns) bs) 0) e

-- a text that is as long without the white space at its start begins with none
pub indentation-unspaced : (columns : ℕ) (text : List ℕ) → length (after_spaces text) ≡ length text → indentation columns text ≡ 0
unfolding after_spaces indentation
indentation-unspaced columns [] same = refl
indentation-unspaced columns (b ∷ bs) same = by (is_space_or_tab b) same
  where
    by : (t : Bool) → length (cond t (after_spaces bs) (b ∷ bs)) ≡ length (b ∷ bs) → cond t (width b columns + indentation (columns + width b columns) bs) 0 ≡ 0
    by true same = let less = after_spaces-length bs in absurd (omega (arith, same, less))
    by false same = refl

-- a text that begins with columns of white space begins with a byte of it
pub white-more : (b columns : ℕ) (rest : List ℕ) → 0 < indentation columns (b ∷ rest)
    → (after_spaces (b ∷ rest) ≡ after_spaces rest) × (indentation columns (b ∷ rest) ≡ width b columns + indentation (columns + width b columns) rest)
unfolding after_spaces indentation
white-more b columns rest less = by (is_space_or_tab b) less
  where
    by : (t : Bool) → 0 < cond t (width b columns + indentation (columns + width b columns) rest) 0
        → (cond t (after_spaces rest) (b ∷ rest) ≡ after_spaces rest)
        × (cond t (width b columns + indentation (columns + width b columns) rest) 0 ≡ width b columns + indentation (columns + width b columns) rest)
    by true less = (refl, refl)
    by false less = absurd (omega arith)

-- only a tab is wider than one column
wide-tab : (b left columns : ℕ) → suc left < width b columns → (b ≡ 9) × (suc left < 4 - columns % 4)
wide-tab b left columns less = by (nat_eq b 9) refl less
  where
    by : (t : Bool) → nat_eq b 9 ≡ t → suc left < cond t (4 - columns % 4) 1 → (b ≡ 9) × (suc left < 4 - columns % 4)
    by true e less = (grind (arith, nat_tests), less)
    by false e less = absurd (omega arith)

-- so many columns into a tab, as many columns of white space less are left
pub tab-left : (b left columns : ℕ) (rest : List ℕ) → left < width b columns → indentation (columns + left) (b ∷ rest) + left ≡ indentation columns (b ∷ rest)
unfolding indentation
tab-left b zero columns rest less = add-zero (indentation (columns + 0) (b ∷ rest)) ∙ ap (λ (n : ℕ). indentation n (b ∷ rest)) (add-zero columns)
tab-left b (suc left) columns rest less =
    let tab = wide-tab b left columns less in
    subst (λ (n : ℕ). indentation (columns + suc left) (n ∷ rest) + suc left ≡ indentation columns (n ∷ rest)) (sym tab.0) (at_tab tab.1)
  where
    at_tab : suc left < 4 - columns % 4 → indentation (columns + suc left) (9 ∷ rest) + suc left ≡ indentation columns (9 ∷ rest)
    at_tab less =
        let k : (columns + suc left) + (4 - (columns + suc left) % 4) ≡ columns + (4 - columns % 4) = omega arith in
        let r : indentation ((columns + suc left) + (4 - (columns + suc left) % 4)) rest ≡ indentation (columns + (4 - columns % 4)) rest = ap (λ (n : ℕ). indentation n rest) k in
        omega (arith, r, k)

-- ---- Steps of a loop over the bytes of a text

-- at white space: the same comes after it
pub after_spaces-more : (text : List ℕ) (i : ℕ) → i < length text → is_space_or_tab (get_or text i 0) ≡ true → after_spaces (drop (i + 1) text) ≡ after_spaces (drop i text)
unfolding after_spaces
after_spaces-more text i within white =
    sym (at_drop_more after_spaces text i 0 within ∙ ap (λ (t : Bool). cond t (after_spaces (drop (i + 1) text)) (get_or text i 0 ∷ drop (i + 1) text)) white)

-- at another byte: that is what comes after the white space
pub after_spaces-stop : (text : List ℕ) (i : ℕ) → i < length text → is_space_or_tab (get_or text i 0) ≡ false → after_spaces (drop i text) ≡ drop i text
unfolding after_spaces
after_spaces-stop text i within black =
    at_drop_more after_spaces text i 0 within ∙ ap (λ (t : Bool). cond t (after_spaces (drop (i + 1) text)) (get_or text i 0 ∷ drop (i + 1) text)) black
    ∙ sym (drop_more text i 0 within)

-- at the end: nothing does
pub after_spaces-all : (text : List ℕ) (i : ℕ) → length text ≤ i → after_spaces (drop i text) ≡ []
unfolding after_spaces
after_spaces-all text i past = at_drop_all after_spaces text i past

-- at white space: its width is added
pub indentation-more : (columns : ℕ) (text : List ℕ) (i : ℕ) → i < length text → is_space_or_tab (get_or text i 0) ≡ true
    → indentation columns (drop i text) ≡ width (get_or text i 0) columns + indentation (columns + width (get_or text i 0) columns) (drop (i + 1) text)
unfolding indentation
indentation-more columns text i within white =
    at_drop_more (indentation columns) text i 0 within
    ∙ ap (λ (t : Bool). cond t (width (get_or text i 0) columns + indentation (columns + width (get_or text i 0) columns) (drop (i + 1) text)) 0) white

-- at another byte: no column is left
pub indentation-stop : (columns : ℕ) (text : List ℕ) (i : ℕ) → i < length text → is_space_or_tab (get_or text i 0) ≡ false → indentation columns (drop i text) ≡ 0
unfolding indentation
indentation-stop columns text i within black =
    at_drop_more (indentation columns) text i 0 within
    ∙ ap (λ (t : Bool). cond t (width (get_or text i 0) columns + indentation (columns + width (get_or text i 0) columns) (drop (i + 1) text)) 0) black

-- nor is one at the end
pub indentation-all : (columns : ℕ) (text : List ℕ) (i : ℕ) → length text ≤ i → indentation columns (drop i text) ≡ 0
unfolding indentation
indentation-all columns text i past = at_drop_all (indentation columns) text i past

-- at each byte: its width is added
pub columns_after-more : (columns : ℕ) (text : List ℕ) (i : ℕ) → i < length text
    → columns_after columns (drop i text) ≡ columns_after (columns + width (get_or text i 0) columns) (drop (i + 1) text)
unfolding columns_after
columns_after-more columns text i within = at_drop_more (columns_after columns) text i 0 within

-- at the end: the columns are counted
pub columns_after-all : (columns : ℕ) (text : List ℕ) (i : ℕ) → length text ≤ i → columns_after columns (drop i text) ≡ columns
unfolding columns_after
columns_after-all columns text i past = at_drop_all (columns_after columns) text i past

-- ---- The bytes before an offset

-- the first byte stands where the text begins, and the others are a text, too
pub before-cons : (bytes : List ℕ) (end b : ℕ) (rest : List ℕ) → suc (length rest) ≤ end → end ≤ length bytes → IsBefore bytes end (b ∷ rest)
    → (get_or bytes (end - suc (length rest)) 0 ≡ b) × IsBefore bytes end rest
before-cons bytes end b rest fits within h =
    let o : ℕ = end - suc (length rest) in
    let d : drop o bytes ≡ get_or bytes o 0 ∷ drop (suc o) bytes = drop-cons bytes o 0 (omega arith) in
    let n : end - o ≡ suc (length rest) = omega arith in
    let e : b ∷ rest ≡ get_or bytes o 0 ∷ take (length rest) (drop (suc o) bytes) = h ∙ ap (λ m. take m (drop o bytes)) n ∙ ap (take (suc (length rest))) d in
    let m : suc o ≡ end - length rest = omega arith in
    let k : length rest ≡ end - (end - length rest) = omega arith in
    let head : b ≡ get_or bytes o 0 = cc in
    let tail : rest ≡ take (length rest) (drop (suc o) bytes) = cc in
    (sym head, tail ∙ ap (λ (i : ℕ). take (length rest) (drop i bytes)) m ∙ ap (λ (i : ℕ). take i (drop (end - length rest) bytes)) k)

-- ---- Columns, byte by byte

-- the next tab stop, by what comes before it and by its column
tab-stop : (columns column virtual_spaces : ℕ) → columns + 1 ≡ column + virtual_spaces → (0 < virtual_spaces → columns + 1 < after_tab column)
    → columns + (4 - columns % 4) + 1 ≡ after_tab column
tab-stop columns column zero is within = omega arith
tab-stop columns column (suc v) is within = let h = within (omega arith) in omega (arith, h)

-- a place at another byte than a tab is not within one
pub no-tab : (bytes : List ℕ) (offset virtual_spaces columns : ℕ) → HasColumns bytes offset virtual_spaces columns → slice_get bytes offset ≢ Some 9 → virtual_spaces ≡ 0
no-tab bytes offset zero columns h none = refl
no-tab bytes offset (suc v) columns h none = absurd (none (h.tab (omega arith)).0)

-- the column after a byte of a line, by whether it is a tab
column-after : (t : Bool) (b columns column virtual_spaces : ℕ) → nat_eq b 9 ≡ t → columns + 1 ≡ column + virtual_spaces → (0 < virtual_spaces → columns + 1 < after_tab column)
    → (b ≢ 9 → virtual_spaces ≡ 0) → (columns + cond t (4 - columns % 4) 1) + 1 ≡ cond t (after_tab column) (column + 1)
column-after true b columns column virtual_spaces e is within none = tab-stop columns column virtual_spaces is within
column-after false b columns column virtual_spaces e is within none =
    let ne : b ≢ 9 = grind (arith, nat_tests) in
    let z = none ne in
    omega (arith, z)

-- one byte of a line on
pub columns-over : (bytes : List ℕ) (offset b virtual_spaces columns : ℕ) → offset < length bytes → get_or bytes offset 0 ≡ b → b ≢ 10 → b ≢ 13
    → HasColumns bytes offset virtual_spaces columns → HasColumns bytes (suc offset) 0 (columns + width b columns)
columns-over bytes offset b virtual_spaces columns within is feed return h =
    let e = (plain bytes offset within (λ x. feed (sym is ∙ x)) (λ x. return (sym is ∙ x))).1 in
    let k : column_at bytes (suc offset) ≡ cond (nat_eq b 9) (after_tab (column_at bytes offset)) (column_at bytes offset + 1) =
    e ∙ ap (λ (n : ℕ). cond (nat_eq n 9) (after_tab (column_at bytes offset)) (column_at bytes offset + 1)) is in
    let get : slice_get bytes offset ≡ Some b = slice_get-get_or bytes offset 0 within ∙ ap (λ (n : ℕ). Some n) is in
    let none : b ≢ 9 → virtual_spaces ≡ 0 = λ ne. no-tab bytes offset virtual_spaces columns h (λ x. ne (same_Some b 9 (sym get ∙ x))) in
    let c = column-after (nat_eq b 9) b columns (column_at bytes offset) virtual_spaces refl h.column (λ less. (h.tab less).1) none in
    record { column = c ∙ sym k ∙ sym (add-zero (column_at bytes (suc offset))); tab = λ less. absurd (omega arith) }

-- ---- A cursor in a line

-- a cursor stands before some bytes of a line: these end where the line ends, and so many columns come before them
pub record Stands (bytes : List ℕ) (start end : ℕ) (rest : List ℕ) (virtual_spaces columns : ℕ) : Type 0 where
  pub fits : start + length rest ≤ end
  pub before : IsBefore bytes end rest
  pub place : HasColumns bytes (end - length rest) virtual_spaces columns

-- how a line ends: with the document, or with a line ending
abbrev Ending : List ℕ → ℕ → ℕ → Type 0
Ending bytes end next = ((end ≡ next) × (next ≡ length bytes)) ⊎ (EndsLine bytes end × (next ≡ end + line_ending_length bytes end))

-- the next line begins no earlier than a line ends
pub end-within : (bytes : List ℕ) (from end next : ℕ) → IsRest bytes from end next → end ≤ next
end-within bytes from end next line = by line.ending
  where
    by : Ending bytes end next → end ≤ next
    by (inl h) = omega (arith, h.0)
    by (inr h) = omega (arith, h.1)

-- no tab stands where a line ends
no-tab-at-end : (bytes : List ℕ) (from end next : ℕ) → IsRest bytes from end next → slice_get bytes end ≢ Some 9
no-tab-at-end bytes from end next line is = by line.ending
  where
    by : Ending bytes end next → ⊥
    by (inl h) = omega (arith, h.0, h.1, slice_get_within bytes end 9 is)
    by (inr h) = by_end h.0
      where
        by_end : EndsLine bytes end → ⊥
        by_end (inl f) = omega (arith, same_Some 10 9 (sym f ∙ is))
        by_end (inr f) = omega (arith, same_Some 13 9 (sym f ∙ is))

module _ (bytes : List ℕ) (start end next : ℕ) (line : IsRest bytes start end next) where
  -- the byte at the cursor
  byte-at : (b : ℕ) (rest : List ℕ) (virtual_spaces columns : ℕ) → Stands bytes start end (b ∷ rest) virtual_spaces columns
      → (end - suc (length rest) < length bytes) × (get_or bytes (end - suc (length rest)) 0 ≡ b) × IsBefore bytes end rest
  byte-at b rest virtual_spaces columns at =
      let e = end-within bytes start end next line in
      let w = line.within in
      let f = at.fits in
      let p = before-cons bytes end b rest (omega arith) (omega arith) at.before in
      (omega arith, p.0, p.1)

  -- the cursor moves over a byte
  pub over : (b : ℕ) (rest : List ℕ) (virtual_spaces columns : ℕ) → Stands bytes start end (b ∷ rest) virtual_spaces columns
      → Stands bytes start end rest 0 (columns + width b columns)
  over b rest virtual_spaces columns at =
      let f = at.fits in
      let o : ℕ = end - suc (length rest) in
      let p = byte-at b rest virtual_spaces columns at in
      let k = line.in_line o (omega arith) (omega arith) in
      let is : suc o ≡ end - length rest = omega arith in
      record {
        fits = omega arith;
        before = p.2;
        place = subst (λ (n : ℕ). HasColumns bytes n 0 (columns + width b columns)) is
            (columns-over bytes o b virtual_spaces columns p.0 p.1 (λ x. k.0 (p.1 ∙ x)) (λ x. k.1 (p.1 ∙ x)) at.place);
      }

  -- a cursor is within a tab only where one comes next
  at-end : (virtual_spaces columns : ℕ) → Stands bytes start end [] virtual_spaces columns → virtual_spaces ≡ 0
  at-end virtual_spaces columns at =
      no-tab bytes end virtual_spaces columns (subst (λ (n : ℕ). HasColumns bytes n virtual_spaces columns) (sub-zero end) at.place) (no-tab-at-end bytes start end next line)

  -- nor before another byte than a tab
  at-byte : (b : ℕ) (rest : List ℕ) (virtual_spaces columns : ℕ) → Stands bytes start end (b ∷ rest) virtual_spaces columns → b ≢ 9 → virtual_spaces ≡ 0
  at-byte b rest virtual_spaces columns at ne =
      let o : ℕ = end - suc (length rest) in
      let p = byte-at b rest virtual_spaces columns at in
      let get : slice_get bytes o ≡ Some b = slice_get-get_or bytes o 0 p.0 ∙ ap (λ (n : ℕ). Some n) p.1 in
      no-tab bytes o virtual_spaces columns at.place (λ x. ne (same_Some b 9 (sym get ∙ x)))

  -- the cursor moves over bytes
  pub over-all : (skipped rest : List ℕ) (columns : ℕ) → Stands bytes start end (skipped ++ rest) 0 columns → Stands bytes start end rest 0 (columns_after columns skipped)
  unfolding columns_after
  over-all [] rest columns at = at
  over-all (b ∷ bs) rest columns at = over-all bs rest (columns + width b columns) (over b (bs ++ rest) 0 columns at)

  -- the cursor moves to the text
  pub over-spaces : (rest : List ℕ) (virtual_spaces columns : ℕ) → Stands bytes start end rest virtual_spaces columns
      → Stands bytes start end (after_spaces rest) 0 (columns + indentation columns rest)
  unfolding after_spaces indentation
  over-spaces [] virtual_spaces columns at =
      let z = at-end virtual_spaces columns at in
      let k : columns ≡ columns + 0 = omega arith in
      subst (λ (n : ℕ). Stands bytes start end [] 0 n) k (subst (λ (n : ℕ). Stands bytes start end [] n columns) z at)
  over-spaces (b ∷ bs) virtual_spaces columns at =
      by (is_space_or_tab b) refl (over-spaces bs 0 (columns + width b columns) (over b bs virtual_spaces columns at))
    where
      by : (t : Bool) → is_space_or_tab b ≡ t
          → Stands bytes start end (after_spaces bs) 0 ((columns + width b columns) + indentation (columns + width b columns) bs)
          → Stands bytes start end (cond t (after_spaces bs) (b ∷ bs)) 0 (columns + cond t (width b columns + indentation (columns + width b columns) bs) 0)
      by true e r =
          let k : (columns + width b columns) + indentation (columns + width b columns) bs ≡ columns + (width b columns + indentation (columns + width b columns) bs) = omega arith in
          subst (λ (n : ℕ). Stands bytes start end (after_spaces bs) 0 n) k r
      by false e r =
          let ne : b ≢ 9 = not-tab b e in
          let z = at-byte b bs virtual_spaces columns at ne in
          let k : columns ≡ columns + 0 = omega arith in
          subst (λ (n : ℕ). Stands bytes start end (b ∷ bs) 0 n) k (subst (λ (n : ℕ). Stands bytes start end (b ∷ bs) n columns) z at)

  -- it stands before the text already, or comes closer to the end of the line
  pub spaces-order : (rest : List ℕ) (virtual_spaces columns : ℕ) → Stands bytes start end rest virtual_spaces columns
      → (length (after_spaces rest) < length rest) ⊎ ((length (after_spaces rest) ≡ length rest) × (virtual_spaces ≤ 0))
  unfolding after_spaces
  spaces-order [] virtual_spaces columns at = let z = at-end virtual_spaces columns at in inr (refl, omega arith)
  spaces-order (b ∷ bs) virtual_spaces columns at = by (is_space_or_tab b) refl
    where
      by : (t : Bool) → is_space_or_tab b ≡ t
          → (length (cond t (after_spaces bs) (b ∷ bs)) < length (b ∷ bs)) ⊎ ((length (cond t (after_spaces bs) (b ∷ bs)) ≡ length (b ∷ bs)) × (virtual_spaces ≤ 0))
      by true e = let l = after_spaces-length bs in inl (omega arith)
      by false e = let z = at-byte b bs virtual_spaces columns at (not-tab b e) in inr (refl, omega arith)

  -- the cursor moves into a tab
  pub into-tab : (b left : ℕ) (rest : List ℕ) (virtual_spaces columns : ℕ) → Stands bytes start end (b ∷ rest) virtual_spaces columns → left < width b columns
      → Stands bytes start end (b ∷ rest) (virtual_spaces + left) (columns + left)
  into-tab b zero rest virtual_spaces columns at less =
      subst (λ (n : ℕ). Stands bytes start end (b ∷ rest) n (columns + 0)) (sym (add-zero virtual_spaces))
      (subst (λ (n : ℕ). Stands bytes start end (b ∷ rest) virtual_spaces n) (sym (add-zero columns)) at)
  into-tab b (suc left) rest virtual_spaces columns at less =
      let o : ℕ = end - suc (length rest) in
      let p = byte-at b rest virtual_spaces columns at in
      let tab = wide-tab b left columns less in
      let get : slice_get bytes o ≡ Some 9 = slice_get-get_or bytes o 0 p.0 ∙ ap (λ (n : ℕ). Some n) (p.1 ∙ tab.0) in
      let c = at.place.column in
      let s = tab-stop columns (column_at bytes o) virtual_spaces c (λ l. (at.place.tab l).1) in
      let w = tab.1 in
      record {
        fits = at.fits;
        before = at.before;
        place = record { column = omega arith; tab = λ _. (get, omega (arith, s, w)) };
      }

  -- the cursor moves over fewer columns than the next byte takes, all of them white space
  pub into : (left : ℕ) (rest : List ℕ) (virtual_spaces columns : ℕ) → Stands bytes start end rest virtual_spaces columns
      → left ≤ indentation columns rest → (0 < length rest → left < width (get_or rest 0 0) columns)
      → Stands bytes start end rest (virtual_spaces + left) (columns + left) × (indentation (columns + left) rest + left ≡ indentation columns rest)
  into (suc left) [] virtual_spaces columns at most wide = let b = indentation-bound columns [] in absurd (omega arith)
  into zero [] virtual_spaces columns at most wide = (
    subst (λ (n : ℕ). Stands bytes start end [] n (columns + 0)) (sym (add-zero virtual_spaces))
        (subst (λ (n : ℕ). Stands bytes start end [] virtual_spaces n) (sym (add-zero columns)) at),
    add-zero (indentation (columns + 0) []) ∙ ap (λ (n : ℕ). indentation n []) (add-zero columns),
  )
  into left (b ∷ bs) virtual_spaces columns at most wide =
      let w = wide (omega arith) in
      (into-tab b left bs virtual_spaces columns at w, tab-left b left columns bs w)

  -- columns are no greater than the offsets let them be
  pub stands-bound : (rest : List ℕ) (virtual_spaces columns : ℕ) → Stands bytes start end rest virtual_spaces columns → columns + 4 * length rest ≤ 4 * length bytes + 3
  stands-bound rest zero columns at =
      let b = column-bound bytes (end - length rest) in
      let c = at.place.column in
      let f = at.fits in
      let e = end-within bytes start end next line in
      let w = line.within in
      omega arith
  stands-bound rest (suc v) columns at =
      let b = column-bound bytes (end - length rest) in
      let t = (at.place.tab (omega arith)).1 in
      let m = tab-below (column_at bytes (end - length rest)) in
      let f = at.fits in
      let e = end-within bytes start end next line in
      let w = line.within in
      omega arith

-- ---- Line endings

-- how many bytes a line ending has, by its first byte and the next one
abbrev ending_of : Option ℕ → Option ℕ → ℕ
ending_of first second =
    cond (elim first [ Some c ↦ nat_eq c 10 | None ↦ false ]) 1
    (cond (elim first [ Some c ↦ nat_eq c 13 | None ↦ false ]) (cond (elim second [ Some c ↦ nat_eq c 10 | None ↦ false ]) 2 1) 0)

-- a line ending has a byte at least
pub line_ending-least : (bytes : List ℕ) (i : ℕ) → EndsLine bytes i → 0 < line_ending_length bytes i
line_ending-least bytes i (inl feed) = subst (λ (o : Option ℕ). 0 < ending_of o (slice_get bytes (i + 1))) (sym feed) (omega arith)
line_ending-least bytes i (inr return) = subst (λ (o : Option ℕ). 0 < ending_of o (slice_get bytes (i + 1))) (sym return) (by (is_byte_at 10 bytes (i + 1)))
  where
    by : (t : Bool) → 0 < cond t 2 1
    by true = omega arith
    by false = omega arith

-- no line ending comes after the last byte
line_ending-none : (bytes : List ℕ) (i : ℕ) → length bytes ≤ i → line_ending_length bytes i ≡ 0
line_ending-none bytes i past = ap (λ (o : Option ℕ). ending_of o (slice_get bytes (i + 1))) (slice_get_past bytes i past)

-- a byte after an offset stands as much later in the document
slice_get-drop : (bytes : List ℕ) (start i : ℕ) → slice_get (drop start bytes) i ≡ slice_get bytes (start + i)
slice_get-drop bytes zero i = ap (slice_get bytes) (sym (zero-add i))
slice_get-drop [] (suc start) i = refl
slice_get-drop (b ∷ bs) (suc start) i = slice_get-drop bs start i ∙ ap (slice_get (b ∷ bs)) (let k : suc (start + i) ≡ suc start + i = omega arith in k)

-- so the line ending at an offset is that which these bytes begin with
pub line_ending-drop : (bytes : List ℕ) (end : ℕ) → line_ending_length (drop end bytes) 0 ≡ line_ending_length bytes end
line_ending-drop bytes end =
    ap (λ (o : Option ℕ). ending_of o (slice_get (drop end bytes) 1)) (slice_get-drop bytes end 0 ∙ ap (slice_get bytes) (add-zero end))
    ∙ ap (λ (o : Option ℕ). ending_of (slice_get bytes end) o) (slice_get-drop bytes end 1)

-- a line ending is within the document
line_ending-within : (bytes : List ℕ) (i : ℕ) → i ≤ length bytes → i + line_ending_length bytes i ≤ length bytes
line_ending-within bytes i within = by (slice_get bytes i) (slice_get bytes (i + 1)) refl refl
  where
    most : (feed return both : Bool) → cond feed 1 (cond return (cond both 2 1) 0) ≤ 2
    most true return both = omega arith
    most false true true = omega arith
    most false true false = omega arith
    most false false both = omega arith

    by : (first second : Option ℕ) → slice_get bytes i ≡ first → slice_get bytes (i + 1) ≡ second → i + ending_of first second ≤ length bytes
    by None second f s = omega arith
    by (Some b) None f s = let w = slice_get_within bytes i b f in let m = one (nat_eq b 10) (nat_eq b 13) in omega arith
      where
        one : (feed return : Bool) → cond feed 1 (cond return 1 0) ≤ 1
        one true return = omega arith
        one false true = omega arith
        one false false = omega arith
    by (Some b) (Some c) f s = let w = slice_get_within bytes (i + 1) c s in let m = most (nat_eq b 10) (nat_eq b 13) (nat_eq c 10) in omega arith

-- a line ends at an offset, where what comes after the offset begins with a line ending
pub ends-drop : (bytes : List ℕ) (end : ℕ) → EndsLine bytes end → EndsLine (drop end bytes) 0
ends-drop bytes end (inl feed) = inl (slice_get-drop bytes end 0 ∙ ap (slice_get bytes) (add-zero end) ∙ feed)
ends-drop bytes end (inr return) = inr (slice_get-drop bytes end 0 ∙ ap (slice_get bytes) (add-zero end) ∙ return)

-- what is left of a line, where no byte of it ends a line and what comes after it does
pub rest-from : (bytes : List ℕ) (start size : ℕ) → start + size ≤ length bytes → IsInLine (drop start bytes) 0 size → (size < length (drop start bytes) → EndsLine (drop start bytes) size)
    → start + size + line_ending_length bytes (start + size) ≤ length bytes
    → IsRest bytes start (start + size) (start + size + line_ending_length bytes (start + size))
rest-from bytes start size fits in_line ends within =
    record { order = omega arith; in_line = inside; within = within; ending = by (cases_lt size (length (drop start bytes))) }
  where
    inside : IsInLine bytes start (start + size)
    inside k least most =
        let h = in_line (k - start) (omega arith) (omega arith) in
        let is : get_or (drop start bytes) (k - start) 0 ≡ get_or bytes k 0 = get_or-drop start bytes (k - start) 0 ∙ ap (λ (i : ℕ). get_or bytes i 0) (let e : start + (k - start) ≡ k = omega arith in e) in
        (λ x. h.0 (is ∙ x), λ x. h.1 (is ∙ x))

    by : (size < length (drop start bytes)) ⊎ (length (drop start bytes) ≤ size)
        → Ending bytes (start + size) (start + size + line_ending_length bytes (start + size))
    by (inl less) = inr (ends_at (ends less), refl)
      where
        ends_at : EndsLine (drop start bytes) size → EndsLine bytes (start + size)
        ends_at (inl feed) = inl (sym (slice_get-drop bytes start size) ∙ feed)
        ends_at (inr return) = inr (sym (slice_get-drop bytes start size) ∙ return)
    by (inr past) =
        let l = length-drop start bytes in
        let n = line_ending-none bytes (start + size) (omega arith) in
        inl (omega arith, omega arith)

-- a line begins at an offset, after so many columns
pub record Begins (bytes : List ℕ) (start end next : ℕ) (text : List ℕ) (columns : ℕ) : Type 0 where
  pub whole : IsRest bytes start end next
  pub later : start < next
  pub stands : Stands bytes start end text 0 columns

-- a line begins at an offset before the end of the document
pub begins : (bytes : List ℕ) (start size columns : ℕ) → HasColumns bytes start 0 columns → 0 < length (drop start bytes) → size ≤ length (drop start bytes)
    → IsInLine (drop start bytes) 0 size → (size < length (drop start bytes) → EndsLine (drop start bytes) size)
    → Begins bytes start (start + size) (start + size + line_ending_length bytes (start + size)) (take size (drop start bytes)) columns
begins bytes start size columns at some within in_line ends =
    let l = length-drop start bytes in
    let t : length (take size (drop start bytes)) ≡ size = length-take-le size (drop start bytes) within in
    let fits : start + size ≤ length bytes = omega arith in
    let whole = rest-from bytes start size fits in_line ends (line_ending-within bytes (start + size) fits) in
    let o : start ≡ (start + size) - length (take size (drop start bytes)) = omega arith in
    let n : size ≡ (start + size) - ((start + size) - length (take size (drop start bytes))) = omega arith in
    record {
      whole = whole;
      later = later whole.ending;
      stands = record {
        fits = omega arith;
        before = ap (λ (i : ℕ). take i (drop start bytes)) n ∙ ap (λ (i : ℕ). take ((start + size) - ((start + size) - length (take size (drop start bytes)))) (drop i bytes)) o;
        place = subst (λ (i : ℕ). HasColumns bytes i 0 columns) o at;
      };
    }
  where
    later : Ending bytes (start + size) (start + size + line_ending_length bytes (start + size)) → start < start + size + line_ending_length bytes (start + size)
    later (inl h) = let l = length-drop start bytes in omega (arith, h.1)
    later (inr h) = omega (arith, line_ending-least bytes (start + size) h.0)

-- no column comes before a line that comes after a line ending
pub columns-at-next : (bytes : List ℕ) (from end next : ℕ) → IsRest bytes from end next → end < next → HasColumns bytes next 0 0
columns-at-next bytes from end next line less = by line.ending
  where
    by : Ending bytes end next → HasColumns bytes next 0 0
    by (inl last) = absurd (omega (arith, last.0))
    by (inr more) =
        let w = line.within in
        let at : Point = record { line = line_at bytes end; column = column_at bytes end; index = end; vs = 0 } in
        let place : IsPlace bytes at = record { within = omega arith; line = refl; column = sym (add-zero (column_at bytes end)); tab = λ some. absurd (omega arith) } in
        let first = place-after-ending bytes at place (line_ending-least bytes end more.0) in
        record { column = first.column ∙ ap (λ (n : ℕ). column_at bytes n + 0) (sym more.1); tab = λ some. absurd (omega arith) }

-- nor before another line that begins in the document
pub columns-at-another : (bytes : List ℕ) (from end next : ℕ) → IsRest bytes from end next → next < length bytes → HasColumns bytes next 0 0
columns-at-another bytes from end next line more = columns-at-next bytes from end next line (by line.ending)
  where
    by : Ending bytes end next → end < next
    by (inl last) = absurd (omega (arith, more, last.1))
    by (inr ends) = omega (arith, ends.1, line_ending-least bytes end ends.0)

-- ---- The start of a document

-- no columns come before it
pub columns-at-start : (bytes : List ℕ) → HasColumns bytes 0 0 0
unfolding walk
columns-at-start bytes = record { column = refl; tab = λ some. absurd (omega arith) }
