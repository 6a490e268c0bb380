-- Rows of tables, one cell after the other.
use Rattle.std.proofs.Common.{◌≡◌, ◌<◌, ◌≤◌, ◌∷◌, ◌++◌, ◌∙◌, ◌⊎◌, Bool, List, [], ap, arith, cond, drop, false, inl, inr, length, refl, subst, sym, take, true, ℕ}
use Rattle.std.proofs.lemmas.Grind.{common_steps}
use Rattle.std.proofs.lemmas.List.{drop-append-le, take-append-drop, take-append-le}
use Rattle.std.proofs.lemmas.Str.Ascii.{IsAscii-cons}
use Rattle.std.proofs.Math.Seq.{take-append_seam}
use Rattle.std.specs.Prelude.{slice_index}
use Rattle.std.specs.Str.{IsAscii}
use Rattle.commonmark_syntax.proofs.Cuts.{cut_take}
use Rattle.commonmark_syntax.specs.Cuts.{IsCut}
use Rattle.markdown_flow.proofs.Cuts.{after_ascii, before_ascii, past_end}
use Rattle.markdown_flow.proofs.Lines.{after_spaces-twice}
use Rattle.markdown_flow.specs.Lines.{after_spaces, is_space_or_tab}
use Rattle.markdown_flow.specs.Rows.{IsFirst, after_text, from_text}
use Rattle.markdown_flow.specs.declared.gfm_table_row.Cell.{Cell}

-- an end of a row is empty, or begins with a divider
abbrev pub IsEnd : List ℕ → Type 0
IsEnd end = 0 < length end → slice_index end 0 ≡ 124

-- no white space comes first there
end_black : (end : List ℕ) → IsEnd end → after_spaces end ≡ end
unfolding after_spaces
end_black [] divider = refl
end_black (b ∷ bs) divider =
    let is : b ≡ 124 = divider (omega arith) in
    ap (λ (x : ℕ). cond (is_space_or_tab x) (after_spaces bs) (b ∷ bs)) is

-- white space of a text before it is white space before both
spaces_before : (text end : List ℕ) → after_spaces end ≡ end → after_spaces (text ++ end) ≡ after_spaces text ++ end
unfolding after_spaces
spaces_before [] end black = black
spaces_before (b ∷ bs) end black = by (is_space_or_tab b) (spaces_before bs end black)
  where
    by : (t : Bool) → after_spaces (bs ++ end) ≡ after_spaces bs ++ end → cond t (after_spaces (bs ++ end)) (b ∷ (bs ++ end)) ≡ cond t (after_spaces bs) (b ∷ bs) ++ end
    by true rest = rest
    by false rest = refl

-- it may be cut after its divider
end_divider : (end : List ℕ) → IsEnd end → IsCut end 1
end_divider [] divider = past_end [] 1 (omega arith)
end_divider (b ∷ bs) divider = after_ascii (b ∷ bs) 0 1 (omega arith) (omega (arith, divider (omega arith)))

-- and before it
before_end : (text end : List ℕ) → IsEnd end → IsCut (text ++ end) (length text)
before_end text [] divider = past_end (text ++ []) (length text) (grind (arith, common_steps))
before_end text (b ∷ bs) divider =
    let is : b ≡ 124 = divider (omega arith) in
    let there : slice_index (text ++ b ∷ bs) (length text) ≡ b = grind (arith, common_steps) in
    before_ascii (text ++ b ∷ bs) (length text) (omega (arith, is, there))

-- a last divider and white space are ASCII
end_ascii : (end : List ℕ) → IsEnd end → IsAscii (drop 1 end) → IsAscii end
end_ascii [] divider rest = rest
end_ascii (b ∷ bs) divider rest = IsAscii-cons b bs (omega (arith, divider (omega arith))) rest

-- ---- The first cell

-- the row from the text on
text_and_end : (row : List ℕ) (size d : ℕ) → size ≤ length row → d ≤ size → IsEnd (drop size row) → after_spaces (drop d row) ≡ after_spaces (drop d (take size row)) ++ drop size row
text_and_end row size d within order end =
    let long : d ≤ length (take size row) = grind (arith, common_steps) in
    let parts : drop d row ≡ drop d (take size row) ++ drop size row = ap (drop d) (sym (take-append-drop size row)) ∙ drop-append-le d (take size row) (drop size row) long in
    ap after_spaces parts ∙ spaces_before (drop d (take size row)) (drop size row) (end_black (drop size row) end)

-- a row begins with a cell: a divider, white space, a text without white space around it, and more white space
pub is_first : (row : List ℕ) (size t : ℕ) (cell : Cell) → size ≤ length row → cell.divider_size ≤ size → IsEnd (drop size row) → IsAscii (take cell.divider_size row)
    → t ≤ length (after_spaces (drop cell.divider_size (take size row))) → cell.text.now ≡ take t (after_spaces (drop cell.divider_size (take size row)))
    → IsCut (after_spaces (drop cell.divider_size (take size row))) t → after_spaces (drop t (after_spaces (drop cell.divider_size (take size row)))) ≡ []
    → (cell.next.now ≡ drop size row) ⊎ ((cell.next.now ≡ []) × IsAscii (drop 1 (drop size row))) → IsFirst row cell
is_first row size t cell inside order end divider within text cut blank next =
    record {
      divider = divider;
      text = text ∙ sym (taken (length cell.text.now) here);
      text_cut = subst (IsCut (from_text row cell)) (sym here) cut_there;
      end_cut = subst (λ (xs : List ℕ). IsCut xs 1) (sym after) (end_divider (drop size row) end);
      next = by next;
    }
  where
    d : ℕ
    d = cell.divider_size

    inner : List ℕ
    inner = after_spaces (drop d (take size row))

    whole : from_text row cell ≡ inner ++ drop size row
    whole = text_and_end row size d inside order end

    here : length cell.text.now ≡ t
    here = ap (λ (xs : List ℕ). length xs) text ∙ grind (arith, common_steps)

    taken : (n : ℕ) → n ≡ t → take n (from_text row cell) ≡ take t inner
    taken n is = ap (λ (m : ℕ). take m (from_text row cell)) is ∙ ap (take t) whole ∙ take-append-le t inner (drop size row) within

    all : take (length inner) (inner ++ drop size row) ≡ inner
    all = take-append_seam inner (drop size row)

    cut_there : IsCut (from_text row cell) t
    cut_there =
        subst (λ (xs : List ℕ). IsCut xs t) (sym whole) (
        cut_take (inner ++ drop size row) (length inner) t within (before_end inner (drop size row) end) (subst (λ (xs : List ℕ). IsCut xs t) (sym all) cut))

    after : after_text row cell ≡ drop size row
    after =
        ap (λ (n : ℕ). after_spaces (drop n (from_text row cell))) here ∙ ap (λ (xs : List ℕ). after_spaces (drop t xs)) whole ∙ ap after_spaces (drop-append-le t inner (drop size row) within)
        ∙ spaces_before (drop t inner) (drop size row) (end_black (drop size row) end) ∙ ap (λ (xs : List ℕ). xs ++ drop size row) blank

    by : (cell.next.now ≡ drop size row) ⊎ ((cell.next.now ≡ []) × IsAscii (drop 1 (drop size row))) → (after_text row cell ≡ cell.next.now) ⊎ ((cell.next.now ≡ []) × IsAscii (after_text row cell))
    by (inl same) = inl (after ∙ sym same)
    by (inr last) = inr (last.0, subst IsAscii (sym after) (end_ascii (drop size row) end last.1))

-- the next cell comes after it, if there is one
pub next_after : (row : List ℕ) (cell : Cell) (rest : List ℕ) → IsFirst row cell → 0 < length cell.next.now → rest ≡ after_text row cell → after_spaces rest ≡ cell.next.now
next_after row cell rest first more is =
    let black = after_spaces-twice (drop (length cell.text.now) (from_text row cell)) in
    ap after_spaces is ∙ black ∙ by first.next
  where
    by : (after_text row cell ≡ cell.next.now) ⊎ ((cell.next.now ≡ []) × IsAscii (after_text row cell)) → after_text row cell ≡ cell.next.now
    by (inl same) = same
    by (inr last) = absurd (omega (arith, more, ap (λ (xs : List ℕ). length xs) last.0))

-- ---- Rows of ASCII
