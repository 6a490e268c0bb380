-- The cursor of a line, and the columns that come before it and before the text.
use Rattle.std.proofs.Common.{◌≡◌, ◌<◌, ◌≤◌, ◌+◌, ◌-◌, ◌*◌, ◌^◌, ◌⊎◌, inl, inr, List, ◌∷◌, ◌++◌, length, ℕ, ap, arith, subst, sym, ◌∙◌}
use Rattle.std.proofs.lemmas.Bool.{cases_lt}
use Rattle.event_writer.specs.Places.{column_at}
use Rattle.event_writer.proofs.Walks.{tab-below}
use Rattle.markdown_flow.specs.Lines.{after_spaces, columns_after, indentation, width}
use Rattle.markdown_flow.specs.declared.line.Line.{Line}
use Rattle.markdown_flow.proofs.Lines.{Stands, after_spaces-twice, indentation-none, over, over-all, over-spaces, spaces-order, stands-bound}

-- the cursor stands in the line
pub stands : (line : Line) → Stands line.source.document.now line.start line.end line.rest.now line.virtual_spaces line.columns
stands line = record { fits = line.rest_fits; before = line.rest_stands; place = line.has_columns }

-- fewer columns than the width of a tab come before it in one
pub few_columns : (line : Line) → line.virtual_spaces < 4
few_columns line =
    let bytes = line.source.document.now in
    let offset = line.end - length line.rest.now in
    elim (cases_lt 0 line.virtual_spaces) [
      | inl some ↦ omega (arith, line.has_columns.column, (line.has_columns.tab some).1, tab-below (column_at bytes offset))
      | inr none ↦ omega (arith, none)
    ]

-- so does the start of the text
pub text-stands : (line : Line) → Stands line.source.document.now line.start line.end line.text.now 0 (line.columns + line.indent)
text-stands line =
    let at = over-spaces line.source.document.now line.start line.end line.next line.whole line.rest.now line.virtual_spaces line.columns (stands line) in
    subst (λ (n : ℕ). Stands line.source.document.now line.start line.end line.text.now 0 (line.columns + n)) (sym line.has_indent)
    (subst (λ (text : List ℕ). Stands line.source.document.now line.start line.end text 0 (line.columns + indentation line.columns line.rest.now)) (sym line.text_rests) at)

-- the text is no longer than what comes after the cursor; where it is as long, the cursor is not within a tab
pub text-order : (line : Line) → (length line.text.now < length line.rest.now) ⊎ ((length line.text.now ≡ length line.rest.now) × (line.virtual_spaces ≤ 0))
text-order line =
    subst (λ (text : List ℕ). (length text < length line.rest.now) ⊎ ((length text ≡ length line.rest.now) × (line.virtual_spaces ≤ 0))) (sym line.text_rests)
    (spaces-order line.source.document.now line.start line.end line.next line.whole line.rest.now line.virtual_spaces line.columns (stands line))

-- the text begins with no white space
pub text-again : (line : Line) → line.text.now ≡ after_spaces line.text.now
text-again line = line.text_rests ∙ sym (after_spaces-twice line.rest.now) ∙ ap after_spaces (sym line.text_rests)

-- so there are no columns of it
pub text-indentation : (line : Line) (columns : ℕ) → 0 ≡ indentation columns line.text.now
text-indentation line columns = sym (indentation-none columns line.rest.now) ∙ ap (indentation columns) (sym line.text_rests)

-- columns fit 64 bits, and so do those after all bytes of the line
pub columns-below : (line : Line) (rest : List ℕ) (virtual_spaces columns : ℕ) → Stands line.source.document.now line.start line.end rest virtual_spaces columns
    → columns + 4 * length rest ≤ 2 ^ 63
columns-below line rest virtual_spaces columns at =
    let b = stands-bound line.source.document.now line.start line.end line.next line.whole rest virtual_spaces columns at in
    let s = line.source.short in
    omega arith

-- the cursor moves over a byte
pub byte-over : (line : Line) (b : ℕ) (rest : List ℕ) (virtual_spaces columns : ℕ)
    → Stands line.source.document.now line.start line.end (b ∷ rest) virtual_spaces columns → Stands line.source.document.now line.start line.end rest 0 (columns + width b columns)
byte-over line = over line.source.document.now line.start line.end line.next line.whole

-- the cursor moves over some bytes
pub bytes-over : (line : Line) (skipped rest : List ℕ) → line.rest.now ≡ skipped ++ rest → line.virtual_spaces ≡ 0
    → Stands line.source.document.now line.start line.end rest 0 (columns_after line.columns skipped)
bytes-over line skipped rest is whole =
    over-all line.source.document.now line.start line.end line.next line.whole skipped rest line.columns
    (subst (λ (n : ℕ). Stands line.source.document.now line.start line.end (skipped ++ rest) n line.columns) whole
    (subst (λ (text : List ℕ). Stands line.source.document.now line.start line.end text line.virtual_spaces line.columns) is (stands line)))

-- a cursor that has moved on may move on again
pub order-on : (before between after old new : ℕ) → (between < before) ⊎ ((between ≡ before) × (old ≤ new)) → after ≤ between → (after < before) ⊎ ((after ≡ before) × (old ≤ new))
order-on before between after old new (inl less) on = inl (omega arith)
order-on before between after old new (inr same) on = by (cases_lt after before)
  where
    by : (after < before) ⊎ (before ≤ after) → (after < before) ⊎ ((after ≡ before) × (old ≤ new))
    by (inl less) = inl less
    by (inr most) = inr (omega (arith, same.0), same.1)

-- and is closer to the end of its line, then, if it moves over a byte
pub closer : (before between after old new : ℕ) → (between < before) ⊎ ((between ≡ before) × (old ≤ new)) → after < between → after < before
closer before between after old new (inl less) on = omega arith
closer before between after old new (inr same) on = omega (arith, same.0)
