-- The kinds of places, one by one.
use Rattle.std.proofs.Common.{ℕ, Bool}
use Rattle.markdown_html.specs.declared.place.Kind.{Kind}
use Rattle.markdown_html.specs.declared.place.Kind.TheVariants.{Text, Linked, Flow, Tight, LooseItem, TightItem, Hidden, FirstRow, SecondRow, LaterRow, HeaderCell, Cell, Note, Tail, Task}

-- what holds of each kind of place holds of any
pub by_kind : (P : Kind → Type 0) → P Text → P Linked → P Flow → P Tight → P LooseItem → P TightItem → P Hidden → P FirstRow → P SecondRow → P LaterRow → P HeaderCell → P Cell → ((n : ℕ) → P (Note n)) → ((n : ℕ) → P (Tail n)) → ((c : Bool) → P (Task c)) → (kind : Kind) → P kind
by_kind P of_text of_linked of_flow of_tight of_loose of_tight_item of_hidden of_first of_second of_later of_header of_cell of_note of_tail of_task Text = of_text
by_kind P of_text of_linked of_flow of_tight of_loose of_tight_item of_hidden of_first of_second of_later of_header of_cell of_note of_tail of_task Linked = of_linked
by_kind P of_text of_linked of_flow of_tight of_loose of_tight_item of_hidden of_first of_second of_later of_header of_cell of_note of_tail of_task Flow = of_flow
by_kind P of_text of_linked of_flow of_tight of_loose of_tight_item of_hidden of_first of_second of_later of_header of_cell of_note of_tail of_task Tight = of_tight
by_kind P of_text of_linked of_flow of_tight of_loose of_tight_item of_hidden of_first of_second of_later of_header of_cell of_note of_tail of_task LooseItem = of_loose
by_kind P of_text of_linked of_flow of_tight of_loose of_tight_item of_hidden of_first of_second of_later of_header of_cell of_note of_tail of_task TightItem = of_tight_item
by_kind P of_text of_linked of_flow of_tight of_loose of_tight_item of_hidden of_first of_second of_later of_header of_cell of_note of_tail of_task Hidden = of_hidden
by_kind P of_text of_linked of_flow of_tight of_loose of_tight_item of_hidden of_first of_second of_later of_header of_cell of_note of_tail of_task FirstRow = of_first
by_kind P of_text of_linked of_flow of_tight of_loose of_tight_item of_hidden of_first of_second of_later of_header of_cell of_note of_tail of_task SecondRow = of_second
by_kind P of_text of_linked of_flow of_tight of_loose of_tight_item of_hidden of_first of_second of_later of_header of_cell of_note of_tail of_task LaterRow = of_later
by_kind P of_text of_linked of_flow of_tight of_loose of_tight_item of_hidden of_first of_second of_later of_header of_cell of_note of_tail of_task HeaderCell = of_header
by_kind P of_text of_linked of_flow of_tight of_loose of_tight_item of_hidden of_first of_second of_later of_header of_cell of_note of_tail of_task Cell = of_cell
by_kind P of_text of_linked of_flow of_tight of_loose of_tight_item of_hidden of_first of_second of_later of_header of_cell of_note of_tail of_task (Note n) = of_note n
by_kind P of_text of_linked of_flow of_tight of_loose of_tight_item of_hidden of_first of_second of_later of_header of_cell of_note of_tail of_task (Tail n) = of_tail n
by_kind P of_text of_linked of_flow of_tight of_loose of_tight_item of_hidden of_first of_second of_later of_header of_cell of_note of_tail of_task (Task c) = of_task c
