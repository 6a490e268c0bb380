-- Rows of crates/mdast_replay/data/rows.txt, by computation. scripts/rows writes this file.
use Rattle.std.proofs.Common.{◌≡◌, [], ◌∷◌, refl}
use Rattle.std.specs.Prelude.{codes}
use Rattle.std.specs.Str.{is_utf8, chars}
use lib.Utf8.{encode}
use Rattle.caseless.proofs.Computing.{caseless}
use Rattle.markdown_events.specs.declared.event.Name.TheVariants as n
use Rattle.markdown_events.specs.declared.infer.AlignKind.TheVariants as a
use Rattle.markdown_events.specs.Forest.{Forest, empty, span, events_of}
use Rattle.markdown_events.specs.Slices.{slice}
use Rattle.markdown_events.specs.Texts.{fold}
use Rattle.markdown_nodes.specs.Tree.{node, nothing, only}
use Rattle.markdown_nodes.specs.Tree as t
use Rattle.markdown_grammar.specs.Accepted.{Accepted}
use Rattle.markdown_steps.proofs.Conditions.{conditions-hold, conditions-fail}
use Rattle.markdown_steps.specs.Compiler.{compiled, enter_step, exit_step, leave, run}
use Rattle.markdown_grammar.specs.Meaning.{meaning}
use Rattle.markdown_grammar.specs.Ordered.{IsOrdered}
use Rattle.markdown_steps.proofs.Orderly.{is-ordered}
use Rattle.markdown_steps.proofs.RowWords.{at, position, over, error_kind, error_kind_of}

abbrev a_table : Forest
a_table = (span n.GfmTable (at 1 1 0) (at 2 4 7) (span n.GfmTableRow (at 1 1 0) (at 1 4 3) (span n.GfmTableCell (at 1 1 0) (at 1 4 3) (span n.Data (at 1 2 1) (at 1 3 2) empty empty) empty) (span n.LineEnding (at 1 4 3) (at 2 1 4) empty (span n.GfmTableDelimiterRow (at 2 1 4) (at 2 4 7) (span n.GfmTableDelimiterCellValue (at 2 2 5) (at 2 3 6) (span n.GfmTableDelimiterFiller (at 2 2 5) (at 2 3 6) empty empty) empty) empty))) empty)

a_table-accepted : Accepted (over (124 ∷ 97 ∷ 124 ∷ 10 ∷ 124 ∷ 45 ∷ 124 ∷ [])) a_table
unfolding is_utf8 chars encode slice fold caseless
a_table-accepted = conditions-hold (over (124 ∷ 97 ∷ 124 ∷ 10 ∷ 124 ∷ 45 ∷ 124 ∷ [])) a_table refl

a_table-means : only (meaning (over (124 ∷ 97 ∷ 124 ∷ 10 ∷ 124 ∷ 45 ∷ 124 ∷ [])) a_table) ≡ (node t.root (node (t.table (a.None ∷ [])) (node t.table_row (node t.table_cell (node (t.text (97 ∷ [])) nothing (position 1 2 1 1 3 2) nothing) (position 1 1 0 1 4 3) nothing) (position 1 1 0 1 4 3) nothing) (position 1 1 0 2 4 7) nothing) (position 1 1 0 2 4 7) nothing)
unfolding is_utf8 chars encode slice fold caseless
a_table-means = refl

a_table-ordered : IsOrdered (only (meaning (over (124 ∷ 97 ∷ 124 ∷ 10 ∷ 124 ∷ 45 ∷ 124 ∷ [])) a_table))
unfolding is_utf8 chars encode slice fold caseless
a_table-ordered = is-ordered (only (meaning (over (124 ∷ 97 ∷ 124 ∷ 10 ∷ 124 ∷ 45 ∷ 124 ∷ [])) a_table)) refl

abbrev no_alignment_of_a_later_table : Forest
no_alignment_of_a_later_table = (span n.GfmTable (at 1 1 0) (at 1 1 0) (span n.GfmTableRow (at 1 1 0) (at 1 1 0) empty empty) (span n.GfmTable (at 1 1 0) (at 1 1 0) (span n.GfmTableDelimiterRow (at 1 1 0) (at 1 1 0) (span n.GfmTableDelimiterCellValue (at 1 1 0) (at 1 1 0) empty empty) empty) empty))

no_alignment_of_a_later_table-accepted : Accepted (over ([])) no_alignment_of_a_later_table
unfolding is_utf8 chars encode slice fold caseless
no_alignment_of_a_later_table-accepted = conditions-hold (over ([])) no_alignment_of_a_later_table refl

no_alignment_of_a_later_table-means : only (meaning (over ([])) no_alignment_of_a_later_table) ≡ (node t.root (node (t.table ([])) (node t.table_row nothing (position 1 1 0 1 1 0) nothing) (position 1 1 0 1 1 0) (node (t.table (a.None ∷ [])) nothing (position 1 1 0 1 1 0) nothing)) (position 1 1 0 1 1 0) nothing)
unfolding is_utf8 chars encode slice fold caseless
no_alignment_of_a_later_table-means = refl

abbrev two_delimiter_rows : Forest
two_delimiter_rows = (span n.GfmTable (at 1 1 0) (at 2 6 9) (span n.GfmTableDelimiterRow (at 1 1 0) (at 1 4 3) (span n.GfmTableDelimiterCellValue (at 1 2 1) (at 1 3 2) (span n.GfmTableDelimiterMarker (at 1 2 1) (at 1 3 2) empty empty) empty) (span n.LineEnding (at 1 4 3) (at 2 1 4) empty (span n.GfmTableDelimiterRow (at 2 1 4) (at 2 6 9) (span n.GfmTableDelimiterCellValue (at 2 2 5) (at 2 3 6) (span n.GfmTableDelimiterFiller (at 2 2 5) (at 2 3 6) empty empty) (span n.GfmTableDelimiterCellValue (at 2 4 7) (at 2 5 8) (span n.GfmTableDelimiterFiller (at 2 4 7) (at 2 5 8) empty empty) empty)) empty))) empty)

two_delimiter_rows-accepted : Accepted (over (124 ∷ 58 ∷ 124 ∷ 10 ∷ 124 ∷ 45 ∷ 124 ∷ 45 ∷ 124 ∷ [])) two_delimiter_rows
unfolding is_utf8 chars encode slice fold caseless
two_delimiter_rows-accepted = conditions-hold (over (124 ∷ 58 ∷ 124 ∷ 10 ∷ 124 ∷ 45 ∷ 124 ∷ 45 ∷ 124 ∷ [])) two_delimiter_rows refl

two_delimiter_rows-means : only (meaning (over (124 ∷ 58 ∷ 124 ∷ 10 ∷ 124 ∷ 45 ∷ 124 ∷ 45 ∷ 124 ∷ [])) two_delimiter_rows) ≡ (node t.root (node (t.table (a.Center ∷ [])) nothing (position 1 1 0 2 6 9) nothing) (position 1 1 0 2 6 9) nothing)
unfolding is_utf8 chars encode slice fold caseless
two_delimiter_rows-means = refl

abbrev a_table_in_a_cell : Forest
a_table_in_a_cell = (span n.GfmTable (at 1 1 0) (at 1 1 0) (span n.GfmTableRow (at 1 1 0) (at 1 1 0) (span n.GfmTableCell (at 1 1 0) (at 1 1 0) (span n.GfmTable (at 1 1 0) (at 1 1 0) empty empty) empty) empty) empty)

a_table_in_a_cell-accepted : ¬ (Accepted (over ([])) a_table_in_a_cell)
unfolding is_utf8 chars encode slice fold caseless
a_table_in_a_cell-accepted = conditions-fail (over ([])) a_table_in_a_cell refl

a_table_in_a_cell-refused : error_kind_of (compiled (over ([])) (events_of a_table_in_a_cell)) ≡ error_kind (codes "name-misplaced") 1 1 0
unfolding is_utf8 chars encode slice fold caseless run enter_step exit_step leave
a_table_in_a_cell-refused = refl

abbrev a_table_in_a_label_in_a_cell : Forest
a_table_in_a_label_in_a_cell = (span n.GfmTable (at 1 1 0) (at 1 1 0) (span n.GfmTableRow (at 1 1 0) (at 1 1 0) (span n.GfmTableCell (at 1 1 0) (at 1 1 0) (span n.Link (at 1 1 0) (at 1 1 0) (span n.LabelText (at 1 1 0) (at 1 1 0) (span n.GfmTable (at 1 1 0) (at 1 1 0) empty empty) empty) empty) empty) empty) empty)

a_table_in_a_label_in_a_cell-accepted : ¬ (Accepted (over ([])) a_table_in_a_label_in_a_cell)
unfolding is_utf8 chars encode slice fold caseless
a_table_in_a_label_in_a_cell-accepted = conditions-fail (over ([])) a_table_in_a_label_in_a_cell refl

a_table_in_a_label_in_a_cell-refused : error_kind_of (compiled (over ([])) (events_of a_table_in_a_label_in_a_cell)) ≡ error_kind (codes "name-misplaced") 1 1 0
unfolding is_utf8 chars encode slice fold caseless run enter_step exit_step leave
a_table_in_a_label_in_a_cell-refused = refl

abbrev a_table_in_a_label_in_a_cell_without_a_row : Forest
a_table_in_a_label_in_a_cell_without_a_row = (span n.GfmTable (at 1 1 0) (at 1 6 5) (span n.GfmTableCell (at 1 1 0) (at 1 6 5) (span n.Link (at 1 2 1) (at 1 5 4) (span n.LabelText (at 1 3 2) (at 1 4 3) (span n.GfmTable (at 1 3 2) (at 1 4 3) empty empty) empty) empty) empty) empty)

a_table_in_a_label_in_a_cell_without_a_row-accepted : ¬ (Accepted (over (124 ∷ 91 ∷ 97 ∷ 93 ∷ 124 ∷ [])) a_table_in_a_label_in_a_cell_without_a_row)
unfolding is_utf8 chars encode slice fold caseless
a_table_in_a_label_in_a_cell_without_a_row-accepted = conditions-fail (over (124 ∷ 91 ∷ 97 ∷ 93 ∷ 124 ∷ [])) a_table_in_a_label_in_a_cell_without_a_row refl

a_table_in_a_label_in_a_cell_without_a_row-refused : error_kind_of (compiled (over (124 ∷ 91 ∷ 97 ∷ 93 ∷ 124 ∷ [])) (events_of a_table_in_a_label_in_a_cell_without_a_row)) ≡ error_kind (codes "name-misplaced") 1 3 2
unfolding is_utf8 chars encode slice fold caseless run enter_step exit_step leave
a_table_in_a_label_in_a_cell_without_a_row-refused = refl
