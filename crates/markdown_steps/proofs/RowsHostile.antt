-- Rows of crates/mdast_replay/data/rows.txt, by computation. scripts/rows writes this file.
use Rattle.std.proofs.Common.{◌≡◌, [], ◌∷◌, refl}
use Rattle.std.specs.Prelude.{codes}
use Rattle.std.specs.Str.{is_utf8, chars}
use lib.Utf8.{encode}
use Rattle.caseless.proofs.Computing.{caseless}
use Rattle.markdown_events.specs.declared.event.Name.TheVariants as n
use Rattle.markdown_events.specs.Forest.{Forest, empty, span, events_of}
use Rattle.markdown_events.specs.Slices.{slice}
use Rattle.markdown_events.specs.Texts.{fold}
use Rattle.markdown_grammar.specs.Accepted.{Accepted}
use Rattle.markdown_steps.proofs.Conditions.{conditions-fail}
use Rattle.markdown_steps.specs.Compiler.{compiled, enter_step, exit_step, leave, run}
use Rattle.markdown_steps.proofs.RowWords.{at, at_spaces, over, error_kind, error_kind_of}

abbrev a_space_that_holds_data : Forest
a_space_that_holds_data = (span n.Paragraph (at 1 1 0) (at 1 3 2) (span n.SpaceOrTab (at 1 1 0) (at 1 2 1) (span n.Data (at 1 1 0) (at 1 2 1) empty empty) empty) empty)

a_space_that_holds_data-accepted : ¬ (Accepted (over (97 ∷ 98 ∷ [])) a_space_that_holds_data)
unfolding is_utf8 chars encode slice fold caseless
a_space_that_holds_data-accepted = conditions-fail (over (97 ∷ 98 ∷ [])) a_space_that_holds_data refl

a_space_that_holds_data-refused : error_kind_of (compiled (over (97 ∷ 98 ∷ [])) (events_of a_space_that_holds_data)) ≡ error_kind (codes "span-held") 1 1 0
unfolding is_utf8 chars encode slice fold caseless run enter_step exit_step leave
a_space_that_holds_data-refused = refl

abbrev a_delimiter_row_in_another : Forest
a_delimiter_row_in_another = (span n.GfmTable (at 1 1 0) (at 1 3 2) (span n.GfmTableDelimiterRow (at 1 1 0) (at 1 3 2) (span n.GfmTableBody (at 1 1 0) (at 1 3 2) (span n.GfmTableDelimiterRow (at 1 2 1) (at 1 3 2) empty empty) empty) empty) empty)

a_delimiter_row_in_another-accepted : ¬ (Accepted (over (97 ∷ 98 ∷ [])) a_delimiter_row_in_another)
unfolding is_utf8 chars encode slice fold caseless
a_delimiter_row_in_another-accepted = conditions-fail (over (97 ∷ 98 ∷ [])) a_delimiter_row_in_another refl

a_delimiter_row_in_another-refused : error_kind_of (compiled (over (97 ∷ 98 ∷ [])) (events_of a_delimiter_row_in_another)) ≡ error_kind (codes "span-held") 1 2 1
unfolding is_utf8 chars encode slice fold caseless run enter_step exit_step leave
a_delimiter_row_in_another-refused = refl

abbrev a_cell_value_in_another : Forest
a_cell_value_in_another = (span n.GfmTableDelimiterCellValue (at 1 1 0) (at 1 3 2) (span n.GfmTableDelimiterRow (at 1 1 0) (at 1 3 2) (span n.GfmTableDelimiterCellValue (at 1 2 1) (at 1 3 2) empty empty) empty) empty)

a_cell_value_in_another-accepted : ¬ (Accepted (over (97 ∷ 98 ∷ [])) a_cell_value_in_another)
unfolding is_utf8 chars encode slice fold caseless
a_cell_value_in_another-accepted = conditions-fail (over (97 ∷ 98 ∷ [])) a_cell_value_in_another refl

a_cell_value_in_another-refused : error_kind_of (compiled (over (97 ∷ 98 ∷ [])) (events_of a_cell_value_in_another)) ≡ error_kind (codes "span-held") 1 2 1
unfolding is_utf8 chars encode slice fold caseless run enter_step exit_step leave
a_cell_value_in_another-refused = refl

abbrev two_labels_in_an_image : Forest
two_labels_in_an_image = (span n.Image (at 1 1 0) (at 1 3 2) (span n.LabelText (at 1 1 0) (at 1 2 1) empty (span n.LabelText (at 1 2 1) (at 1 3 2) empty empty)) empty)

two_labels_in_an_image-accepted : ¬ (Accepted (over (97 ∷ 98 ∷ [])) two_labels_in_an_image)
unfolding is_utf8 chars encode slice fold caseless
two_labels_in_an_image-accepted = conditions-fail (over (97 ∷ 98 ∷ [])) two_labels_in_an_image refl

two_labels_in_an_image-refused : error_kind_of (compiled (over (97 ∷ 98 ∷ [])) (events_of two_labels_in_an_image)) ≡ error_kind (codes "part-repeated") 1 2 1
unfolding is_utf8 chars encode slice fold caseless run enter_step exit_step leave
two_labels_in_an_image-refused = refl

abbrev a_label_after_a_resource : Forest
a_label_after_a_resource = (span n.Link (at 1 1 0) (at 1 3 2) (span n.Resource (at 1 1 0) (at 1 2 1) empty (span n.LabelText (at 1 2 1) (at 1 3 2) empty empty)) empty)

a_label_after_a_resource-accepted : ¬ (Accepted (over (97 ∷ 98 ∷ [])) a_label_after_a_resource)
unfolding is_utf8 chars encode slice fold caseless
a_label_after_a_resource-accepted = conditions-fail (over (97 ∷ 98 ∷ [])) a_label_after_a_resource refl

a_label_after_a_resource-refused : error_kind_of (compiled (over (97 ∷ 98 ∷ [])) (events_of a_label_after_a_resource)) ≡ error_kind (codes "name-misplaced") 1 2 1
unfolding is_utf8 chars encode slice fold caseless run enter_step exit_step leave
a_label_after_a_resource-refused = refl

abbrev a_reversed_slice : Forest
a_reversed_slice = (span n.Paragraph (at 1 1 0) (at 1 3 2) (span n.Data (at 1 3 2) (at 1 1 0) empty empty) empty)

a_reversed_slice-accepted : ¬ (Accepted (over (97 ∷ 98 ∷ [])) a_reversed_slice)
unfolding is_utf8 chars encode slice fold caseless
a_reversed_slice-accepted = conditions-fail (over (97 ∷ 98 ∷ [])) a_reversed_slice refl

a_reversed_slice-refused : error_kind_of (compiled (over (97 ∷ 98 ∷ [])) (events_of a_reversed_slice)) ≡ error_kind (codes "slice-invalid") 1 1 0
unfolding is_utf8 chars encode slice fold caseless run enter_step exit_step leave
a_reversed_slice-refused = refl

abbrev a_slice_past_the_document : Forest
a_slice_past_the_document = (span n.Data (at 1 1 0) (at_spaces 1 4 3 0) empty empty)

a_slice_past_the_document-accepted : ¬ (Accepted (over (97 ∷ 98 ∷ [])) a_slice_past_the_document)
unfolding is_utf8 chars encode slice fold caseless
a_slice_past_the_document-accepted = conditions-fail (over (97 ∷ 98 ∷ [])) a_slice_past_the_document refl

a_slice_past_the_document-refused : error_kind_of (compiled (over (97 ∷ 98 ∷ [])) (events_of a_slice_past_the_document)) ≡ error_kind (codes "slice-invalid") 1 4 3
unfolding is_utf8 chars encode slice fold caseless run enter_step exit_step leave
a_slice_past_the_document-refused = refl

abbrev a_slice_that_would_wrap : Forest
a_slice_that_would_wrap = (span n.Data (at 1 1 0) (at_spaces 1 1 18446744073709551615 1) empty empty)

a_slice_that_would_wrap-accepted : ¬ (Accepted (over (97 ∷ 98 ∷ [])) a_slice_that_would_wrap)
unfolding is_utf8 chars encode slice fold caseless
a_slice_that_would_wrap-accepted = conditions-fail (over (97 ∷ 98 ∷ [])) a_slice_that_would_wrap refl

a_slice_that_would_wrap-refused : error_kind_of (compiled (over (97 ∷ 98 ∷ [])) (events_of a_slice_that_would_wrap)) ≡ error_kind (codes "slice-invalid") 1 1 18446744073709551615
unfolding is_utf8 chars encode slice fold caseless run enter_step exit_step leave
a_slice_that_would_wrap-refused = refl

abbrev data_after_a_break : Forest
data_after_a_break = (span n.Paragraph (at 1 1 0) (at 1 3 2) (span n.HardBreakEscape (at 1 1 0) (at 1 2 1) empty (span n.Data (at 1 2 1) (at 1 3 2) empty empty)) empty)

data_after_a_break-accepted : ¬ (Accepted (over (97 ∷ 98 ∷ [])) data_after_a_break)
unfolding is_utf8 chars encode slice fold caseless
data_after_a_break-accepted = conditions-fail (over (97 ∷ 98 ∷ [])) data_after_a_break refl

data_after_a_break-refused : error_kind_of (compiled (over (97 ∷ 98 ∷ [])) (events_of data_after_a_break)) ≡ error_kind (codes "break-unfinished") 1 2 1
unfolding is_utf8 chars encode slice fold caseless run enter_step exit_step leave
data_after_a_break-refused = refl

abbrev a_break_alone : Forest
a_break_alone = (span n.HardBreakTrailing (at 1 1 0) (at 1 3 2) empty empty)

a_break_alone-accepted : ¬ (Accepted (over (97 ∷ 98 ∷ [])) a_break_alone)
unfolding is_utf8 chars encode slice fold caseless
a_break_alone-accepted = conditions-fail (over (97 ∷ 98 ∷ [])) a_break_alone refl

a_break_alone-refused : error_kind_of (compiled (over (97 ∷ 98 ∷ [])) (events_of a_break_alone)) ≡ error_kind (codes "break-unfinished") 1 3 2
unfolding is_utf8 chars encode slice fold caseless run enter_step exit_step leave
a_break_alone-refused = refl

abbrev a_mark_outside_an_item : Forest
a_mark_outside_an_item = (span n.Paragraph (at 1 1 0) (at 1 3 2) (span n.GfmTaskListItemValueChecked (at 1 1 0) (at 1 2 1) empty empty) empty)

a_mark_outside_an_item-accepted : ¬ (Accepted (over (97 ∷ 98 ∷ [])) a_mark_outside_an_item)
unfolding is_utf8 chars encode slice fold caseless
a_mark_outside_an_item-accepted = conditions-fail (over (97 ∷ 98 ∷ [])) a_mark_outside_an_item refl

a_mark_outside_an_item-refused : error_kind_of (compiled (over (97 ∷ 98 ∷ [])) (events_of a_mark_outside_an_item)) ≡ error_kind (codes "name-misplaced") 1 1 0
unfolding is_utf8 chars encode slice fold caseless run enter_step exit_step leave
a_mark_outside_an_item-refused = refl

abbrev two_marks_in_an_item : Forest
two_marks_in_an_item = (span n.ListUnordered (at 1 1 0) (at 1 3 2) (span n.ListItem (at 1 1 0) (at 1 3 2) (span n.Paragraph (at 1 1 0) (at 1 2 1) (span n.GfmTaskListItemValueChecked (at 1 1 0) (at 1 2 1) empty empty) (span n.Paragraph (at 1 2 1) (at 1 3 2) (span n.GfmTaskListItemValueUnchecked (at 1 2 1) (at 1 3 2) empty empty) empty)) empty) empty)

two_marks_in_an_item-accepted : ¬ (Accepted (over (97 ∷ 98 ∷ [])) two_marks_in_an_item)
unfolding is_utf8 chars encode slice fold caseless
two_marks_in_an_item-accepted = conditions-fail (over (97 ∷ 98 ∷ [])) two_marks_in_an_item refl

two_marks_in_an_item-refused : error_kind_of (compiled (over (97 ∷ 98 ∷ [])) (events_of two_marks_in_an_item)) ≡ error_kind (codes "part-repeated") 1 2 1
unfolding is_utf8 chars encode slice fold caseless run enter_step exit_step leave
two_marks_in_an_item-refused = refl

abbrev a_value_outside_a_list : Forest
a_value_outside_a_list = (span n.BlockQuote (at 1 1 0) (at 1 3 2) (span n.ListItem (at 1 1 0) (at 1 3 2) (span n.ListItemValue (at 1 1 0) (at 1 2 1) empty empty) empty) empty)

a_value_outside_a_list-accepted : ¬ (Accepted (over (97 ∷ 98 ∷ [])) a_value_outside_a_list)
unfolding is_utf8 chars encode slice fold caseless
a_value_outside_a_list-accepted = conditions-fail (over (97 ∷ 98 ∷ [])) a_value_outside_a_list refl

a_value_outside_a_list-refused : error_kind_of (compiled (over (97 ∷ 98 ∷ [])) (events_of a_value_outside_a_list)) ≡ error_kind (codes "name-misplaced") 1 1 0
unfolding is_utf8 chars encode slice fold caseless run enter_step exit_step leave
a_value_outside_a_list-refused = refl

abbrev a_value_of_letters : Forest
a_value_of_letters = (span n.ListOrdered (at 1 1 0) (at 1 3 2) (span n.ListItem (at 1 1 0) (at 1 3 2) (span n.ListItemValue (at 1 1 0) (at 1 2 1) empty empty) empty) empty)

a_value_of_letters-accepted : ¬ (Accepted (over (97 ∷ 98 ∷ [])) a_value_of_letters)
unfolding is_utf8 chars encode slice fold caseless
a_value_of_letters-accepted = conditions-fail (over (97 ∷ 98 ∷ [])) a_value_of_letters refl

a_value_of_letters-refused : error_kind_of (compiled (over (97 ∷ 98 ∷ [])) (events_of a_value_of_letters)) ≡ error_kind (codes "list-value-invalid") 1 2 1
unfolding is_utf8 chars encode slice fold caseless run enter_step exit_step leave
a_value_of_letters-refused = refl

abbrev a_list_without_a_value : Forest
a_list_without_a_value = (span n.ListOrdered (at 1 1 0) (at 1 3 2) (span n.ListItem (at 1 1 0) (at 1 3 2) empty empty) empty)

a_list_without_a_value-accepted : ¬ (Accepted (over (97 ∷ 98 ∷ [])) a_list_without_a_value)
unfolding is_utf8 chars encode slice fold caseless
a_list_without_a_value-accepted = conditions-fail (over (97 ∷ 98 ∷ [])) a_list_without_a_value refl

a_list_without_a_value-refused : error_kind_of (compiled (over (97 ∷ 98 ∷ [])) (events_of a_list_without_a_value)) ≡ error_kind (codes "list-value-missing") 1 3 2
unfolding is_utf8 chars encode slice fold caseless run enter_step exit_step leave
a_list_without_a_value-refused = refl

abbrev a_reference_of_letters : Forest
a_reference_of_letters = (span n.CharacterReference (at 1 1 0) (at 1 3 2) (span n.CharacterReferenceMarker (at 1 1 0) (at 1 2 1) empty (span n.CharacterReferenceValue (at 1 2 1) (at 1 3 2) empty empty)) empty)

a_reference_of_letters-accepted : ¬ (Accepted (over (97 ∷ 98 ∷ [])) a_reference_of_letters)
unfolding is_utf8 chars encode slice fold caseless
a_reference_of_letters-accepted = conditions-fail (over (97 ∷ 98 ∷ [])) a_reference_of_letters refl

a_reference_of_letters-refused : error_kind_of (compiled (over (97 ∷ 98 ∷ [])) (events_of a_reference_of_letters)) ≡ error_kind (codes "reference-unknown") 1 3 2
unfolding is_utf8 chars encode slice fold caseless run enter_step exit_step leave
a_reference_of_letters-refused = refl

abbrev a_reference_without_a_value : Forest
a_reference_without_a_value = (span n.CharacterReference (at 1 1 0) (at 1 3 2) (span n.CharacterReferenceMarker (at 1 1 0) (at 1 2 1) empty empty) empty)

a_reference_without_a_value-accepted : ¬ (Accepted (over (97 ∷ 98 ∷ [])) a_reference_without_a_value)
unfolding is_utf8 chars encode slice fold caseless
a_reference_without_a_value-accepted = conditions-fail (over (97 ∷ 98 ∷ [])) a_reference_without_a_value refl

a_reference_without_a_value-refused : error_kind_of (compiled (over (97 ∷ 98 ∷ [])) (events_of a_reference_without_a_value)) ≡ error_kind (codes "reference-incomplete") 1 3 2
unfolding is_utf8 chars encode slice fold caseless run enter_step exit_step leave
a_reference_without_a_value-refused = refl

abbrev a_value_before_any_marker : Forest
a_value_before_any_marker = (span n.CharacterReference (at 1 1 0) (at 1 3 2) (span n.CharacterReferenceValue (at 1 2 1) (at 1 3 2) empty empty) empty)

a_value_before_any_marker-accepted : ¬ (Accepted (over (97 ∷ 98 ∷ [])) a_value_before_any_marker)
unfolding is_utf8 chars encode slice fold caseless
a_value_before_any_marker-accepted = conditions-fail (over (97 ∷ 98 ∷ [])) a_value_before_any_marker refl

a_value_before_any_marker-refused : error_kind_of (compiled (over (97 ∷ 98 ∷ [])) (events_of a_value_before_any_marker)) ≡ error_kind (codes "reference-incomplete") 1 2 1
unfolding is_utf8 chars encode slice fold caseless run enter_step exit_step leave
a_value_before_any_marker-refused = refl

abbrev a_line_ending_in_a_reference : Forest
a_line_ending_in_a_reference = (span n.CharacterReference (at 1 1 0) (at 1 3 2) (span n.LineEnding (at 1 1 0) (at 1 2 1) empty empty) empty)

a_line_ending_in_a_reference-accepted : ¬ (Accepted (over (97 ∷ 98 ∷ [])) a_line_ending_in_a_reference)
unfolding is_utf8 chars encode slice fold caseless
a_line_ending_in_a_reference-accepted = conditions-fail (over (97 ∷ 98 ∷ [])) a_line_ending_in_a_reference refl

a_line_ending_in_a_reference-refused : error_kind_of (compiled (over (97 ∷ 98 ∷ [])) (events_of a_line_ending_in_a_reference)) ≡ error_kind (codes "name-misplaced") 1 1 0
unfolding is_utf8 chars encode slice fold caseless run enter_step exit_step leave
a_line_ending_in_a_reference-refused = refl

abbrev code_without_a_fence : Forest
code_without_a_fence = (span n.CodeFenced (at 1 1 0) (at 1 3 2) empty empty)

code_without_a_fence-accepted : ¬ (Accepted (over (97 ∷ 98 ∷ [])) code_without_a_fence)
unfolding is_utf8 chars encode slice fold caseless
code_without_a_fence-accepted = conditions-fail (over (97 ∷ 98 ∷ [])) code_without_a_fence refl

code_without_a_fence-refused : error_kind_of (compiled (over (97 ∷ 98 ∷ [])) (events_of code_without_a_fence)) ≡ error_kind (codes "fence-missing") 1 3 2
unfolding is_utf8 chars encode slice fold caseless run enter_step exit_step leave
code_without_a_fence-refused = refl

abbrev a_heading_without_a_sequence : Forest
a_heading_without_a_sequence = (span n.HeadingAtx (at 1 1 0) (at 1 3 2) (span n.Data (at 1 1 0) (at 1 3 2) empty empty) empty)

a_heading_without_a_sequence-accepted : ¬ (Accepted (over (97 ∷ 98 ∷ [])) a_heading_without_a_sequence)
unfolding is_utf8 chars encode slice fold caseless
a_heading_without_a_sequence-accepted = conditions-fail (over (97 ∷ 98 ∷ [])) a_heading_without_a_sequence refl

a_heading_without_a_sequence-refused : error_kind_of (compiled (over (97 ∷ 98 ∷ [])) (events_of a_heading_without_a_sequence)) ≡ error_kind (codes "heading-depth") 1 3 2
unfolding is_utf8 chars encode slice fold caseless run enter_step exit_step leave
a_heading_without_a_sequence-refused = refl

abbrev data_after_a_setext_text : Forest
data_after_a_setext_text = (span n.HeadingSetext (at 1 1 0) (at 1 3 2) (span n.HeadingSetextText (at 1 1 0) (at 1 2 1) empty (span n.Data (at 1 2 1) (at 1 3 2) empty empty)) empty)

data_after_a_setext_text-accepted : ¬ (Accepted (over (97 ∷ 98 ∷ [])) data_after_a_setext_text)
unfolding is_utf8 chars encode slice fold caseless
data_after_a_setext_text-accepted = conditions-fail (over (97 ∷ 98 ∷ [])) data_after_a_setext_text refl

data_after_a_setext_text-refused : error_kind_of (compiled (over (97 ∷ 98 ∷ [])) (events_of data_after_a_setext_text)) ≡ error_kind (codes "name-misplaced") 1 2 1
unfolding is_utf8 chars encode slice fold caseless run enter_step exit_step leave
data_after_a_setext_text-refused = refl
