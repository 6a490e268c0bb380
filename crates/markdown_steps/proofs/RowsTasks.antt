-- Rows of crates/mdast_replay/data/rows.txt, by computation. scripts/rows writes this file.
use Rattle.std.proofs.Common.{◌≡◌, true, false, [], ◌∷◌, None, Some, refl}
use Rattle.std.specs.Str.{is_utf8, chars}
use lib.Utf8.{encode}
use Rattle.caseless.proofs.Computing.{caseless}
use Rattle.markdown_events.specs.declared.event.Name.TheVariants as n
use Rattle.markdown_events.specs.Forest.{Forest, empty, span}
use Rattle.markdown_events.specs.Slices.{slice}
use Rattle.markdown_events.specs.Texts.{fold}
use Rattle.markdown_nodes.specs.Tree.{node, nothing, only}
use Rattle.markdown_nodes.specs.Tree as t
use Rattle.markdown_grammar.specs.Accepted.{Accepted}
use Rattle.markdown_steps.proofs.Conditions.{conditions-hold}
use Rattle.markdown_grammar.specs.Meaning.{meaning}
use Rattle.markdown_grammar.specs.Ordered.{IsOrdered}
use Rattle.markdown_steps.proofs.Orderly.{is-ordered}
use Rattle.markdown_steps.proofs.RowWords.{at, at_spaces, position, over, over_blank}

abbrev a_checked_item : Forest
a_checked_item = (span n.ListUnordered (at 1 1 0) (at 1 8 7) (span n.ListItem (at 1 1 0) (at 1 8 7) (span n.ListItemPrefix (at 1 1 0) (at 1 3 2) empty (span n.Paragraph (at 1 3 2) (at 1 8 7) (span n.GfmTaskListItemCheck (at 1 3 2) (at 1 6 5) (span n.GfmTaskListItemValueChecked (at 1 4 3) (at 1 5 4) empty empty) (span n.Data (at 1 6 5) (at 1 8 7) empty empty)) empty)) empty) empty)

a_checked_item-accepted : Accepted (over (42 ∷ 32 ∷ 91 ∷ 120 ∷ 93 ∷ 32 ∷ 97 ∷ [])) a_checked_item
unfolding is_utf8 chars encode slice fold caseless
a_checked_item-accepted = conditions-hold (over (42 ∷ 32 ∷ 91 ∷ 120 ∷ 93 ∷ 32 ∷ 97 ∷ [])) a_checked_item refl

a_checked_item-means : only (meaning (over (42 ∷ 32 ∷ 91 ∷ 120 ∷ 93 ∷ 32 ∷ 97 ∷ [])) a_checked_item) ≡ (node t.root (node (t.list false None false) (node (t.list_item false (Some true)) (node t.paragraph (node (t.text (97 ∷ [])) nothing (position 1 7 6 1 8 7) nothing) (position 1 7 6 1 8 7) nothing) (position 1 1 0 1 8 7) nothing) (position 1 1 0 1 8 7) nothing) (position 1 1 0 1 8 7) nothing)
unfolding is_utf8 chars encode slice fold caseless
a_checked_item-means = refl

a_checked_item-ordered : IsOrdered (only (meaning (over (42 ∷ 32 ∷ 91 ∷ 120 ∷ 93 ∷ 32 ∷ 97 ∷ [])) a_checked_item))
unfolding is_utf8 chars encode slice fold caseless
a_checked_item-ordered = is-ordered (only (meaning (over (42 ∷ 32 ∷ 91 ∷ 120 ∷ 93 ∷ 32 ∷ 97 ∷ [])) a_checked_item)) refl

abbrev an_unchecked_item : Forest
an_unchecked_item = (span n.ListUnordered (at 1 1 0) (at 1 8 7) (span n.ListItem (at 1 1 0) (at 1 8 7) (span n.ListItemPrefix (at 1 1 0) (at 1 3 2) empty (span n.Paragraph (at 1 3 2) (at 1 8 7) (span n.GfmTaskListItemCheck (at 1 3 2) (at 1 6 5) (span n.GfmTaskListItemValueUnchecked (at 1 4 3) (at 1 5 4) empty empty) (span n.Data (at 1 6 5) (at 1 8 7) empty empty)) empty)) empty) empty)

an_unchecked_item-accepted : Accepted (over (42 ∷ 32 ∷ 91 ∷ 32 ∷ 93 ∷ 32 ∷ 97 ∷ [])) an_unchecked_item
unfolding is_utf8 chars encode slice fold caseless
an_unchecked_item-accepted = conditions-hold (over (42 ∷ 32 ∷ 91 ∷ 32 ∷ 93 ∷ 32 ∷ 97 ∷ [])) an_unchecked_item refl

an_unchecked_item-means : only (meaning (over (42 ∷ 32 ∷ 91 ∷ 32 ∷ 93 ∷ 32 ∷ 97 ∷ [])) an_unchecked_item) ≡ (node t.root (node (t.list false None false) (node (t.list_item false (Some false)) (node t.paragraph (node (t.text (97 ∷ [])) nothing (position 1 7 6 1 8 7) nothing) (position 1 7 6 1 8 7) nothing) (position 1 1 0 1 8 7) nothing) (position 1 1 0 1 8 7) nothing) (position 1 1 0 1 8 7) nothing)
unfolding is_utf8 chars encode slice fold caseless
an_unchecked_item-means = refl

an_unchecked_item-ordered : IsOrdered (only (meaning (over (42 ∷ 32 ∷ 91 ∷ 32 ∷ 93 ∷ 32 ∷ 97 ∷ [])) an_unchecked_item))
unfolding is_utf8 chars encode slice fold caseless
an_unchecked_item-ordered = is-ordered (only (meaning (over (42 ∷ 32 ∷ 91 ∷ 32 ∷ 93 ∷ 32 ∷ 97 ∷ [])) an_unchecked_item)) refl

abbrev a_tab_after_the_mark : Forest
a_tab_after_the_mark = (span n.ListUnordered (at 1 1 0) (at 1 8 7) (span n.ListItem (at 1 1 0) (at 1 8 7) (span n.ListItemPrefix (at 1 1 0) (at 1 3 2) empty (span n.Paragraph (at 1 3 2) (at 1 8 7) (span n.GfmTaskListItemCheck (at 1 3 2) (at 1 6 5) (span n.GfmTaskListItemValueChecked (at 1 4 3) (at 1 5 4) empty empty) (span n.Data (at 1 6 5) (at 1 8 7) empty empty)) empty)) empty) empty)

a_tab_after_the_mark-accepted : Accepted (over (42 ∷ 32 ∷ 91 ∷ 120 ∷ 93 ∷ 9 ∷ 97 ∷ [])) a_tab_after_the_mark
unfolding is_utf8 chars encode slice fold caseless
a_tab_after_the_mark-accepted = conditions-hold (over (42 ∷ 32 ∷ 91 ∷ 120 ∷ 93 ∷ 9 ∷ 97 ∷ [])) a_tab_after_the_mark refl

a_tab_after_the_mark-means : only (meaning (over (42 ∷ 32 ∷ 91 ∷ 120 ∷ 93 ∷ 9 ∷ 97 ∷ [])) a_tab_after_the_mark) ≡ (node t.root (node (t.list false None false) (node (t.list_item false (Some true)) (node t.paragraph (node (t.text (97 ∷ [])) nothing (position 1 7 6 1 8 7) nothing) (position 1 7 6 1 8 7) nothing) (position 1 1 0 1 8 7) nothing) (position 1 1 0 1 8 7) nothing) (position 1 1 0 1 8 7) nothing)
unfolding is_utf8 chars encode slice fold caseless
a_tab_after_the_mark-means = refl

a_tab_after_the_mark-ordered : IsOrdered (only (meaning (over (42 ∷ 32 ∷ 91 ∷ 120 ∷ 93 ∷ 9 ∷ 97 ∷ [])) a_tab_after_the_mark))
unfolding is_utf8 chars encode slice fold caseless
a_tab_after_the_mark-ordered = is-ordered (only (meaning (over (42 ∷ 32 ∷ 91 ∷ 120 ∷ 93 ∷ 9 ∷ 97 ∷ [])) a_tab_after_the_mark)) refl

abbrev a_line_ending_after_the_mark : Forest
a_line_ending_after_the_mark = (span n.ListUnordered (at 1 1 0) (at 2 2 8) (span n.ListItem (at 1 1 0) (at 2 2 8) (span n.ListItemPrefix (at 1 1 0) (at 1 3 2) empty (span n.Paragraph (at 1 3 2) (at 2 2 8) (span n.GfmTaskListItemCheck (at 1 3 2) (at 1 6 5) (span n.GfmTaskListItemValueChecked (at 1 4 3) (at 1 5 4) empty empty) (span n.LineEnding (at 1 6 5) (at 2 1 7) empty (span n.Data (at 2 1 7) (at 2 2 8) empty empty))) empty)) empty) empty)

a_line_ending_after_the_mark-accepted : Accepted (over (42 ∷ 32 ∷ 91 ∷ 120 ∷ 93 ∷ 13 ∷ 10 ∷ 97 ∷ [])) a_line_ending_after_the_mark
unfolding is_utf8 chars encode slice fold caseless
a_line_ending_after_the_mark-accepted = conditions-hold (over (42 ∷ 32 ∷ 91 ∷ 120 ∷ 93 ∷ 13 ∷ 10 ∷ 97 ∷ [])) a_line_ending_after_the_mark refl

a_line_ending_after_the_mark-means : only (meaning (over (42 ∷ 32 ∷ 91 ∷ 120 ∷ 93 ∷ 13 ∷ 10 ∷ 97 ∷ [])) a_line_ending_after_the_mark) ≡ (node t.root (node (t.list false None false) (node (t.list_item false (Some true)) (node t.paragraph (node (t.text (97 ∷ [])) nothing (position 2 1 7 2 2 8) nothing) (position 2 1 7 2 2 8) nothing) (position 1 1 0 2 2 8) nothing) (position 1 1 0 2 2 8) nothing) (position 1 1 0 2 2 8) nothing)
unfolding is_utf8 chars encode slice fold caseless
a_line_ending_after_the_mark-means = refl

a_line_ending_after_the_mark-ordered : IsOrdered (only (meaning (over (42 ∷ 32 ∷ 91 ∷ 120 ∷ 93 ∷ 13 ∷ 10 ∷ 97 ∷ [])) a_line_ending_after_the_mark))
unfolding is_utf8 chars encode slice fold caseless
a_line_ending_after_the_mark-ordered = is-ordered (only (meaning (over (42 ∷ 32 ∷ 91 ∷ 120 ∷ 93 ∷ 13 ∷ 10 ∷ 97 ∷ [])) a_line_ending_after_the_mark)) refl

abbrev a_text_that_becomes_empty : Forest
a_text_that_becomes_empty = (span n.ListUnordered (at 1 1 0) (at 1 10 9) (span n.ListItem (at 1 1 0) (at 1 10 9) (span n.ListItemPrefix (at 1 1 0) (at 1 3 2) empty (span n.Paragraph (at 1 3 2) (at 1 10 9) (span n.GfmTaskListItemCheck (at 1 3 2) (at 1 6 5) (span n.GfmTaskListItemValueChecked (at 1 4 3) (at 1 5 4) empty empty) (span n.Data (at 1 6 5) (at 1 7 6) empty (span n.Emphasis (at 1 7 6) (at 1 10 9) (span n.EmphasisSequence (at 1 7 6) (at 1 8 7) empty (span n.EmphasisText (at 1 8 7) (at 1 9 8) (span n.Data (at 1 8 7) (at 1 9 8) empty empty) (span n.EmphasisSequence (at 1 9 8) (at 1 10 9) empty empty))) empty))) empty)) empty) empty)

a_text_that_becomes_empty-accepted : Accepted (over (42 ∷ 32 ∷ 91 ∷ 120 ∷ 93 ∷ 32 ∷ 42 ∷ 98 ∷ 42 ∷ [])) a_text_that_becomes_empty
unfolding is_utf8 chars encode slice fold caseless
a_text_that_becomes_empty-accepted = conditions-hold (over (42 ∷ 32 ∷ 91 ∷ 120 ∷ 93 ∷ 32 ∷ 42 ∷ 98 ∷ 42 ∷ [])) a_text_that_becomes_empty refl

a_text_that_becomes_empty-means : only (meaning (over (42 ∷ 32 ∷ 91 ∷ 120 ∷ 93 ∷ 32 ∷ 42 ∷ 98 ∷ 42 ∷ [])) a_text_that_becomes_empty) ≡ (node t.root (node (t.list false None false) (node (t.list_item false (Some true)) (node t.paragraph (node t.emphasis (node (t.text (98 ∷ [])) nothing (position 1 8 7 1 9 8) nothing) (position 1 7 6 1 10 9) nothing) (position 1 7 6 1 10 9) nothing) (position 1 1 0 1 10 9) nothing) (position 1 1 0 1 10 9) nothing) (position 1 1 0 1 10 9) nothing)
unfolding is_utf8 chars encode slice fold caseless
a_text_that_becomes_empty-means = refl

a_text_that_becomes_empty-ordered : IsOrdered (only (meaning (over (42 ∷ 32 ∷ 91 ∷ 120 ∷ 93 ∷ 32 ∷ 42 ∷ 98 ∷ 42 ∷ [])) a_text_that_becomes_empty))
unfolding is_utf8 chars encode slice fold caseless
a_text_that_becomes_empty-ordered = is-ordered (only (meaning (over (42 ∷ 32 ∷ 91 ∷ 120 ∷ 93 ∷ 32 ∷ 42 ∷ 98 ∷ 42 ∷ [])) a_text_that_becomes_empty)) refl

abbrev a_mark_and_a_space_alone : Forest
a_mark_and_a_space_alone = (span n.ListUnordered (at 1 1 0) (at 1 7 6) (span n.ListItem (at 1 1 0) (at 1 7 6) (span n.ListItemPrefix (at 1 1 0) (at 1 3 2) empty (span n.Paragraph (at 1 3 2) (at 1 7 6) (span n.GfmTaskListItemCheck (at 1 3 2) (at 1 6 5) (span n.GfmTaskListItemValueChecked (at 1 4 3) (at 1 5 4) empty empty) (span n.Data (at 1 6 5) (at 1 7 6) empty empty)) empty)) empty) empty)

a_mark_and_a_space_alone-accepted : Accepted (over (42 ∷ 32 ∷ 91 ∷ 120 ∷ 93 ∷ 32 ∷ [])) a_mark_and_a_space_alone
unfolding is_utf8 chars encode slice fold caseless
a_mark_and_a_space_alone-accepted = conditions-hold (over (42 ∷ 32 ∷ 91 ∷ 120 ∷ 93 ∷ 32 ∷ [])) a_mark_and_a_space_alone refl

a_mark_and_a_space_alone-means : only (meaning (over (42 ∷ 32 ∷ 91 ∷ 120 ∷ 93 ∷ 32 ∷ [])) a_mark_and_a_space_alone) ≡ (node t.root (node (t.list false None false) (node (t.list_item false (Some true)) (node t.paragraph nothing (position 1 7 6 1 7 6) nothing) (position 1 1 0 1 7 6) nothing) (position 1 1 0 1 7 6) nothing) (position 1 1 0 1 7 6) nothing)
unfolding is_utf8 chars encode slice fold caseless
a_mark_and_a_space_alone-means = refl

a_mark_and_a_space_alone-ordered : IsOrdered (only (meaning (over (42 ∷ 32 ∷ 91 ∷ 120 ∷ 93 ∷ 32 ∷ [])) a_mark_and_a_space_alone))
unfolding is_utf8 chars encode slice fold caseless
a_mark_and_a_space_alone-ordered = is-ordered (only (meaning (over (42 ∷ 32 ∷ 91 ∷ 120 ∷ 93 ∷ 32 ∷ [])) a_mark_and_a_space_alone)) refl

abbrev a_mark_in_a_later_paragraph : Forest
a_mark_in_a_later_paragraph = (span n.ListUnordered (at 1 1 0) (at 2 8 16) (span n.ListItem (at 1 1 0) (at 2 8 16) (span n.ListItemPrefix (at 1 1 0) (at 1 3 2) empty (span n.Definition (at 1 3 2) (at 1 9 8) (span n.DefinitionLabelString (at 1 4 3) (at 1 5 4) (span n.Data (at 1 4 3) (at 1 5 4) empty empty) (span n.DefinitionDestinationString (at 1 8 7) (at 1 9 8) (span n.Data (at 1 8 7) (at 1 9 8) empty empty) empty)) (span n.LineEnding (at 1 9 8) (at 2 1 9) empty (span n.Paragraph (at 2 3 11) (at 2 8 16) (span n.GfmTaskListItemCheck (at 2 3 11) (at 2 6 14) (span n.GfmTaskListItemValueChecked (at 2 4 12) (at 2 5 13) empty empty) (span n.Data (at 2 6 14) (at 2 8 16) empty empty)) empty)))) empty) empty)

a_mark_in_a_later_paragraph-accepted : Accepted (over (42 ∷ 32 ∷ 91 ∷ 97 ∷ 93 ∷ 58 ∷ 32 ∷ 98 ∷ 10 ∷ 32 ∷ 32 ∷ 91 ∷ 120 ∷ 93 ∷ 32 ∷ 99 ∷ [])) a_mark_in_a_later_paragraph
unfolding is_utf8 chars encode slice fold caseless
a_mark_in_a_later_paragraph-accepted = conditions-hold (over (42 ∷ 32 ∷ 91 ∷ 97 ∷ 93 ∷ 58 ∷ 32 ∷ 98 ∷ 10 ∷ 32 ∷ 32 ∷ 91 ∷ 120 ∷ 93 ∷ 32 ∷ 99 ∷ [])) a_mark_in_a_later_paragraph refl

a_mark_in_a_later_paragraph-means : only (meaning (over (42 ∷ 32 ∷ 91 ∷ 97 ∷ 93 ∷ 58 ∷ 32 ∷ 98 ∷ 10 ∷ 32 ∷ 32 ∷ 91 ∷ 120 ∷ 93 ∷ 32 ∷ 99 ∷ [])) a_mark_in_a_later_paragraph) ≡ (node t.root (node (t.list false None false) (node (t.list_item false (Some true)) (node (t.definition (98 ∷ []) None (97 ∷ []) (Some (97 ∷ []))) nothing (position 1 3 2 1 9 8) (node t.paragraph (node (t.text (32 ∷ 99 ∷ [])) nothing (position 2 6 14 2 8 16) nothing) (position 2 3 11 2 8 16) nothing)) (position 1 1 0 2 8 16) nothing) (position 1 1 0 2 8 16) nothing) (position 1 1 0 2 8 16) nothing)
unfolding is_utf8 chars encode slice fold caseless
a_mark_in_a_later_paragraph-means = refl

a_mark_in_a_later_paragraph-ordered : IsOrdered (only (meaning (over (42 ∷ 32 ∷ 91 ∷ 97 ∷ 93 ∷ 58 ∷ 32 ∷ 98 ∷ 10 ∷ 32 ∷ 32 ∷ 91 ∷ 120 ∷ 93 ∷ 32 ∷ 99 ∷ [])) a_mark_in_a_later_paragraph))
unfolding is_utf8 chars encode slice fold caseless
a_mark_in_a_later_paragraph-ordered = is-ordered (only (meaning (over (42 ∷ 32 ∷ 91 ∷ 97 ∷ 93 ∷ 58 ∷ 32 ∷ 98 ∷ 10 ∷ 32 ∷ 32 ∷ 91 ∷ 120 ∷ 93 ∷ 32 ∷ 99 ∷ [])) a_mark_in_a_later_paragraph)) refl

abbrev a_mark_after_a_definition_without_parts : Forest
a_mark_after_a_definition_without_parts = (span n.ListUnordered (at 1 1 0) (at 2 8 16) (span n.ListItem (at 1 1 0) (at 2 8 16) (span n.ListItemPrefix (at 1 1 0) (at 1 3 2) empty (span n.Definition (at 1 3 2) (at 1 9 8) empty (span n.Paragraph (at 2 3 11) (at 2 8 16) (span n.GfmTaskListItemValueChecked (at 2 4 12) (at 2 5 13) empty (span n.Data (at 2 6 14) (at 2 8 16) empty empty)) empty))) empty) empty)

a_mark_after_a_definition_without_parts-accepted : Accepted (over (42 ∷ 32 ∷ 91 ∷ 97 ∷ 93 ∷ 58 ∷ 32 ∷ 98 ∷ 10 ∷ 32 ∷ 32 ∷ 91 ∷ 120 ∷ 93 ∷ 32 ∷ 99 ∷ [])) a_mark_after_a_definition_without_parts
unfolding is_utf8 chars encode slice fold caseless
a_mark_after_a_definition_without_parts-accepted = conditions-hold (over (42 ∷ 32 ∷ 91 ∷ 97 ∷ 93 ∷ 58 ∷ 32 ∷ 98 ∷ 10 ∷ 32 ∷ 32 ∷ 91 ∷ 120 ∷ 93 ∷ 32 ∷ 99 ∷ [])) a_mark_after_a_definition_without_parts refl

a_mark_after_a_definition_without_parts-means : only (meaning (over (42 ∷ 32 ∷ 91 ∷ 97 ∷ 93 ∷ 58 ∷ 32 ∷ 98 ∷ 10 ∷ 32 ∷ 32 ∷ 91 ∷ 120 ∷ 93 ∷ 32 ∷ 99 ∷ [])) a_mark_after_a_definition_without_parts) ≡ (node t.root (node (t.list false None false) (node (t.list_item false (Some true)) (node (t.definition ([]) None ([]) None) nothing (position 1 3 2 1 9 8) (node t.paragraph (node (t.text (32 ∷ 99 ∷ [])) nothing (position 2 6 14 2 8 16) nothing) (position 2 3 11 2 8 16) nothing)) (position 1 1 0 2 8 16) nothing) (position 1 1 0 2 8 16) nothing) (position 1 1 0 2 8 16) nothing)
unfolding is_utf8 chars encode slice fold caseless
a_mark_after_a_definition_without_parts-means = refl

a_mark_after_a_definition_without_parts-ordered : IsOrdered (only (meaning (over (42 ∷ 32 ∷ 91 ∷ 97 ∷ 93 ∷ 58 ∷ 32 ∷ 98 ∷ 10 ∷ 32 ∷ 32 ∷ 91 ∷ 120 ∷ 93 ∷ 32 ∷ 99 ∷ [])) a_mark_after_a_definition_without_parts))
unfolding is_utf8 chars encode slice fold caseless
a_mark_after_a_definition_without_parts-ordered = is-ordered (only (meaning (over (42 ∷ 32 ∷ 91 ∷ 97 ∷ 93 ∷ 58 ∷ 32 ∷ 98 ∷ 10 ∷ 32 ∷ 32 ∷ 91 ∷ 120 ∷ 93 ∷ 32 ∷ 99 ∷ [])) a_mark_after_a_definition_without_parts)) refl

abbrev a_blank_from_a_reference : Forest
a_blank_from_a_reference = (span n.ListUnordered (at 1 1 0) (at 1 6 5) (span n.ListItem (at 1 1 0) (at 1 6 5) (span n.ListItemPrefix (at 1 1 0) (at 1 3 2) empty (span n.Paragraph (at 1 3 2) (at 1 6 5) (span n.GfmTaskListItemValueChecked (at 1 4 3) (at 1 5 4) empty (span n.CharacterReference (at 1 6 5) (at 1 6 5) (span n.CharacterReferenceMarker (at 1 6 5) (at 1 6 5) empty (span n.CharacterReferenceValue (at 1 6 5) (at 1 6 5) empty empty)) empty)) empty)) empty) empty)

a_blank_from_a_reference-accepted : Accepted (over_blank (42 ∷ 32 ∷ 91 ∷ 120 ∷ 93 ∷ [])) a_blank_from_a_reference
unfolding is_utf8 chars encode slice fold caseless
a_blank_from_a_reference-accepted = conditions-hold (over_blank (42 ∷ 32 ∷ 91 ∷ 120 ∷ 93 ∷ [])) a_blank_from_a_reference refl

a_blank_from_a_reference-means : only (meaning (over_blank (42 ∷ 32 ∷ 91 ∷ 120 ∷ 93 ∷ [])) a_blank_from_a_reference) ≡ (node t.root (node (t.list false None false) (node (t.list_item false (Some true)) (node t.paragraph nothing (position 1 7 6 1 6 5) nothing) (position 1 1 0 1 6 5) nothing) (position 1 1 0 1 6 5) nothing) (position 1 1 0 1 6 5) nothing)
unfolding is_utf8 chars encode slice fold caseless
a_blank_from_a_reference-means = refl

a_blank_from_a_reference-ordered : IsOrdered (only (meaning (over_blank (42 ∷ 32 ∷ 91 ∷ 120 ∷ 93 ∷ [])) a_blank_from_a_reference))
unfolding is_utf8 chars encode slice fold caseless
a_blank_from_a_reference-ordered = is-ordered (only (meaning (over_blank (42 ∷ 32 ∷ 91 ∷ 120 ∷ 93 ∷ [])) a_blank_from_a_reference)) refl

abbrev the_greatest_column : Forest
the_greatest_column = (span n.ListUnordered (at_spaces 1 18446744073709551615 0 0) (at_spaces 1 18446744073709551615 2 0) (span n.ListItem (at_spaces 1 18446744073709551615 0 0) (at_spaces 1 18446744073709551615 2 0) (span n.Paragraph (at_spaces 1 18446744073709551615 0 0) (at_spaces 1 18446744073709551615 2 0) (span n.GfmTaskListItemValueChecked (at_spaces 1 18446744073709551615 0 0) (at_spaces 1 18446744073709551615 0 0) empty (span n.Data (at_spaces 1 18446744073709551615 0 0) (at_spaces 1 18446744073709551615 2 0) empty empty)) empty) empty) empty)

the_greatest_column-accepted : Accepted (over (32 ∷ 97 ∷ [])) the_greatest_column
unfolding is_utf8 chars encode slice fold caseless
the_greatest_column-accepted = conditions-hold (over (32 ∷ 97 ∷ [])) the_greatest_column refl

the_greatest_column-means : only (meaning (over (32 ∷ 97 ∷ [])) the_greatest_column) ≡ (node t.root (node (t.list false None false) (node (t.list_item false (Some true)) (node t.paragraph (node (t.text (97 ∷ [])) nothing (position 1 18446744073709551615 1 1 18446744073709551615 2) nothing) (position 1 18446744073709551615 1 1 18446744073709551615 2) nothing) (position 1 18446744073709551615 0 1 18446744073709551615 2) nothing) (position 1 18446744073709551615 0 1 18446744073709551615 2) nothing) (position 1 18446744073709551615 0 1 18446744073709551615 2) nothing)
unfolding is_utf8 chars encode slice fold caseless
the_greatest_column-means = refl

abbrev the_greatest_line : Forest
the_greatest_line = (span n.ListUnordered (at_spaces 18446744073709551615 18446744073709551615 0 0) (at_spaces 18446744073709551615 18446744073709551615 2 0) (span n.ListItem (at_spaces 18446744073709551615 18446744073709551615 0 0) (at_spaces 18446744073709551615 18446744073709551615 2 0) (span n.Paragraph (at_spaces 18446744073709551615 18446744073709551615 0 0) (at_spaces 18446744073709551615 18446744073709551615 2 0) (span n.GfmTaskListItemValueChecked (at_spaces 18446744073709551615 18446744073709551615 0 0) (at_spaces 18446744073709551615 18446744073709551615 0 0) empty (span n.Data (at_spaces 18446744073709551615 18446744073709551615 0 0) (at_spaces 18446744073709551615 18446744073709551615 2 0) empty empty)) empty) empty) empty)

the_greatest_line-accepted : Accepted (over (10 ∷ 97 ∷ [])) the_greatest_line
unfolding is_utf8 chars encode slice fold caseless
the_greatest_line-accepted = conditions-hold (over (10 ∷ 97 ∷ [])) the_greatest_line refl

the_greatest_line-means : only (meaning (over (10 ∷ 97 ∷ [])) the_greatest_line) ≡ (node t.root (node (t.list false None false) (node (t.list_item false (Some true)) (node t.paragraph (node (t.text (97 ∷ [])) nothing (position 18446744073709551615 1 1 18446744073709551615 18446744073709551615 2) nothing) (position 18446744073709551615 1 1 18446744073709551615 18446744073709551615 2) nothing) (position 18446744073709551615 18446744073709551615 0 18446744073709551615 18446744073709551615 2) nothing) (position 18446744073709551615 18446744073709551615 0 18446744073709551615 18446744073709551615 2) nothing) (position 18446744073709551615 18446744073709551615 0 18446744073709551615 18446744073709551615 2) nothing)
unfolding is_utf8 chars encode slice fold caseless
the_greatest_line-means = refl

abbrev the_greatest_offset : Forest
the_greatest_offset = (span n.ListUnordered (at_spaces 1 1 0 0) (at_spaces 1 1 0 0) (span n.ListItem (at_spaces 1 1 0 0) (at_spaces 1 1 0 0) (span n.Paragraph (at_spaces 1 1 0 0) (at_spaces 1 1 0 0) (span n.GfmTaskListItemValueChecked (at_spaces 1 1 0 0) (at_spaces 1 1 0 0) empty (span n.CharacterReference (at_spaces 1 1 18446744073709551615 0) (at_spaces 1 1 0 0) (span n.CharacterReferenceMarker (at_spaces 1 1 0 0) (at_spaces 1 1 0 0) empty (span n.CharacterReferenceValue (at_spaces 1 1 0 0) (at_spaces 1 1 0 0) empty empty)) empty)) empty) empty) empty)

the_greatest_offset-accepted : Accepted (over_blank ([])) the_greatest_offset
unfolding is_utf8 chars encode slice fold caseless
the_greatest_offset-accepted = conditions-hold (over_blank ([])) the_greatest_offset refl

the_greatest_offset-means : only (meaning (over_blank ([])) the_greatest_offset) ≡ (node t.root (node (t.list false None false) (node (t.list_item false (Some true)) (node t.paragraph nothing (position 1 2 18446744073709551615 1 1 0) nothing) (position 1 1 0 1 1 0) nothing) (position 1 1 0 1 1 0) nothing) (position 1 1 0 1 1 0) nothing)
unfolding is_utf8 chars encode slice fold caseless
the_greatest_offset-means = refl
