-- Rows of crates/mdast_replay/data/rows.txt, by computation. scripts/rows writes this file.
use Rattle.std.proofs.Common.{◌≡◌, [], ◌∷◌, refl}
use Rattle.std.specs.Prelude.{codes}
use Rattle.std.specs.Str.{is_utf8, chars}
use lib.Utf8.{encode}
use Rattle.caseless.proofs.Computing.{caseless}
use Rattle.markdown_events.specs.declared.event.Name.TheVariants as n
use Rattle.markdown_events.specs.Forest.{Forest, empty, span, events_of}
use Rattle.markdown_events.specs.Slices.{slice}
use Rattle.markdown_events.specs.Texts.{fold}
use Rattle.markdown_nodes.specs.Tree.{node, nothing, only}
use Rattle.markdown_nodes.specs.Tree as t
use Rattle.markdown_grammar.specs.Accepted.{Accepted}
use Rattle.markdown_steps.proofs.Conditions.{conditions-hold, conditions-fail}
use Rattle.markdown_steps.specs.Compiler.{compiled, enter_step, exit_step, leave, run}
use Rattle.markdown_grammar.specs.Meaning.{meaning}
use Rattle.markdown_grammar.specs.Ordered.{IsOrdered}
use Rattle.markdown_steps.proofs.Orderly.{is-ordered, is-unordered}
use Rattle.markdown_steps.proofs.RowWords.{at, at_spaces, position, over, error_kind, error_kind_of}

abbrev no_events : Forest
no_events = empty

no_events-accepted : Accepted (over ([])) no_events
unfolding is_utf8 chars encode slice fold caseless
no_events-accepted = conditions-hold (over ([])) no_events refl

no_events-means : only (meaning (over ([])) no_events) ≡ (node t.root nothing (position 1 1 0 1 1 0) nothing)
unfolding is_utf8 chars encode slice fold caseless
no_events-means = refl

no_events-ordered : IsOrdered (only (meaning (over ([])) no_events))
unfolding is_utf8 chars encode slice fold caseless
no_events-ordered = is-ordered (only (meaning (over ([])) no_events)) refl

abbrev a_text_in_a_paragraph : Forest
a_text_in_a_paragraph = (span n.Paragraph (at 1 1 0) (at 1 3 2) (span n.Data (at 1 1 0) (at 1 3 2) empty empty) empty)

a_text_in_a_paragraph-accepted : Accepted (over (72 ∷ 105 ∷ [])) a_text_in_a_paragraph
unfolding is_utf8 chars encode slice fold caseless
a_text_in_a_paragraph-accepted = conditions-hold (over (72 ∷ 105 ∷ [])) a_text_in_a_paragraph refl

a_text_in_a_paragraph-means : only (meaning (over (72 ∷ 105 ∷ [])) a_text_in_a_paragraph) ≡ (node t.root (node t.paragraph (node (t.text (72 ∷ 105 ∷ [])) nothing (position 1 1 0 1 3 2) nothing) (position 1 1 0 1 3 2) nothing) (position 1 1 0 1 3 2) nothing)
unfolding is_utf8 chars encode slice fold caseless
a_text_in_a_paragraph-means = refl

a_text_in_a_paragraph-ordered : IsOrdered (only (meaning (over (72 ∷ 105 ∷ [])) a_text_in_a_paragraph))
unfolding is_utf8 chars encode slice fold caseless
a_text_in_a_paragraph-ordered = is-ordered (only (meaning (over (72 ∷ 105 ∷ [])) a_text_in_a_paragraph)) refl

abbrev transparent_spans_do_not_split_a_text : Forest
transparent_spans_do_not_split_a_text = (span n.Paragraph (at 1 1 0) (at 1 3 2) (span n.EmphasisText (at 1 1 0) (at 1 3 2) (span n.Data (at 1 1 0) (at 1 2 1) empty (span n.EmphasisSequence (at 1 2 1) (at 1 2 1) empty (span n.Data (at 1 2 1) (at 1 3 2) empty empty))) empty) empty)

transparent_spans_do_not_split_a_text-accepted : Accepted (over (72 ∷ 105 ∷ [])) transparent_spans_do_not_split_a_text
unfolding is_utf8 chars encode slice fold caseless
transparent_spans_do_not_split_a_text-accepted = conditions-hold (over (72 ∷ 105 ∷ [])) transparent_spans_do_not_split_a_text refl

transparent_spans_do_not_split_a_text-means : only (meaning (over (72 ∷ 105 ∷ [])) transparent_spans_do_not_split_a_text) ≡ (node t.root (node t.paragraph (node (t.text (72 ∷ 105 ∷ [])) nothing (position 1 1 0 1 3 2) nothing) (position 1 1 0 1 3 2) nothing) (position 1 1 0 1 3 2) nothing)
unfolding is_utf8 chars encode slice fold caseless
transparent_spans_do_not_split_a_text-means = refl

abbrev data_in_the_root : Forest
data_in_the_root = (span n.Data (at 1 1 0) (at 1 3 2) empty empty)

data_in_the_root-accepted : Accepted (over (72 ∷ 105 ∷ [])) data_in_the_root
unfolding is_utf8 chars encode slice fold caseless
data_in_the_root-accepted = conditions-hold (over (72 ∷ 105 ∷ [])) data_in_the_root refl

data_in_the_root-means : only (meaning (over (72 ∷ 105 ∷ [])) data_in_the_root) ≡ (node t.root (node (t.text (72 ∷ 105 ∷ [])) nothing (position 1 1 0 1 3 2) nothing) (position 1 1 0 1 3 2) nothing)
unfolding is_utf8 chars encode slice fold caseless
data_in_the_root-means = refl

abbrev an_empty_text : Forest
an_empty_text = (span n.Data (at 1 2 1) (at 1 2 1) empty empty)

an_empty_text-accepted : Accepted (over (72 ∷ 105 ∷ [])) an_empty_text
unfolding is_utf8 chars encode slice fold caseless
an_empty_text-accepted = conditions-hold (over (72 ∷ 105 ∷ [])) an_empty_text refl

an_empty_text-means : only (meaning (over (72 ∷ 105 ∷ [])) an_empty_text) ≡ (node t.root (node (t.text ([])) nothing (position 1 2 1 1 2 1) nothing) (position 1 2 1 1 2 1) nothing)
unfolding is_utf8 chars encode slice fold caseless
an_empty_text-means = refl

abbrev references_and_escapes_join_one_text : Forest
references_and_escapes_join_one_text = (span n.Paragraph (at 1 1 0) (at 1 10 9) (span n.Data (at 1 1 0) (at 1 2 1) empty (span n.CharacterReference (at 1 2 1) (at 1 7 6) (span n.CharacterReferenceMarker (at 1 2 1) (at 1 3 2) empty (span n.CharacterReferenceValue (at 1 3 2) (at 1 6 5) empty (span n.CharacterReferenceMarkerSemi (at 1 6 5) (at 1 7 6) empty empty))) (span n.Data (at 1 7 6) (at 1 8 7) empty (span n.CharacterEscape (at 1 8 7) (at 1 10 9) (span n.CharacterEscapeMarker (at 1 8 7) (at 1 9 8) empty (span n.CharacterEscapeValue (at 1 9 8) (at 1 10 9) empty empty)) empty)))) empty)

references_and_escapes_join_one_text-accepted : Accepted (over (97 ∷ 38 ∷ 97 ∷ 109 ∷ 112 ∷ 59 ∷ 98 ∷ 92 ∷ 42 ∷ [])) references_and_escapes_join_one_text
unfolding is_utf8 chars encode slice fold caseless
references_and_escapes_join_one_text-accepted = conditions-hold (over (97 ∷ 38 ∷ 97 ∷ 109 ∷ 112 ∷ 59 ∷ 98 ∷ 92 ∷ 42 ∷ [])) references_and_escapes_join_one_text refl

references_and_escapes_join_one_text-means : only (meaning (over (97 ∷ 38 ∷ 97 ∷ 109 ∷ 112 ∷ 59 ∷ 98 ∷ 92 ∷ 42 ∷ [])) references_and_escapes_join_one_text) ≡ (node t.root (node t.paragraph (node (t.text (97 ∷ 38 ∷ 98 ∷ 42 ∷ [])) nothing (position 1 1 0 1 10 9) nothing) (position 1 1 0 1 10 9) nothing) (position 1 1 0 1 10 9) nothing)
unfolding is_utf8 chars encode slice fold caseless
references_and_escapes_join_one_text-means = refl

references_and_escapes_join_one_text-ordered : IsOrdered (only (meaning (over (97 ∷ 38 ∷ 97 ∷ 109 ∷ 112 ∷ 59 ∷ 98 ∷ 92 ∷ 42 ∷ [])) references_and_escapes_join_one_text))
unfolding is_utf8 chars encode slice fold caseless
references_and_escapes_join_one_text-ordered = is-ordered (only (meaning (over (97 ∷ 38 ∷ 97 ∷ 109 ∷ 112 ∷ 59 ∷ 98 ∷ 92 ∷ 42 ∷ [])) references_and_escapes_join_one_text)) refl

abbrev a_hexadecimal_reference : Forest
a_hexadecimal_reference = (span n.Paragraph (at 1 1 0) (at 1 7 6) (span n.CharacterReference (at 1 1 0) (at 1 7 6) (span n.CharacterReferenceMarker (at 1 1 0) (at 1 2 1) empty (span n.CharacterReferenceMarkerNumeric (at 1 2 1) (at 1 3 2) empty (span n.CharacterReferenceMarkerHexadecimal (at 1 3 2) (at 1 4 3) empty (span n.CharacterReferenceValue (at 1 4 3) (at 1 6 5) empty (span n.CharacterReferenceMarkerSemi (at 1 6 5) (at 1 7 6) empty empty))))) empty) empty)

a_hexadecimal_reference-accepted : Accepted (over (38 ∷ 35 ∷ 120 ∷ 52 ∷ 49 ∷ 59 ∷ [])) a_hexadecimal_reference
unfolding is_utf8 chars encode slice fold caseless
a_hexadecimal_reference-accepted = conditions-hold (over (38 ∷ 35 ∷ 120 ∷ 52 ∷ 49 ∷ 59 ∷ [])) a_hexadecimal_reference refl

a_hexadecimal_reference-means : only (meaning (over (38 ∷ 35 ∷ 120 ∷ 52 ∷ 49 ∷ 59 ∷ [])) a_hexadecimal_reference) ≡ (node t.root (node t.paragraph (node (t.text (65 ∷ [])) nothing (position 1 1 0 1 7 6) nothing) (position 1 1 0 1 7 6) nothing) (position 1 1 0 1 7 6) nothing)
unfolding is_utf8 chars encode slice fold caseless
a_hexadecimal_reference-means = refl

abbrev a_line_ending_is_text_in_a_paragraph : Forest
a_line_ending_is_text_in_a_paragraph = (span n.Paragraph (at 1 1 0) (at 2 2 3) (span n.Data (at 1 1 0) (at 1 2 1) empty (span n.LineEnding (at 1 2 1) (at 2 1 2) empty (span n.Data (at 2 1 2) (at 2 2 3) empty empty))) empty)

a_line_ending_is_text_in_a_paragraph-accepted : Accepted (over (97 ∷ 10 ∷ 98 ∷ [])) a_line_ending_is_text_in_a_paragraph
unfolding is_utf8 chars encode slice fold caseless
a_line_ending_is_text_in_a_paragraph-accepted = conditions-hold (over (97 ∷ 10 ∷ 98 ∷ [])) a_line_ending_is_text_in_a_paragraph refl

a_line_ending_is_text_in_a_paragraph-means : only (meaning (over (97 ∷ 10 ∷ 98 ∷ [])) a_line_ending_is_text_in_a_paragraph) ≡ (node t.root (node t.paragraph (node (t.text (97 ∷ 10 ∷ 98 ∷ [])) nothing (position 1 1 0 2 2 3) nothing) (position 1 1 0 2 2 3) nothing) (position 1 1 0 2 2 3) nothing)
unfolding is_utf8 chars encode slice fold caseless
a_line_ending_is_text_in_a_paragraph-means = refl

abbrev a_line_ending_is_no_text_in_a_block_quote : Forest
a_line_ending_is_no_text_in_a_block_quote = (span n.BlockQuote (at 1 1 0) (at 2 2 3) (span n.Data (at 1 1 0) (at 1 2 1) empty (span n.LineEnding (at 1 2 1) (at 2 1 2) empty (span n.Data (at 2 1 2) (at 2 2 3) empty empty))) empty)

a_line_ending_is_no_text_in_a_block_quote-accepted : Accepted (over (97 ∷ 10 ∷ 98 ∷ [])) a_line_ending_is_no_text_in_a_block_quote
unfolding is_utf8 chars encode slice fold caseless
a_line_ending_is_no_text_in_a_block_quote-accepted = conditions-hold (over (97 ∷ 10 ∷ 98 ∷ [])) a_line_ending_is_no_text_in_a_block_quote refl

a_line_ending_is_no_text_in_a_block_quote-means : only (meaning (over (97 ∷ 10 ∷ 98 ∷ [])) a_line_ending_is_no_text_in_a_block_quote) ≡ (node t.root (node t.blockquote (node (t.text (97 ∷ 98 ∷ [])) nothing (position 1 1 0 2 2 3) nothing) (position 1 1 0 2 2 3) nothing) (position 1 1 0 2 2 3) nothing)
unfolding is_utf8 chars encode slice fold caseless
a_line_ending_is_no_text_in_a_block_quote-means = refl

abbrev a_virtual_space_moves_the_start : Forest
a_virtual_space_moves_the_start = (span n.Data (at_spaces 1 1 0 2) (at 1 3 2) empty empty)

a_virtual_space_moves_the_start-accepted : Accepted (over (9 ∷ 97 ∷ [])) a_virtual_space_moves_the_start
unfolding is_utf8 chars encode slice fold caseless
a_virtual_space_moves_the_start-accepted = conditions-hold (over (9 ∷ 97 ∷ [])) a_virtual_space_moves_the_start refl

a_virtual_space_moves_the_start-means : only (meaning (over (9 ∷ 97 ∷ [])) a_virtual_space_moves_the_start) ≡ (node t.root (node (t.text (97 ∷ [])) nothing (position 1 1 0 1 3 2) nothing) (position 1 1 0 1 3 2) nothing)
unfolding is_utf8 chars encode slice fold caseless
a_virtual_space_moves_the_start-means = refl

abbrev a_character_cut_in_two : Forest
a_character_cut_in_two = (span n.Paragraph (at 1 1 0) (at 1 3 2) (span n.Data (at 1 1 0) (at 1 2 1) empty empty) empty)

a_character_cut_in_two-accepted : ¬ (Accepted (over (195 ∷ 169 ∷ [])) a_character_cut_in_two)
unfolding is_utf8 chars encode slice fold caseless
a_character_cut_in_two-accepted = conditions-fail (over (195 ∷ 169 ∷ [])) a_character_cut_in_two refl

a_character_cut_in_two-refused : error_kind_of (compiled (over (195 ∷ 169 ∷ [])) (events_of a_character_cut_in_two)) ≡ error_kind (codes "slice-invalid") 1 2 1
unfolding is_utf8 chars encode slice fold caseless run enter_step exit_step leave
a_character_cut_in_two-refused = refl

abbrev paragraphs_in_falling_order : Forest
paragraphs_in_falling_order = (span n.Paragraph (at 1 2 1) (at 1 3 2) (span n.Data (at 1 2 1) (at 1 3 2) empty empty) (span n.Paragraph (at 1 1 0) (at 1 2 1) (span n.Data (at 1 1 0) (at 1 2 1) empty empty) empty))

paragraphs_in_falling_order-accepted : Accepted (over (97 ∷ 98 ∷ [])) paragraphs_in_falling_order
unfolding is_utf8 chars encode slice fold caseless
paragraphs_in_falling_order-accepted = conditions-hold (over (97 ∷ 98 ∷ [])) paragraphs_in_falling_order refl

paragraphs_in_falling_order-means : only (meaning (over (97 ∷ 98 ∷ [])) paragraphs_in_falling_order) ≡ (node t.root (node t.paragraph (node (t.text (98 ∷ [])) nothing (position 1 2 1 1 3 2) nothing) (position 1 2 1 1 3 2) (node t.paragraph (node (t.text (97 ∷ [])) nothing (position 1 1 0 1 2 1) nothing) (position 1 1 0 1 2 1) nothing)) (position 1 2 1 1 2 1) nothing)
unfolding is_utf8 chars encode slice fold caseless
paragraphs_in_falling_order-means = refl

paragraphs_in_falling_order-ordered : ¬ (IsOrdered (only (meaning (over (97 ∷ 98 ∷ [])) paragraphs_in_falling_order)))
unfolding is_utf8 chars encode slice fold caseless
paragraphs_in_falling_order-ordered = is-unordered (only (meaning (over (97 ∷ 98 ∷ [])) paragraphs_in_falling_order)) refl
