-- Rows of crates/mdast_replay/data/rows.txt, by computation. scripts/rows writes this file.
use Rattle.std.proofs.Common.{◌≡◌, [], ◌∷◌, refl}
use Rattle.std.specs.Prelude.{codes}
use Rattle.std.specs.Str.{is_utf8, chars}
use lib.Utf8.{encode}
use Rattle.caseless.proofs.Computing.{caseless}
use Rattle.markdown_events.specs.declared.event.Name.TheVariants as n
use Rattle.markdown_events.specs.Forest.{Forest, empty, span, events_of}
use Rattle.markdown_events.specs.Slices.{slice}
use Rattle.markdown_events.specs.Texts.{fold}
use Rattle.markdown_nodes.specs.Tree.{node, nothing, only}
use Rattle.markdown_nodes.specs.Tree as t
use Rattle.markdown_grammar.specs.Accepted.{Accepted}
use Rattle.markdown_steps.proofs.Conditions.{conditions-hold, conditions-fail}
use Rattle.markdown_steps.specs.Compiler.{compiled, enter_step, exit_step, leave, run}
use Rattle.markdown_grammar.specs.Meaning.{meaning}
use Rattle.markdown_grammar.specs.Ordered.{IsOrdered}
use Rattle.markdown_steps.proofs.Orderly.{is-ordered}
use Rattle.markdown_steps.proofs.RowWords.{at, position, over, error_kind, error_kind_of}

abbrev an_atx_heading_with_emphasis : Forest
an_atx_heading_with_emphasis = (span n.HeadingAtx (at 1 1 0) (at 1 14 13) (span n.HeadingAtxSequence (at 1 1 0) (at 1 2 1) empty (span n.SpaceOrTab (at 1 2 1) (at 1 3 2) empty (span n.HeadingAtxText (at 1 3 2) (at 1 14 13) (span n.Data (at 1 3 2) (at 1 6 5) empty (span n.Emphasis (at 1 6 5) (at 1 13 12) (span n.EmphasisSequence (at 1 6 5) (at 1 7 6) empty (span n.EmphasisText (at 1 7 6) (at 1 12 11) (span n.Data (at 1 7 6) (at 1 12 11) empty empty) (span n.EmphasisSequence (at 1 12 11) (at 1 13 12) empty empty))) (span n.Data (at 1 13 12) (at 1 14 13) empty empty))) empty))) empty)

an_atx_heading_with_emphasis-accepted : Accepted (over (35 ∷ 32 ∷ 72 ∷ 105 ∷ 32 ∷ 42 ∷ 69 ∷ 97 ∷ 114 ∷ 116 ∷ 104 ∷ 42 ∷ 33 ∷ [])) an_atx_heading_with_emphasis
unfolding is_utf8 chars encode slice fold caseless
an_atx_heading_with_emphasis-accepted = conditions-hold (over (35 ∷ 32 ∷ 72 ∷ 105 ∷ 32 ∷ 42 ∷ 69 ∷ 97 ∷ 114 ∷ 116 ∷ 104 ∷ 42 ∷ 33 ∷ [])) an_atx_heading_with_emphasis refl

an_atx_heading_with_emphasis-means : only (meaning (over (35 ∷ 32 ∷ 72 ∷ 105 ∷ 32 ∷ 42 ∷ 69 ∷ 97 ∷ 114 ∷ 116 ∷ 104 ∷ 42 ∷ 33 ∷ [])) an_atx_heading_with_emphasis) ≡ (node t.root (node (t.heading 1) (node (t.text (72 ∷ 105 ∷ 32 ∷ [])) nothing (position 1 3 2 1 6 5) (node t.emphasis (node (t.text (69 ∷ 97 ∷ 114 ∷ 116 ∷ 104 ∷ [])) nothing (position 1 7 6 1 12 11) nothing) (position 1 6 5 1 13 12) (node (t.text (33 ∷ [])) nothing (position 1 13 12 1 14 13) nothing))) (position 1 1 0 1 14 13) nothing) (position 1 1 0 1 14 13) nothing)
unfolding is_utf8 chars encode slice fold caseless
an_atx_heading_with_emphasis-means = refl

an_atx_heading_with_emphasis-ordered : IsOrdered (only (meaning (over (35 ∷ 32 ∷ 72 ∷ 105 ∷ 32 ∷ 42 ∷ 69 ∷ 97 ∷ 114 ∷ 116 ∷ 104 ∷ 42 ∷ 33 ∷ [])) an_atx_heading_with_emphasis))
unfolding is_utf8 chars encode slice fold caseless
an_atx_heading_with_emphasis-ordered = is-ordered (only (meaning (over (35 ∷ 32 ∷ 72 ∷ 105 ∷ 32 ∷ 42 ∷ 69 ∷ 97 ∷ 114 ∷ 116 ∷ 104 ∷ 42 ∷ 33 ∷ [])) an_atx_heading_with_emphasis)) refl

abbrev a_closing_sequence : Forest
a_closing_sequence = (span n.HeadingAtx (at 1 1 0) (at 1 7 6) (span n.HeadingAtxSequence (at 1 1 0) (at 1 2 1) empty (span n.SpaceOrTab (at 1 2 1) (at 1 3 2) empty (span n.HeadingAtxText (at 1 3 2) (at 1 4 3) (span n.Data (at 1 3 2) (at 1 4 3) empty empty) (span n.SpaceOrTab (at 1 4 3) (at 1 5 4) empty (span n.HeadingAtxSequence (at 1 5 4) (at 1 7 6) empty empty))))) empty)

a_closing_sequence-accepted : Accepted (over (35 ∷ 32 ∷ 97 ∷ 32 ∷ 35 ∷ 35 ∷ [])) a_closing_sequence
unfolding is_utf8 chars encode slice fold caseless
a_closing_sequence-accepted = conditions-hold (over (35 ∷ 32 ∷ 97 ∷ 32 ∷ 35 ∷ 35 ∷ [])) a_closing_sequence refl

a_closing_sequence-means : only (meaning (over (35 ∷ 32 ∷ 97 ∷ 32 ∷ 35 ∷ 35 ∷ [])) a_closing_sequence) ≡ (node t.root (node (t.heading 1) (node (t.text (97 ∷ [])) nothing (position 1 3 2 1 4 3) nothing) (position 1 1 0 1 7 6) nothing) (position 1 1 0 1 7 6) nothing)
unfolding is_utf8 chars encode slice fold caseless
a_closing_sequence-means = refl

abbrev a_sequence_of_seven : Forest
a_sequence_of_seven = (span n.HeadingAtx (at 1 1 0) (at 1 8 7) (span n.HeadingAtxSequence (at 1 1 0) (at 1 8 7) empty empty) empty)

a_sequence_of_seven-accepted : ¬ (Accepted (over (35 ∷ 35 ∷ 35 ∷ 35 ∷ 35 ∷ 35 ∷ 35 ∷ [])) a_sequence_of_seven)
unfolding is_utf8 chars encode slice fold caseless
a_sequence_of_seven-accepted = conditions-fail (over (35 ∷ 35 ∷ 35 ∷ 35 ∷ 35 ∷ 35 ∷ 35 ∷ [])) a_sequence_of_seven refl

a_sequence_of_seven-refused : error_kind_of (compiled (over (35 ∷ 35 ∷ 35 ∷ 35 ∷ 35 ∷ 35 ∷ 35 ∷ [])) (events_of a_sequence_of_seven)) ≡ error_kind (codes "heading-depth") 1 8 7
unfolding is_utf8 chars encode slice fold caseless run enter_step exit_step leave
a_sequence_of_seven-refused = refl

abbrev a_sequence_that_cuts_a_character : Forest
a_sequence_that_cuts_a_character = (span n.HeadingAtx (at 1 1 0) (at 1 3 2) (span n.HeadingAtxSequence (at 1 1 0) (at 1 2 1) empty empty) empty)

a_sequence_that_cuts_a_character-accepted : Accepted (over (195 ∷ 169 ∷ [])) a_sequence_that_cuts_a_character
unfolding is_utf8 chars encode slice fold caseless
a_sequence_that_cuts_a_character-accepted = conditions-hold (over (195 ∷ 169 ∷ [])) a_sequence_that_cuts_a_character refl

a_sequence_that_cuts_a_character-means : only (meaning (over (195 ∷ 169 ∷ [])) a_sequence_that_cuts_a_character) ≡ (node t.root (node (t.heading 1) nothing (position 1 1 0 1 3 2) nothing) (position 1 1 0 1 3 2) nothing)
unfolding is_utf8 chars encode slice fold caseless
a_sequence_that_cuts_a_character-means = refl

abbrev a_reversed_sequence : Forest
a_reversed_sequence = (span n.HeadingAtx (at 1 1 0) (at 1 3 2) (span n.HeadingAtxSequence (at 1 3 2) (at 1 2 1) empty empty) empty)

a_reversed_sequence-accepted : ¬ (Accepted (over (35 ∷ 35 ∷ [])) a_reversed_sequence)
unfolding is_utf8 chars encode slice fold caseless
a_reversed_sequence-accepted = conditions-fail (over (35 ∷ 35 ∷ [])) a_reversed_sequence refl

a_reversed_sequence-refused : error_kind_of (compiled (over (35 ∷ 35 ∷ [])) (events_of a_reversed_sequence)) ≡ error_kind (codes "slice-invalid") 1 2 1
unfolding is_utf8 chars encode slice fold caseless run enter_step exit_step leave
a_reversed_sequence-refused = refl

abbrev no_sequence : Forest
no_sequence = (span n.HeadingAtx (at 1 1 0) (at 1 8 7) empty empty)

no_sequence-accepted : ¬ (Accepted (over (35 ∷ 35 ∷ 35 ∷ 35 ∷ 35 ∷ 35 ∷ 35 ∷ [])) no_sequence)
unfolding is_utf8 chars encode slice fold caseless
no_sequence-accepted = conditions-fail (over (35 ∷ 35 ∷ 35 ∷ 35 ∷ 35 ∷ 35 ∷ 35 ∷ [])) no_sequence refl

no_sequence-refused : error_kind_of (compiled (over (35 ∷ 35 ∷ 35 ∷ 35 ∷ 35 ∷ 35 ∷ 35 ∷ [])) (events_of no_sequence)) ≡ error_kind (codes "heading-depth") 1 8 7
unfolding is_utf8 chars encode slice fold caseless run enter_step exit_step leave
no_sequence-refused = refl

abbrev a_setext_heading : Forest
a_setext_heading = (span n.HeadingSetext (at 1 1 0) (at 2 4 5) (span n.HeadingSetextText (at 1 1 0) (at 1 2 1) (span n.Data (at 1 1 0) (at 1 2 1) empty empty) (span n.LineEnding (at 1 2 1) (at 2 1 2) empty (span n.HeadingSetextUnderline (at 2 1 2) (at 2 4 5) (span n.HeadingSetextUnderlineSequence (at 2 1 2) (at 2 4 5) empty empty) empty))) empty)

a_setext_heading-accepted : Accepted (over (97 ∷ 10 ∷ 45 ∷ 45 ∷ 45 ∷ [])) a_setext_heading
unfolding is_utf8 chars encode slice fold caseless
a_setext_heading-accepted = conditions-hold (over (97 ∷ 10 ∷ 45 ∷ 45 ∷ 45 ∷ [])) a_setext_heading refl

a_setext_heading-means : only (meaning (over (97 ∷ 10 ∷ 45 ∷ 45 ∷ 45 ∷ [])) a_setext_heading) ≡ (node t.root (node (t.heading 2) (node (t.text (97 ∷ [])) nothing (position 1 1 0 1 2 1) nothing) (position 1 1 0 2 4 5) nothing) (position 1 1 0 2 4 5) nothing)
unfolding is_utf8 chars encode slice fold caseless
a_setext_heading-means = refl

a_setext_heading-ordered : IsOrdered (only (meaning (over (97 ∷ 10 ∷ 45 ∷ 45 ∷ 45 ∷ [])) a_setext_heading))
unfolding is_utf8 chars encode slice fold caseless
a_setext_heading-ordered = is-ordered (only (meaning (over (97 ∷ 10 ∷ 45 ∷ 45 ∷ 45 ∷ [])) a_setext_heading)) refl

abbrev a_setext_heading_of_equals_signs : Forest
a_setext_heading_of_equals_signs = (span n.HeadingSetext (at 1 1 0) (at 2 4 6) (span n.HeadingSetextText (at 1 1 0) (at 1 2 1) (span n.Data (at 1 1 0) (at 1 2 1) empty empty) (span n.LineEnding (at 1 3 2) (at 2 1 3) empty (span n.HeadingSetextUnderlineSequence (at 2 1 3) (at 2 4 6) empty empty))) empty)

a_setext_heading_of_equals_signs-accepted : Accepted (over (97 ∷ 92 ∷ 10 ∷ 61 ∷ 61 ∷ 61 ∷ [])) a_setext_heading_of_equals_signs
unfolding is_utf8 chars encode slice fold caseless
a_setext_heading_of_equals_signs-accepted = conditions-hold (over (97 ∷ 92 ∷ 10 ∷ 61 ∷ 61 ∷ 61 ∷ [])) a_setext_heading_of_equals_signs refl

a_setext_heading_of_equals_signs-means : only (meaning (over (97 ∷ 92 ∷ 10 ∷ 61 ∷ 61 ∷ 61 ∷ [])) a_setext_heading_of_equals_signs) ≡ (node t.root (node (t.heading 1) (node (t.text (97 ∷ [])) nothing (position 1 1 0 1 2 1) nothing) (position 1 1 0 2 4 6) nothing) (position 1 1 0 2 4 6) nothing)
unfolding is_utf8 chars encode slice fold caseless
a_setext_heading_of_equals_signs-means = refl

abbrev two_setext_texts : Forest
two_setext_texts = (span n.HeadingSetext (at 1 1 0) (at 2 4 5) (span n.HeadingSetextText (at 1 1 0) (at 1 2 1) empty (span n.HeadingSetextText (at 1 1 0) (at 1 2 1) empty (span n.HeadingSetextUnderlineSequence (at 2 1 2) (at 2 4 5) empty empty))) empty)

two_setext_texts-accepted : ¬ (Accepted (over (97 ∷ 10 ∷ 45 ∷ 45 ∷ 45 ∷ [])) two_setext_texts)
unfolding is_utf8 chars encode slice fold caseless
two_setext_texts-accepted = conditions-fail (over (97 ∷ 10 ∷ 45 ∷ 45 ∷ 45 ∷ [])) two_setext_texts refl

two_setext_texts-refused : error_kind_of (compiled (over (97 ∷ 10 ∷ 45 ∷ 45 ∷ 45 ∷ [])) (events_of two_setext_texts)) ≡ error_kind (codes "part-repeated") 1 1 0
unfolding is_utf8 chars encode slice fold caseless run enter_step exit_step leave
two_setext_texts-refused = refl

abbrev two_underlines : Forest
two_underlines = (span n.HeadingSetext (at 1 1 0) (at 2 4 5) (span n.HeadingSetextText (at 1 1 0) (at 1 2 1) empty (span n.HeadingSetextUnderlineSequence (at 2 1 2) (at 2 4 5) empty (span n.HeadingSetextUnderlineSequence (at 2 1 2) (at 2 4 5) empty empty))) empty)

two_underlines-accepted : ¬ (Accepted (over (97 ∷ 10 ∷ 45 ∷ 45 ∷ 45 ∷ [])) two_underlines)
unfolding is_utf8 chars encode slice fold caseless
two_underlines-accepted = conditions-fail (over (97 ∷ 10 ∷ 45 ∷ 45 ∷ 45 ∷ [])) two_underlines refl

two_underlines-refused : error_kind_of (compiled (over (97 ∷ 10 ∷ 45 ∷ 45 ∷ 45 ∷ [])) (events_of two_underlines)) ≡ error_kind (codes "part-repeated") 2 1 2
unfolding is_utf8 chars encode slice fold caseless run enter_step exit_step leave
two_underlines-refused = refl
