-- Rows of crates/mdast_replay/data/rows.txt, by computation. scripts/rows writes this file.
use Rattle.std.proofs.Common.{◌≡◌, [], ◌∷◌, refl}
use Rattle.std.specs.Prelude.{codes}
use Rattle.std.specs.Str.{is_utf8, chars}
use lib.Utf8.{encode}
use Rattle.caseless.proofs.Computing.{caseless}
use Rattle.markdown_events.specs.declared.event.Name.TheVariants as n
use Rattle.markdown_events.specs.Forest.{Forest, empty, span, events_of}
use Rattle.markdown_events.specs.Slices.{slice}
use Rattle.markdown_events.specs.Texts.{fold}
use Rattle.markdown_nodes.specs.Tree.{node, nothing, only}
use Rattle.markdown_nodes.specs.Tree as t
use Rattle.markdown_grammar.specs.Accepted.{Accepted}
use Rattle.markdown_steps.proofs.Conditions.{conditions-hold, conditions-fail}
use Rattle.markdown_steps.specs.Compiler.{compiled, enter_step, exit_step, leave, run}
use Rattle.markdown_grammar.specs.Meaning.{meaning}
use Rattle.markdown_grammar.specs.Ordered.{IsOrdered}
use Rattle.markdown_steps.proofs.Orderly.{is-ordered}
use Rattle.markdown_steps.proofs.RowWords.{at, position, over, error_kind, error_kind_of}

abbrev a_hard_break_and_its_line_ending : Forest
a_hard_break_and_its_line_ending = (span n.Paragraph (at 1 1 0) (at 2 2 4) (span n.Data (at 1 1 0) (at 1 2 1) empty (span n.HardBreakEscape (at 1 2 1) (at 1 3 2) empty (span n.LineEnding (at 1 3 2) (at 2 1 3) empty (span n.Data (at 2 1 3) (at 2 2 4) empty empty)))) empty)

a_hard_break_and_its_line_ending-accepted : Accepted (over (97 ∷ 92 ∷ 10 ∷ 98 ∷ [])) a_hard_break_and_its_line_ending
unfolding is_utf8 chars encode slice fold caseless
a_hard_break_and_its_line_ending-accepted = conditions-hold (over (97 ∷ 92 ∷ 10 ∷ 98 ∷ [])) a_hard_break_and_its_line_ending refl

a_hard_break_and_its_line_ending-means : only (meaning (over (97 ∷ 92 ∷ 10 ∷ 98 ∷ [])) a_hard_break_and_its_line_ending) ≡ (node t.root (node t.paragraph (node (t.text (97 ∷ [])) nothing (position 1 1 0 1 2 1) (node t.«break» nothing (position 1 2 1 2 1 3) (node (t.text (98 ∷ [])) nothing (position 2 1 3 2 2 4) nothing))) (position 1 1 0 2 2 4) nothing) (position 1 1 0 2 2 4) nothing)
unfolding is_utf8 chars encode slice fold caseless
a_hard_break_and_its_line_ending-means = refl

a_hard_break_and_its_line_ending-ordered : IsOrdered (only (meaning (over (97 ∷ 92 ∷ 10 ∷ 98 ∷ [])) a_hard_break_and_its_line_ending))
unfolding is_utf8 chars encode slice fold caseless
a_hard_break_and_its_line_ending-ordered = is-ordered (only (meaning (over (97 ∷ 92 ∷ 10 ∷ 98 ∷ [])) a_hard_break_and_its_line_ending)) refl

abbrev a_hard_break_at_the_end : Forest
a_hard_break_at_the_end = (span n.Paragraph (at 1 1 0) (at 1 3 2) (span n.Data (at 1 1 0) (at 1 2 1) empty (span n.HardBreakEscape (at 1 2 1) (at 1 3 2) empty empty)) empty)

a_hard_break_at_the_end-accepted : ¬ (Accepted (over (97 ∷ 92 ∷ [])) a_hard_break_at_the_end)
unfolding is_utf8 chars encode slice fold caseless
a_hard_break_at_the_end-accepted = conditions-fail (over (97 ∷ 92 ∷ [])) a_hard_break_at_the_end refl

a_hard_break_at_the_end-refused : error_kind_of (compiled (over (97 ∷ 92 ∷ [])) (events_of a_hard_break_at_the_end)) ≡ error_kind (codes "break-unfinished") 1 3 2
unfolding is_utf8 chars encode slice fold caseless run enter_step exit_step leave
a_hard_break_at_the_end-refused = refl

abbrev a_hard_break_at_the_end_of_a_heading : Forest
a_hard_break_at_the_end_of_a_heading = (span n.HeadingSetext (at 1 1 0) (at 2 4 6) (span n.HeadingSetextText (at 1 1 0) (at 1 3 2) (span n.Data (at 1 1 0) (at 1 2 1) empty (span n.HardBreakEscape (at 1 2 1) (at 1 3 2) empty empty)) (span n.LineEnding (at 1 3 2) (at 2 1 3) empty (span n.HeadingSetextUnderlineSequence (at 2 1 3) (at 2 4 6) empty empty))) empty)

a_hard_break_at_the_end_of_a_heading-accepted : ¬ (Accepted (over (97 ∷ 92 ∷ 10 ∷ 45 ∷ 45 ∷ 45 ∷ [])) a_hard_break_at_the_end_of_a_heading)
unfolding is_utf8 chars encode slice fold caseless
a_hard_break_at_the_end_of_a_heading-accepted = conditions-fail (over (97 ∷ 92 ∷ 10 ∷ 45 ∷ 45 ∷ 45 ∷ [])) a_hard_break_at_the_end_of_a_heading refl

a_hard_break_at_the_end_of_a_heading-refused : error_kind_of (compiled (over (97 ∷ 92 ∷ 10 ∷ 45 ∷ 45 ∷ 45 ∷ [])) (events_of a_hard_break_at_the_end_of_a_heading)) ≡ error_kind (codes "break-unfinished") 1 3 2
unfolding is_utf8 chars encode slice fold caseless run enter_step exit_step leave
a_hard_break_at_the_end_of_a_heading-refused = refl
