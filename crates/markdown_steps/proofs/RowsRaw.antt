-- Rows of crates/mdast_replay/data/rows.txt, by computation. scripts/rows writes this file.
use Rattle.std.proofs.Common.{◌≡◌, [], ◌∷◌, None, Some, refl}
use Rattle.std.specs.Prelude.{codes}
use Rattle.std.specs.Str.{is_utf8, chars}
use lib.Utf8.{encode}
use Rattle.caseless.proofs.Computing.{caseless}
use Rattle.markdown_events.specs.declared.event.Name.TheVariants as n
use Rattle.markdown_events.specs.Forest.{Forest, empty, span, events_of}
use Rattle.markdown_events.specs.Slices.{slice}
use Rattle.markdown_events.specs.Texts.{fold}
use Rattle.markdown_nodes.specs.Tree.{node, nothing, only}
use Rattle.markdown_nodes.specs.Tree as t
use Rattle.markdown_grammar.specs.Accepted.{Accepted}
use Rattle.markdown_steps.proofs.Conditions.{conditions-hold, conditions-fail}
use Rattle.markdown_steps.specs.Compiler.{compiled, enter_step, exit_step, leave, run}
use Rattle.markdown_grammar.specs.Meaning.{meaning}
use Rattle.markdown_grammar.specs.Ordered.{IsOrdered}
use Rattle.markdown_steps.proofs.Orderly.{is-ordered}
use Rattle.markdown_steps.proofs.RowWords.{at, position, over, error_kind, error_kind_of}

abbrev fenced_code_with_info_and_meta : Forest
fenced_code_with_info_and_meta = (span n.CodeFenced (at 1 1 0) (at 3 4 13) (span n.CodeFencedFence (at 1 1 0) (at 1 8 7) (span n.CodeFencedFenceSequence (at 1 1 0) (at 1 4 3) empty (span n.CodeFencedFenceInfo (at 1 4 3) (at 1 6 5) (span n.Data (at 1 4 3) (at 1 6 5) empty empty) (span n.SpaceOrTab (at 1 6 5) (at 1 7 6) empty (span n.CodeFencedFenceMeta (at 1 7 6) (at 1 8 7) (span n.Data (at 1 7 6) (at 1 8 7) empty empty) empty)))) (span n.LineEnding (at 1 8 7) (at 2 1 8) empty (span n.CodeFlowChunk (at 2 1 8) (at 2 2 9) empty (span n.LineEnding (at 2 2 9) (at 3 1 10) empty (span n.CodeFencedFence (at 3 1 10) (at 3 4 13) empty empty))))) empty)

fenced_code_with_info_and_meta-accepted : Accepted (over (126 ∷ 126 ∷ 126 ∷ 106 ∷ 115 ∷ 32 ∷ 120 ∷ 10 ∷ 97 ∷ 10 ∷ 126 ∷ 126 ∷ 126 ∷ [])) fenced_code_with_info_and_meta
unfolding is_utf8 chars encode slice fold caseless
fenced_code_with_info_and_meta-accepted = conditions-hold (over (126 ∷ 126 ∷ 126 ∷ 106 ∷ 115 ∷ 32 ∷ 120 ∷ 10 ∷ 97 ∷ 10 ∷ 126 ∷ 126 ∷ 126 ∷ [])) fenced_code_with_info_and_meta refl

fenced_code_with_info_and_meta-means : only (meaning (over (126 ∷ 126 ∷ 126 ∷ 106 ∷ 115 ∷ 32 ∷ 120 ∷ 10 ∷ 97 ∷ 10 ∷ 126 ∷ 126 ∷ 126 ∷ [])) fenced_code_with_info_and_meta) ≡ (node t.root (node (t.code (97 ∷ []) (Some (106 ∷ 115 ∷ [])) (Some (120 ∷ []))) nothing (position 1 1 0 3 4 13) nothing) (position 1 1 0 3 4 13) nothing)
unfolding is_utf8 chars encode slice fold caseless
fenced_code_with_info_and_meta-means = refl

fenced_code_with_info_and_meta-ordered : IsOrdered (only (meaning (over (126 ∷ 126 ∷ 126 ∷ 106 ∷ 115 ∷ 32 ∷ 120 ∷ 10 ∷ 97 ∷ 10 ∷ 126 ∷ 126 ∷ 126 ∷ [])) fenced_code_with_info_and_meta))
unfolding is_utf8 chars encode slice fold caseless
fenced_code_with_info_and_meta-ordered = is-ordered (only (meaning (over (126 ∷ 126 ∷ 126 ∷ 106 ∷ 115 ∷ 32 ∷ 120 ∷ 10 ∷ 97 ∷ 10 ∷ 126 ∷ 126 ∷ 126 ∷ [])) fenced_code_with_info_and_meta)) refl

abbrev fenced_code_loses_one_line_ending_at_each_end : Forest
fenced_code_loses_one_line_ending_at_each_end = (span n.CodeFenced (at 1 1 0) (at 4 4 11) (span n.CodeFencedFence (at 1 1 0) (at 1 4 3) empty (span n.LineEnding (at 1 4 3) (at 2 1 5) empty (span n.CodeFlowChunk (at 2 1 5) (at 2 2 6) empty (span n.LineEnding (at 2 2 6) (at 3 1 7) empty (span n.LineEnding (at 3 1 7) (at 4 1 8) empty (span n.CodeFencedFence (at 4 1 8) (at 4 4 11) empty empty)))))) empty)

fenced_code_loses_one_line_ending_at_each_end-accepted : Accepted (over (126 ∷ 126 ∷ 126 ∷ 13 ∷ 10 ∷ 97 ∷ 10 ∷ 10 ∷ 126 ∷ 126 ∷ 126 ∷ [])) fenced_code_loses_one_line_ending_at_each_end
unfolding is_utf8 chars encode slice fold caseless
fenced_code_loses_one_line_ending_at_each_end-accepted = conditions-hold (over (126 ∷ 126 ∷ 126 ∷ 13 ∷ 10 ∷ 97 ∷ 10 ∷ 10 ∷ 126 ∷ 126 ∷ 126 ∷ [])) fenced_code_loses_one_line_ending_at_each_end refl

fenced_code_loses_one_line_ending_at_each_end-means : only (meaning (over (126 ∷ 126 ∷ 126 ∷ 13 ∷ 10 ∷ 97 ∷ 10 ∷ 10 ∷ 126 ∷ 126 ∷ 126 ∷ [])) fenced_code_loses_one_line_ending_at_each_end) ≡ (node t.root (node (t.code (97 ∷ 10 ∷ []) None None) nothing (position 1 1 0 4 4 11) nothing) (position 1 1 0 4 4 11) nothing)
unfolding is_utf8 chars encode slice fold caseless
fenced_code_loses_one_line_ending_at_each_end-means = refl

abbrev an_open_fence : Forest
an_open_fence = (span n.CodeFenced (at 1 1 0) (at 2 1 4) (span n.CodeFencedFence (at 1 1 0) (at 1 4 3) empty (span n.LineEnding (at 1 4 3) (at 2 1 4) empty empty)) empty)

an_open_fence-accepted : Accepted (over (126 ∷ 126 ∷ 126 ∷ 10 ∷ [])) an_open_fence
unfolding is_utf8 chars encode slice fold caseless
an_open_fence-accepted = conditions-hold (over (126 ∷ 126 ∷ 126 ∷ 10 ∷ [])) an_open_fence refl

an_open_fence-means : only (meaning (over (126 ∷ 126 ∷ 126 ∷ 10 ∷ [])) an_open_fence) ≡ (node t.root (node (t.code ([]) None None) nothing (position 1 1 0 2 1 4) nothing) (position 1 1 0 2 1 4) nothing)
unfolding is_utf8 chars encode slice fold caseless
an_open_fence-means = refl

abbrev a_chunk_before_any_fence : Forest
a_chunk_before_any_fence = (span n.CodeFenced (at 1 1 0) (at 3 4 13) (span n.LineEnding (at 1 8 7) (at 2 1 8) empty (span n.CodeFlowChunk (at 2 1 8) (at 2 2 9) empty (span n.LineEnding (at 2 2 9) (at 3 1 10) empty empty))) empty)

a_chunk_before_any_fence-accepted : ¬ (Accepted (over (126 ∷ 126 ∷ 126 ∷ 106 ∷ 115 ∷ 32 ∷ 120 ∷ 10 ∷ 97 ∷ 10 ∷ 126 ∷ 126 ∷ 126 ∷ [])) a_chunk_before_any_fence)
unfolding is_utf8 chars encode slice fold caseless
a_chunk_before_any_fence-accepted = conditions-fail (over (126 ∷ 126 ∷ 126 ∷ 106 ∷ 115 ∷ 32 ∷ 120 ∷ 10 ∷ 97 ∷ 10 ∷ 126 ∷ 126 ∷ 126 ∷ [])) a_chunk_before_any_fence refl

a_chunk_before_any_fence-refused : error_kind_of (compiled (over (126 ∷ 126 ∷ 126 ∷ 106 ∷ 115 ∷ 32 ∷ 120 ∷ 10 ∷ 97 ∷ 10 ∷ 126 ∷ 126 ∷ 126 ∷ [])) (events_of a_chunk_before_any_fence)) ≡ error_kind (codes "name-misplaced") 2 1 8
unfolding is_utf8 chars encode slice fold caseless run enter_step exit_step leave
a_chunk_before_any_fence-refused = refl

abbrev no_fence : Forest
no_fence = (span n.CodeFenced (at 1 1 0) (at 3 4 13) (span n.LineEnding (at 1 8 7) (at 2 1 8) empty (span n.LineEnding (at 2 2 9) (at 3 1 10) empty empty)) empty)

no_fence-accepted : ¬ (Accepted (over (126 ∷ 126 ∷ 126 ∷ 106 ∷ 115 ∷ 32 ∷ 120 ∷ 10 ∷ 97 ∷ 10 ∷ 126 ∷ 126 ∷ 126 ∷ [])) no_fence)
unfolding is_utf8 chars encode slice fold caseless
no_fence-accepted = conditions-fail (over (126 ∷ 126 ∷ 126 ∷ 106 ∷ 115 ∷ 32 ∷ 120 ∷ 10 ∷ 97 ∷ 10 ∷ 126 ∷ 126 ∷ 126 ∷ [])) no_fence refl

no_fence-refused : error_kind_of (compiled (over (126 ∷ 126 ∷ 126 ∷ 106 ∷ 115 ∷ 32 ∷ 120 ∷ 10 ∷ 97 ∷ 10 ∷ 126 ∷ 126 ∷ 126 ∷ [])) (events_of no_fence)) ≡ error_kind (codes "fence-missing") 3 4 13
unfolding is_utf8 chars encode slice fold caseless run enter_step exit_step leave
no_fence-refused = refl

abbrev yaml : Forest
yaml = (span n.Frontmatter (at 1 1 0) (at 3 4 12) (span n.FrontmatterFence (at 1 1 0) (at 1 4 3) empty (span n.LineEnding (at 1 4 3) (at 2 1 4) empty (span n.FrontmatterChunk (at 2 1 4) (at 2 5 8) empty (span n.LineEnding (at 2 5 8) (at 3 1 9) empty (span n.FrontmatterFence (at 3 1 9) (at 3 4 12) empty empty))))) empty)

yaml-accepted : Accepted (over (45 ∷ 45 ∷ 45 ∷ 10 ∷ 97 ∷ 58 ∷ 32 ∷ 98 ∷ 10 ∷ 45 ∷ 45 ∷ 45 ∷ [])) yaml
unfolding is_utf8 chars encode slice fold caseless
yaml-accepted = conditions-hold (over (45 ∷ 45 ∷ 45 ∷ 10 ∷ 97 ∷ 58 ∷ 32 ∷ 98 ∷ 10 ∷ 45 ∷ 45 ∷ 45 ∷ [])) yaml refl

yaml-means : only (meaning (over (45 ∷ 45 ∷ 45 ∷ 10 ∷ 97 ∷ 58 ∷ 32 ∷ 98 ∷ 10 ∷ 45 ∷ 45 ∷ 45 ∷ [])) yaml) ≡ (node t.root (node (t.yaml (97 ∷ 58 ∷ 32 ∷ 98 ∷ [])) nothing (position 1 1 0 3 4 12) nothing) (position 1 1 0 3 4 12) nothing)
unfolding is_utf8 chars encode slice fold caseless
yaml-means = refl

abbrev toml : Forest
toml = (span n.Frontmatter (at 1 1 0) (at 3 4 12) (span n.FrontmatterFence (at 1 1 0) (at 1 4 3) empty (span n.LineEnding (at 1 4 3) (at 2 1 4) empty (span n.FrontmatterChunk (at 2 1 4) (at 2 5 8) empty (span n.LineEnding (at 2 5 8) (at 3 1 9) empty (span n.FrontmatterFence (at 3 1 9) (at 3 4 12) empty empty))))) empty)

toml-accepted : Accepted (over (43 ∷ 43 ∷ 43 ∷ 10 ∷ 97 ∷ 58 ∷ 32 ∷ 98 ∷ 10 ∷ 43 ∷ 43 ∷ 43 ∷ [])) toml
unfolding is_utf8 chars encode slice fold caseless
toml-accepted = conditions-hold (over (43 ∷ 43 ∷ 43 ∷ 10 ∷ 97 ∷ 58 ∷ 32 ∷ 98 ∷ 10 ∷ 43 ∷ 43 ∷ 43 ∷ [])) toml refl

toml-means : only (meaning (over (43 ∷ 43 ∷ 43 ∷ 10 ∷ 97 ∷ 58 ∷ 32 ∷ 98 ∷ 10 ∷ 43 ∷ 43 ∷ 43 ∷ [])) toml) ≡ (node t.root (node (t.toml (97 ∷ 58 ∷ 32 ∷ 98 ∷ [])) nothing (position 1 1 0 3 4 12) nothing) (position 1 1 0 3 4 12) nothing)
unfolding is_utf8 chars encode slice fold caseless
toml-means = refl

abbrev frontmatter_without_its_byte : Forest
frontmatter_without_its_byte = (span n.Frontmatter (at 1 1 0) (at 1 1 0) empty empty)

frontmatter_without_its_byte-accepted : ¬ (Accepted (over ([])) frontmatter_without_its_byte)
unfolding is_utf8 chars encode slice fold caseless
frontmatter_without_its_byte-accepted = conditions-fail (over ([])) frontmatter_without_its_byte refl

frontmatter_without_its_byte-refused : error_kind_of (compiled (over ([])) (events_of frontmatter_without_its_byte)) ≡ error_kind (codes "slice-invalid") 1 1 0
unfolding is_utf8 chars encode slice fold caseless run enter_step exit_step leave
frontmatter_without_its_byte-refused = refl

abbrev indented_code : Forest
indented_code = (span n.CodeIndented (at 1 1 0) (at 2 1 6) (span n.SpaceOrTab (at 1 1 0) (at 1 5 4) empty (span n.CodeFlowChunk (at 1 5 4) (at 1 6 5) empty (span n.LineEnding (at 1 6 5) (at 2 1 6) empty empty))) empty)

indented_code-accepted : Accepted (over (32 ∷ 32 ∷ 32 ∷ 32 ∷ 97 ∷ 10 ∷ [])) indented_code
unfolding is_utf8 chars encode slice fold caseless
indented_code-accepted = conditions-hold (over (32 ∷ 32 ∷ 32 ∷ 32 ∷ 97 ∷ 10 ∷ [])) indented_code refl

indented_code-means : only (meaning (over (32 ∷ 32 ∷ 32 ∷ 32 ∷ 97 ∷ 10 ∷ [])) indented_code) ≡ (node t.root (node (t.code (97 ∷ []) None None) nothing (position 1 1 0 2 1 6) nothing) (position 1 1 0 2 1 6) nothing)
unfolding is_utf8 chars encode slice fold caseless
indented_code-means = refl

abbrev indented_code_keeps_its_first_line_ending : Forest
indented_code_keeps_its_first_line_ending = (span n.CodeIndented (at 1 1 0) (at 2 2 2) (span n.LineEnding (at 1 1 0) (at 2 1 1) empty (span n.CodeFlowChunk (at 2 1 1) (at 2 2 2) empty empty)) empty)

indented_code_keeps_its_first_line_ending-accepted : Accepted (over (10 ∷ 97 ∷ [])) indented_code_keeps_its_first_line_ending
unfolding is_utf8 chars encode slice fold caseless
indented_code_keeps_its_first_line_ending-accepted = conditions-hold (over (10 ∷ 97 ∷ [])) indented_code_keeps_its_first_line_ending refl

indented_code_keeps_its_first_line_ending-means : only (meaning (over (10 ∷ 97 ∷ [])) indented_code_keeps_its_first_line_ending) ≡ (node t.root (node (t.code (10 ∷ 97 ∷ []) None None) nothing (position 1 1 0 2 2 2) nothing) (position 1 1 0 2 2 2) nothing)
unfolding is_utf8 chars encode slice fold caseless
indented_code_keeps_its_first_line_ending-means = refl

abbrev indented_code_loses_its_last_line_ending_of_two_bytes : Forest
indented_code_loses_its_last_line_ending_of_two_bytes = (span n.CodeIndented (at 1 1 0) (at 2 1 7) (span n.SpaceOrTab (at 1 1 0) (at 1 5 4) empty (span n.CodeFlowChunk (at 1 5 4) (at 1 6 5) empty (span n.LineEnding (at 1 6 5) (at 2 1 7) empty empty))) empty)

indented_code_loses_its_last_line_ending_of_two_bytes-accepted : Accepted (over (32 ∷ 32 ∷ 32 ∷ 32 ∷ 97 ∷ 13 ∷ 10 ∷ [])) indented_code_loses_its_last_line_ending_of_two_bytes
unfolding is_utf8 chars encode slice fold caseless
indented_code_loses_its_last_line_ending_of_two_bytes-accepted = conditions-hold (over (32 ∷ 32 ∷ 32 ∷ 32 ∷ 97 ∷ 13 ∷ 10 ∷ [])) indented_code_loses_its_last_line_ending_of_two_bytes refl

indented_code_loses_its_last_line_ending_of_two_bytes-means : only (meaning (over (32 ∷ 32 ∷ 32 ∷ 32 ∷ 97 ∷ 13 ∷ 10 ∷ [])) indented_code_loses_its_last_line_ending_of_two_bytes) ≡ (node t.root (node (t.code (97 ∷ []) None None) nothing (position 1 1 0 2 1 7) nothing) (position 1 1 0 2 1 7) nothing)
unfolding is_utf8 chars encode slice fold caseless
indented_code_loses_its_last_line_ending_of_two_bytes-means = refl

abbrev math : Forest
math = (span n.MathFlow (at 1 1 0) (at 3 3 7) (span n.MathFlowFence (at 1 1 0) (at 1 3 2) empty (span n.LineEnding (at 1 3 2) (at 2 1 3) empty (span n.MathFlowChunk (at 2 1 3) (at 2 2 4) empty (span n.LineEnding (at 2 2 4) (at 3 1 5) empty (span n.MathFlowFence (at 3 1 5) (at 3 3 7) empty empty))))) empty)

math-accepted : Accepted (over (36 ∷ 36 ∷ 10 ∷ 97 ∷ 10 ∷ 36 ∷ 36 ∷ [])) math
unfolding is_utf8 chars encode slice fold caseless
math-accepted = conditions-hold (over (36 ∷ 36 ∷ 10 ∷ 97 ∷ 10 ∷ 36 ∷ 36 ∷ [])) math refl

math-means : only (meaning (over (36 ∷ 36 ∷ 10 ∷ 97 ∷ 10 ∷ 36 ∷ 36 ∷ [])) math) ≡ (node t.root (node (t.math (97 ∷ []) None) nothing (position 1 1 0 3 3 7) nothing) (position 1 1 0 3 3 7) nothing)
unfolding is_utf8 chars encode slice fold caseless
math-means = refl

abbrev code_in_code : Forest
code_in_code = (span n.CodeFenced (at 1 1 0) (at 1 9 8) (span n.CodeFencedFence (at 1 1 0) (at 1 4 3) empty (span n.CodeFenced (at 1 4 3) (at 1 8 7) (span n.CodeFencedFence (at 1 4 3) (at 1 7 6) empty (span n.CodeFlowChunk (at 1 7 6) (at 1 8 7) empty empty)) (span n.CodeFlowChunk (at 1 8 7) (at 1 9 8) empty empty))) empty)

code_in_code-accepted : Accepted (over (126 ∷ 126 ∷ 126 ∷ 126 ∷ 126 ∷ 126 ∷ 98 ∷ 97 ∷ [])) code_in_code
unfolding is_utf8 chars encode slice fold caseless
code_in_code-accepted = conditions-hold (over (126 ∷ 126 ∷ 126 ∷ 126 ∷ 126 ∷ 126 ∷ 98 ∷ 97 ∷ [])) code_in_code refl

code_in_code-means : only (meaning (over (126 ∷ 126 ∷ 126 ∷ 126 ∷ 126 ∷ 126 ∷ 98 ∷ 97 ∷ [])) code_in_code) ≡ (node t.root (node (t.code (98 ∷ 97 ∷ []) None None) nothing (position 1 1 0 1 9 8) nothing) (position 1 1 0 1 9 8) nothing)
unfolding is_utf8 chars encode slice fold caseless
code_in_code-means = refl

abbrev html : Forest
html = (span n.HtmlFlow (at 1 1 0) (at 2 1 4) (span n.HtmlFlowData (at 1 1 0) (at 1 4 3) empty (span n.LineEnding (at 1 4 3) (at 2 1 4) empty empty)) empty)

html-accepted : Accepted (over (60 ∷ 98 ∷ 62 ∷ 10 ∷ [])) html
unfolding is_utf8 chars encode slice fold caseless
html-accepted = conditions-hold (over (60 ∷ 98 ∷ 62 ∷ 10 ∷ [])) html refl

html-means : only (meaning (over (60 ∷ 98 ∷ 62 ∷ 10 ∷ [])) html) ≡ (node t.root (node (t.html (60 ∷ 98 ∷ 62 ∷ 10 ∷ [])) nothing (position 1 1 0 2 1 4) nothing) (position 1 1 0 2 1 4) nothing)
unfolding is_utf8 chars encode slice fold caseless
html-means = refl

abbrev a_fence_of_the_other_name : Forest
a_fence_of_the_other_name = (span n.CodeFenced (at 1 1 0) (at 1 9 8) (span n.MathFlowFence (at 1 1 0) (at 1 4 3) empty (span n.CodeFencedFence (at 1 4 3) (at 1 7 6) empty empty)) empty)

a_fence_of_the_other_name-accepted : ¬ (Accepted (over (126 ∷ 126 ∷ 126 ∷ 126 ∷ 126 ∷ 126 ∷ 98 ∷ 97 ∷ [])) a_fence_of_the_other_name)
unfolding is_utf8 chars encode slice fold caseless
a_fence_of_the_other_name-accepted = conditions-fail (over (126 ∷ 126 ∷ 126 ∷ 126 ∷ 126 ∷ 126 ∷ 98 ∷ 97 ∷ [])) a_fence_of_the_other_name refl

a_fence_of_the_other_name-refused : error_kind_of (compiled (over (126 ∷ 126 ∷ 126 ∷ 126 ∷ 126 ∷ 126 ∷ 98 ∷ 97 ∷ [])) (events_of a_fence_of_the_other_name)) ≡ error_kind (codes "name-misplaced") 1 1 0
unfolding is_utf8 chars encode slice fold caseless run enter_step exit_step leave
a_fence_of_the_other_name-refused = refl

abbrev an_info_in_a_later_fence : Forest
an_info_in_a_later_fence = (span n.CodeFenced (at 1 1 0) (at 1 9 8) (span n.CodeFencedFence (at 1 1 0) (at 1 4 3) empty (span n.CodeFencedFence (at 1 4 3) (at 1 9 8) (span n.CodeFencedFenceInfo (at 1 7 6) (at 1 9 8) empty empty) empty)) empty)

an_info_in_a_later_fence-accepted : ¬ (Accepted (over (126 ∷ 126 ∷ 126 ∷ 126 ∷ 126 ∷ 126 ∷ 98 ∷ 97 ∷ [])) an_info_in_a_later_fence)
unfolding is_utf8 chars encode slice fold caseless
an_info_in_a_later_fence-accepted = conditions-fail (over (126 ∷ 126 ∷ 126 ∷ 126 ∷ 126 ∷ 126 ∷ 98 ∷ 97 ∷ [])) an_info_in_a_later_fence refl

an_info_in_a_later_fence-refused : error_kind_of (compiled (over (126 ∷ 126 ∷ 126 ∷ 126 ∷ 126 ∷ 126 ∷ 98 ∷ 97 ∷ [])) (events_of an_info_in_a_later_fence)) ≡ error_kind (codes "name-misplaced") 1 7 6
unfolding is_utf8 chars encode slice fold caseless run enter_step exit_step leave
an_info_in_a_later_fence-refused = refl

abbrev a_pipe_in_code_in_a_table : Forest
a_pipe_in_code_in_a_table = (span n.GfmTable (at 1 1 0) (at 1 7 6) (span n.GfmTableRow (at 1 1 0) (at 1 7 6) (span n.GfmTableCell (at 1 1 0) (at 1 7 6) (span n.CodeText (at 1 1 0) (at 1 7 6) (span n.CodeTextSequence (at 1 1 0) (at 1 2 1) empty (span n.CodeTextData (at 1 2 1) (at 1 6 5) empty (span n.CodeTextSequence (at 1 6 5) (at 1 7 6) empty empty))) empty) empty) empty) empty)

a_pipe_in_code_in_a_table-accepted : Accepted (over (96 ∷ 97 ∷ 92 ∷ 124 ∷ 98 ∷ 96 ∷ [])) a_pipe_in_code_in_a_table
unfolding is_utf8 chars encode slice fold caseless
a_pipe_in_code_in_a_table-accepted = conditions-hold (over (96 ∷ 97 ∷ 92 ∷ 124 ∷ 98 ∷ 96 ∷ [])) a_pipe_in_code_in_a_table refl

a_pipe_in_code_in_a_table-means : only (meaning (over (96 ∷ 97 ∷ 92 ∷ 124 ∷ 98 ∷ 96 ∷ [])) a_pipe_in_code_in_a_table) ≡ (node t.root (node (t.table ([])) (node t.table_row (node t.table_cell (node (t.inline_code (97 ∷ 124 ∷ 98 ∷ [])) nothing (position 1 1 0 1 7 6) nothing) (position 1 1 0 1 7 6) nothing) (position 1 1 0 1 7 6) nothing) (position 1 1 0 1 7 6) nothing) (position 1 1 0 1 7 6) nothing)
unfolding is_utf8 chars encode slice fold caseless
a_pipe_in_code_in_a_table-means = refl

abbrev a_pipe_in_code_in_emphasis_in_a_table : Forest
a_pipe_in_code_in_emphasis_in_a_table = (span n.GfmTable (at 1 1 0) (at 1 7 6) (span n.GfmTableRow (at 1 1 0) (at 1 7 6) (span n.GfmTableCell (at 1 1 0) (at 1 7 6) (span n.Emphasis (at 1 1 0) (at 1 7 6) (span n.CodeText (at 1 1 0) (at 1 7 6) (span n.CodeTextSequence (at 1 1 0) (at 1 2 1) empty (span n.CodeTextData (at 1 2 1) (at 1 6 5) empty (span n.CodeTextSequence (at 1 6 5) (at 1 7 6) empty empty))) empty) empty) empty) empty) empty)

a_pipe_in_code_in_emphasis_in_a_table-accepted : Accepted (over (96 ∷ 97 ∷ 92 ∷ 124 ∷ 98 ∷ 96 ∷ [])) a_pipe_in_code_in_emphasis_in_a_table
unfolding is_utf8 chars encode slice fold caseless
a_pipe_in_code_in_emphasis_in_a_table-accepted = conditions-hold (over (96 ∷ 97 ∷ 92 ∷ 124 ∷ 98 ∷ 96 ∷ [])) a_pipe_in_code_in_emphasis_in_a_table refl

a_pipe_in_code_in_emphasis_in_a_table-means : only (meaning (over (96 ∷ 97 ∷ 92 ∷ 124 ∷ 98 ∷ 96 ∷ [])) a_pipe_in_code_in_emphasis_in_a_table) ≡ (node t.root (node (t.table ([])) (node t.table_row (node t.table_cell (node t.emphasis (node (t.inline_code (97 ∷ 124 ∷ 98 ∷ [])) nothing (position 1 1 0 1 7 6) nothing) (position 1 1 0 1 7 6) nothing) (position 1 1 0 1 7 6) nothing) (position 1 1 0 1 7 6) nothing) (position 1 1 0 1 7 6) nothing) (position 1 1 0 1 7 6) nothing)
unfolding is_utf8 chars encode slice fold caseless
a_pipe_in_code_in_emphasis_in_a_table-means = refl

abbrev a_pipe_between_line_endings_in_code_in_a_table : Forest
a_pipe_between_line_endings_in_code_in_a_table = (span n.GfmTable (at 1 1 0) (at 3 2 9) (span n.GfmTableRow (at 1 1 0) (at 3 2 9) (span n.GfmTableCell (at 1 1 0) (at 3 2 9) (span n.CodeText (at 1 1 0) (at 3 2 9) (span n.CodeTextSequence (at 1 1 0) (at 1 2 1) empty (span n.LineEnding (at 1 2 1) (at 2 1 2) empty (span n.CodeTextData (at 2 1 2) (at 2 5 6) empty (span n.LineEnding (at 2 5 6) (at 3 1 8) empty (span n.CodeTextSequence (at 3 1 8) (at 3 2 9) empty empty))))) empty) empty) empty) empty)

a_pipe_between_line_endings_in_code_in_a_table-accepted : Accepted (over (96 ∷ 10 ∷ 97 ∷ 92 ∷ 124 ∷ 98 ∷ 13 ∷ 10 ∷ 96 ∷ [])) a_pipe_between_line_endings_in_code_in_a_table
unfolding is_utf8 chars encode slice fold caseless
a_pipe_between_line_endings_in_code_in_a_table-accepted = conditions-hold (over (96 ∷ 10 ∷ 97 ∷ 92 ∷ 124 ∷ 98 ∷ 13 ∷ 10 ∷ 96 ∷ [])) a_pipe_between_line_endings_in_code_in_a_table refl

a_pipe_between_line_endings_in_code_in_a_table-means : only (meaning (over (96 ∷ 10 ∷ 97 ∷ 92 ∷ 124 ∷ 98 ∷ 13 ∷ 10 ∷ 96 ∷ [])) a_pipe_between_line_endings_in_code_in_a_table) ≡ (node t.root (node (t.table ([])) (node t.table_row (node t.table_cell (node (t.inline_code (97 ∷ 124 ∷ 98 ∷ [])) nothing (position 1 1 0 3 2 9) nothing) (position 1 1 0 3 2 9) nothing) (position 1 1 0 3 2 9) nothing) (position 1 1 0 3 2 9) nothing) (position 1 1 0 3 2 9) nothing)
unfolding is_utf8 chars encode slice fold caseless
a_pipe_between_line_endings_in_code_in_a_table-means = refl

abbrev a_pipe_in_code_after_a_table : Forest
a_pipe_in_code_after_a_table = (span n.GfmTable (at 1 1 0) (at 1 1 0) (span n.GfmTableRow (at 1 1 0) (at 1 1 0) empty empty) (span n.CodeText (at 1 1 0) (at 1 7 6) (span n.CodeTextSequence (at 1 1 0) (at 1 2 1) empty (span n.CodeTextData (at 1 2 1) (at 1 6 5) empty (span n.CodeTextSequence (at 1 6 5) (at 1 7 6) empty empty))) empty))

a_pipe_in_code_after_a_table-accepted : Accepted (over (96 ∷ 97 ∷ 92 ∷ 124 ∷ 98 ∷ 96 ∷ [])) a_pipe_in_code_after_a_table
unfolding is_utf8 chars encode slice fold caseless
a_pipe_in_code_after_a_table-accepted = conditions-hold (over (96 ∷ 97 ∷ 92 ∷ 124 ∷ 98 ∷ 96 ∷ [])) a_pipe_in_code_after_a_table refl

a_pipe_in_code_after_a_table-means : only (meaning (over (96 ∷ 97 ∷ 92 ∷ 124 ∷ 98 ∷ 96 ∷ [])) a_pipe_in_code_after_a_table) ≡ (node t.root (node (t.table ([])) (node t.table_row nothing (position 1 1 0 1 1 0) nothing) (position 1 1 0 1 1 0) (node (t.inline_code (97 ∷ 92 ∷ 124 ∷ 98 ∷ [])) nothing (position 1 1 0 1 7 6) nothing)) (position 1 1 0 1 7 6) nothing)
unfolding is_utf8 chars encode slice fold caseless
a_pipe_in_code_after_a_table-means = refl

abbrev a_pipe_in_code_after_a_table_of_the_same_bytes : Forest
a_pipe_in_code_after_a_table_of_the_same_bytes = (span n.GfmTable (at 1 1 0) (at 1 7 6) (span n.GfmTableRow (at 1 1 0) (at 1 7 6) (span n.GfmTableCell (at 1 1 0) (at 1 7 6) empty empty) empty) (span n.CodeText (at 1 1 0) (at 1 7 6) (span n.CodeTextSequence (at 1 1 0) (at 1 2 1) empty (span n.CodeTextData (at 1 2 1) (at 1 6 5) empty (span n.CodeTextSequence (at 1 6 5) (at 1 7 6) empty empty))) empty))

a_pipe_in_code_after_a_table_of_the_same_bytes-accepted : Accepted (over (96 ∷ 97 ∷ 92 ∷ 124 ∷ 98 ∷ 96 ∷ [])) a_pipe_in_code_after_a_table_of_the_same_bytes
unfolding is_utf8 chars encode slice fold caseless
a_pipe_in_code_after_a_table_of_the_same_bytes-accepted = conditions-hold (over (96 ∷ 97 ∷ 92 ∷ 124 ∷ 98 ∷ 96 ∷ [])) a_pipe_in_code_after_a_table_of_the_same_bytes refl

a_pipe_in_code_after_a_table_of_the_same_bytes-means : only (meaning (over (96 ∷ 97 ∷ 92 ∷ 124 ∷ 98 ∷ 96 ∷ [])) a_pipe_in_code_after_a_table_of_the_same_bytes) ≡ (node t.root (node (t.table ([])) (node t.table_row (node t.table_cell nothing (position 1 1 0 1 7 6) nothing) (position 1 1 0 1 7 6) nothing) (position 1 1 0 1 7 6) (node (t.inline_code (97 ∷ 92 ∷ 124 ∷ 98 ∷ [])) nothing (position 1 1 0 1 7 6) nothing)) (position 1 1 0 1 7 6) nothing)
unfolding is_utf8 chars encode slice fold caseless
a_pipe_in_code_after_a_table_of_the_same_bytes-means = refl

abbrev line_endings_around_inline_code : Forest
line_endings_around_inline_code = (span n.CodeText (at 1 1 0) (at 3 2 5) (span n.CodeTextSequence (at 1 1 0) (at 1 2 1) empty (span n.LineEnding (at 1 2 1) (at 2 1 2) empty (span n.CodeTextData (at 2 1 2) (at 2 2 3) empty (span n.LineEnding (at 2 2 3) (at 3 1 4) empty (span n.CodeTextSequence (at 3 1 4) (at 3 2 5) empty empty))))) empty)

line_endings_around_inline_code-accepted : Accepted (over (96 ∷ 10 ∷ 97 ∷ 10 ∷ 96 ∷ [])) line_endings_around_inline_code
unfolding is_utf8 chars encode slice fold caseless
line_endings_around_inline_code-accepted = conditions-hold (over (96 ∷ 10 ∷ 97 ∷ 10 ∷ 96 ∷ [])) line_endings_around_inline_code refl

line_endings_around_inline_code-means : only (meaning (over (96 ∷ 10 ∷ 97 ∷ 10 ∷ 96 ∷ [])) line_endings_around_inline_code) ≡ (node t.root (node (t.inline_code (97 ∷ [])) nothing (position 1 1 0 3 2 5) nothing) (position 1 1 0 3 2 5) nothing)
unfolding is_utf8 chars encode slice fold caseless
line_endings_around_inline_code-means = refl

abbrev a_line_ending_in_inline_code : Forest
a_line_ending_in_inline_code = (span n.CodeText (at 1 1 0) (at 2 3 5) (span n.CodeTextSequence (at 1 1 0) (at 1 2 1) empty (span n.CodeTextData (at 1 2 1) (at 1 3 2) empty (span n.LineEnding (at 1 3 2) (at 2 1 3) empty (span n.CodeTextData (at 2 1 3) (at 2 2 4) empty (span n.CodeTextSequence (at 2 2 4) (at 2 3 5) empty empty))))) empty)

a_line_ending_in_inline_code-accepted : Accepted (over (96 ∷ 97 ∷ 10 ∷ 98 ∷ 96 ∷ [])) a_line_ending_in_inline_code
unfolding is_utf8 chars encode slice fold caseless
a_line_ending_in_inline_code-accepted = conditions-hold (over (96 ∷ 97 ∷ 10 ∷ 98 ∷ 96 ∷ [])) a_line_ending_in_inline_code refl

a_line_ending_in_inline_code-means : only (meaning (over (96 ∷ 97 ∷ 10 ∷ 98 ∷ 96 ∷ [])) a_line_ending_in_inline_code) ≡ (node t.root (node (t.inline_code (97 ∷ 32 ∷ 98 ∷ [])) nothing (position 1 1 0 2 3 5) nothing) (position 1 1 0 2 3 5) nothing)
unfolding is_utf8 chars encode slice fold caseless
a_line_ending_in_inline_code-means = refl

abbrev inline_code_of_two_line_endings : Forest
inline_code_of_two_line_endings = (span n.CodeText (at 1 1 0) (at 3 2 4) (span n.CodeTextSequence (at 1 1 0) (at 1 2 1) empty (span n.LineEnding (at 1 2 1) (at 2 1 2) empty (span n.LineEnding (at 2 1 2) (at 3 1 3) empty (span n.CodeTextSequence (at 3 1 3) (at 3 2 4) empty empty)))) empty)

inline_code_of_two_line_endings-accepted : Accepted (over (96 ∷ 10 ∷ 10 ∷ 96 ∷ [])) inline_code_of_two_line_endings
unfolding is_utf8 chars encode slice fold caseless
inline_code_of_two_line_endings-accepted = conditions-hold (over (96 ∷ 10 ∷ 10 ∷ 96 ∷ [])) inline_code_of_two_line_endings refl

inline_code_of_two_line_endings-means : only (meaning (over (96 ∷ 10 ∷ 10 ∷ 96 ∷ [])) inline_code_of_two_line_endings) ≡ (node t.root (node (t.inline_code (32 ∷ 32 ∷ [])) nothing (position 1 1 0 3 2 4) nothing) (position 1 1 0 3 2 4) nothing)
unfolding is_utf8 chars encode slice fold caseless
inline_code_of_two_line_endings-means = refl

abbrev inline_code_of_a_line_ending_of_two_bytes : Forest
inline_code_of_a_line_ending_of_two_bytes = (span n.CodeText (at 1 1 0) (at 2 2 4) (span n.CodeTextSequence (at 1 1 0) (at 1 2 1) empty (span n.LineEnding (at 1 2 1) (at 2 1 3) empty (span n.CodeTextSequence (at 2 1 3) (at 2 2 4) empty empty))) empty)

inline_code_of_a_line_ending_of_two_bytes-accepted : Accepted (over (96 ∷ 13 ∷ 10 ∷ 96 ∷ [])) inline_code_of_a_line_ending_of_two_bytes
unfolding is_utf8 chars encode slice fold caseless
inline_code_of_a_line_ending_of_two_bytes-accepted = conditions-hold (over (96 ∷ 13 ∷ 10 ∷ 96 ∷ [])) inline_code_of_a_line_ending_of_two_bytes refl

inline_code_of_a_line_ending_of_two_bytes-means : only (meaning (over (96 ∷ 13 ∷ 10 ∷ 96 ∷ [])) inline_code_of_a_line_ending_of_two_bytes) ≡ (node t.root (node (t.inline_code (32 ∷ [])) nothing (position 1 1 0 2 2 4) nothing) (position 1 1 0 2 2 4) nothing)
unfolding is_utf8 chars encode slice fold caseless
inline_code_of_a_line_ending_of_two_bytes-means = refl

abbrev line_endings_around_inline_math : Forest
line_endings_around_inline_math = (span n.MathText (at 1 1 0) (at 3 2 5) (span n.MathTextSequence (at 1 1 0) (at 1 2 1) empty (span n.LineEnding (at 1 2 1) (at 2 1 2) empty (span n.MathTextData (at 2 1 2) (at 2 2 3) empty (span n.LineEnding (at 2 2 3) (at 3 1 4) empty (span n.MathTextSequence (at 3 1 4) (at 3 2 5) empty empty))))) empty)

line_endings_around_inline_math-accepted : Accepted (over (36 ∷ 10 ∷ 97 ∷ 10 ∷ 36 ∷ [])) line_endings_around_inline_math
unfolding is_utf8 chars encode slice fold caseless
line_endings_around_inline_math-accepted = conditions-hold (over (36 ∷ 10 ∷ 97 ∷ 10 ∷ 36 ∷ [])) line_endings_around_inline_math refl

line_endings_around_inline_math-means : only (meaning (over (36 ∷ 10 ∷ 97 ∷ 10 ∷ 36 ∷ [])) line_endings_around_inline_math) ≡ (node t.root (node (t.inline_math (97 ∷ [])) nothing (position 1 1 0 3 2 5) nothing) (position 1 1 0 3 2 5) nothing)
unfolding is_utf8 chars encode slice fold caseless
line_endings_around_inline_math-means = refl
