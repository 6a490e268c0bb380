-- Rows of crates/mdast_replay/data/rows.txt, by computation. scripts/rows writes this file.
use Rattle.std.proofs.Common.{◌≡◌, true, false, [], ◌∷◌, None, Some, refl}
use Rattle.std.specs.Prelude.{codes}
use Rattle.std.specs.Str.{is_utf8, chars}
use lib.Utf8.{encode}
use Rattle.caseless.proofs.Computing.{caseless}
use Rattle.markdown_events.specs.declared.event.Name.TheVariants as n
use Rattle.markdown_events.specs.Forest.{Forest, empty, span, events_of}
use Rattle.markdown_events.specs.Slices.{slice}
use Rattle.markdown_events.specs.Texts.{fold}
use Rattle.markdown_nodes.specs.Tree.{node, nothing, only}
use Rattle.markdown_nodes.specs.Tree as t
use Rattle.markdown_grammar.specs.Accepted.{Accepted}
use Rattle.markdown_steps.proofs.Conditions.{conditions-hold, conditions-fail}
use Rattle.markdown_steps.specs.Compiler.{compiled, enter_step, exit_step, leave, run}
use Rattle.markdown_grammar.specs.Meaning.{meaning}
use Rattle.markdown_steps.proofs.RowWords.{at, at_spaces, position, over, over_whole, error_kind, error_kind_of}

abbrev code_in_a_list_item_by_tabs : Forest
code_in_a_list_item_by_tabs = (span n.ListUnordered (at 1 1 0) (at_spaces 3 12 12 0) (span n.ListItem (at 1 1 0) (at_spaces 3 12 12 0) (span n.ListItemPrefix (at 1 1 0) (at 1 3 2) empty (span n.Paragraph (at 1 3 2) (at 1 6 5) (span n.Data (at 1 3 2) (at 1 6 5) empty empty) (span n.LineEnding (at 1 6 5) (at 2 1 6) empty (span n.BlankLineEnding (at 2 1 6) (at 3 1 7) empty (span n.SpaceOrTab (at_spaces 3 1 7 0) (at_spaces 3 3 7 2) empty (span n.CodeIndented (at_spaces 3 3 7 2) (at_spaces 3 12 12 0) (span n.SpaceOrTab (at_spaces 3 3 7 2) (at_spaces 3 7 8 2) empty (span n.CodeFlowChunk (at_spaces 3 7 8 2) (at_spaces 3 12 12 0) empty empty)) empty)))))) empty) empty)

code_in_a_list_item_by_tabs-accepted : Accepted (over (45 ∷ 32 ∷ 102 ∷ 111 ∷ 111 ∷ 10 ∷ 10 ∷ 9 ∷ 9 ∷ 98 ∷ 97 ∷ 114 ∷ [])) code_in_a_list_item_by_tabs
unfolding is_utf8 chars encode slice fold caseless
code_in_a_list_item_by_tabs-accepted = conditions-hold (over (45 ∷ 32 ∷ 102 ∷ 111 ∷ 111 ∷ 10 ∷ 10 ∷ 9 ∷ 9 ∷ 98 ∷ 97 ∷ 114 ∷ [])) code_in_a_list_item_by_tabs refl

code_in_a_list_item_by_tabs-means : only (meaning (over (45 ∷ 32 ∷ 102 ∷ 111 ∷ 111 ∷ 10 ∷ 10 ∷ 9 ∷ 9 ∷ 98 ∷ 97 ∷ 114 ∷ [])) code_in_a_list_item_by_tabs) ≡ (node t.root (node (t.list false None false) (node (t.list_item true None) (node t.paragraph (node (t.text (102 ∷ 111 ∷ 111 ∷ [])) nothing (position 1 3 2 1 6 5) nothing) (position 1 3 2 1 6 5) (node (t.code (98 ∷ 97 ∷ 114 ∷ []) None None) nothing (position 3 3 7 3 12 12) nothing)) (position 1 1 0 3 12 12) nothing) (position 1 1 0 3 12 12) nothing) (position 1 1 0 3 12 12) nothing)
unfolding is_utf8 chars encode slice fold caseless
code_in_a_list_item_by_tabs-means = refl

abbrev whole_code_in_a_list_item_by_tabs : Forest
whole_code_in_a_list_item_by_tabs = (span n.ListUnordered (at 1 1 0) (at_spaces 3 12 12 0) (span n.ListItem (at 1 1 0) (at_spaces 3 12 12 0) (span n.ListItemPrefix (at 1 1 0) (at 1 3 2) empty (span n.Paragraph (at 1 3 2) (at 1 6 5) (span n.Data (at 1 3 2) (at 1 6 5) empty empty) (span n.LineEnding (at 1 6 5) (at 2 1 6) empty (span n.BlankLineEnding (at 2 1 6) (at 3 1 7) empty (span n.SpaceOrTab (at_spaces 3 1 7 0) (at_spaces 3 3 7 2) empty (span n.CodeIndented (at_spaces 3 3 7 2) (at_spaces 3 12 12 0) (span n.SpaceOrTab (at_spaces 3 3 7 2) (at_spaces 3 7 8 2) empty (span n.CodeFlowChunk (at_spaces 3 7 8 2) (at_spaces 3 12 12 0) empty empty)) empty)))))) empty) empty)

whole_code_in_a_list_item_by_tabs-accepted : Accepted (over_whole (45 ∷ 32 ∷ 102 ∷ 111 ∷ 111 ∷ 10 ∷ 10 ∷ 9 ∷ 9 ∷ 98 ∷ 97 ∷ 114 ∷ [])) whole_code_in_a_list_item_by_tabs
unfolding is_utf8 chars encode slice fold caseless
whole_code_in_a_list_item_by_tabs-accepted = conditions-hold (over_whole (45 ∷ 32 ∷ 102 ∷ 111 ∷ 111 ∷ 10 ∷ 10 ∷ 9 ∷ 9 ∷ 98 ∷ 97 ∷ 114 ∷ [])) whole_code_in_a_list_item_by_tabs refl

whole_code_in_a_list_item_by_tabs-means : only (meaning (over_whole (45 ∷ 32 ∷ 102 ∷ 111 ∷ 111 ∷ 10 ∷ 10 ∷ 9 ∷ 9 ∷ 98 ∷ 97 ∷ 114 ∷ [])) whole_code_in_a_list_item_by_tabs) ≡ (node t.root (node (t.list false None false) (node (t.list_item true None) (node t.paragraph (node (t.text (102 ∷ 111 ∷ 111 ∷ [])) nothing (position 1 3 2 1 6 5) nothing) (position 1 3 2 1 6 5) (node (t.code (32 ∷ 32 ∷ 98 ∷ 97 ∷ 114 ∷ []) None None) nothing (position 3 3 7 3 12 12) nothing)) (position 1 1 0 3 12 12) nothing) (position 1 1 0 3 12 12) nothing) (position 1 1 0 3 12 12) nothing)
unfolding is_utf8 chars encode slice fold caseless
whole_code_in_a_list_item_by_tabs-means = refl

abbrev whole_code_in_a_block_quote_by_tabs : Forest
whole_code_in_a_block_quote_by_tabs = (span n.BlockQuote (at 1 1 0) (at_spaces 1 12 6 0) (span n.BlockQuotePrefix (at 1 1 0) (at_spaces 1 3 1 1) (span n.BlockQuoteMarker (at 1 1 0) (at 1 2 1) empty (span n.SpaceOrTab (at 1 2 1) (at_spaces 1 3 1 1) empty empty)) (span n.CodeIndented (at_spaces 1 3 1 1) (at_spaces 1 12 6 0) (span n.SpaceOrTab (at_spaces 1 3 1 1) (at_spaces 1 7 2 2) empty (span n.CodeFlowChunk (at_spaces 1 7 2 2) (at_spaces 1 12 6 0) empty empty)) empty)) empty)

whole_code_in_a_block_quote_by_tabs-accepted : Accepted (over_whole (62 ∷ 9 ∷ 9 ∷ 102 ∷ 111 ∷ 111 ∷ [])) whole_code_in_a_block_quote_by_tabs
unfolding is_utf8 chars encode slice fold caseless
whole_code_in_a_block_quote_by_tabs-accepted = conditions-hold (over_whole (62 ∷ 9 ∷ 9 ∷ 102 ∷ 111 ∷ 111 ∷ [])) whole_code_in_a_block_quote_by_tabs refl

whole_code_in_a_block_quote_by_tabs-means : only (meaning (over_whole (62 ∷ 9 ∷ 9 ∷ 102 ∷ 111 ∷ 111 ∷ [])) whole_code_in_a_block_quote_by_tabs) ≡ (node t.root (node t.blockquote (node (t.code (32 ∷ 32 ∷ 102 ∷ 111 ∷ 111 ∷ []) None None) nothing (position 1 3 1 1 12 6) nothing) (position 1 1 0 1 12 6) nothing) (position 1 1 0 1 12 6) nothing)
unfolding is_utf8 chars encode slice fold caseless
whole_code_in_a_block_quote_by_tabs-means = refl

abbrev whole_code_first_in_a_list_item_by_tabs : Forest
whole_code_first_in_a_list_item_by_tabs = (span n.ListUnordered (at 1 1 0) (at_spaces 1 12 6 0) (span n.ListItem (at 1 1 0) (at_spaces 1 12 6 0) (span n.ListItemPrefix (at 1 1 0) (at_spaces 1 3 1 1) (span n.ListItemMarker (at 1 1 0) (at 1 2 1) empty (span n.SpaceOrTab (at 1 2 1) (at_spaces 1 3 1 1) empty empty)) (span n.CodeIndented (at_spaces 1 3 1 1) (at_spaces 1 12 6 0) (span n.SpaceOrTab (at_spaces 1 3 1 1) (at_spaces 1 7 2 2) empty (span n.CodeFlowChunk (at_spaces 1 7 2 2) (at_spaces 1 12 6 0) empty empty)) empty)) empty) empty)

whole_code_first_in_a_list_item_by_tabs-accepted : Accepted (over_whole (45 ∷ 9 ∷ 9 ∷ 102 ∷ 111 ∷ 111 ∷ [])) whole_code_first_in_a_list_item_by_tabs
unfolding is_utf8 chars encode slice fold caseless
whole_code_first_in_a_list_item_by_tabs-accepted = conditions-hold (over_whole (45 ∷ 9 ∷ 9 ∷ 102 ∷ 111 ∷ 111 ∷ [])) whole_code_first_in_a_list_item_by_tabs refl

whole_code_first_in_a_list_item_by_tabs-means : only (meaning (over_whole (45 ∷ 9 ∷ 9 ∷ 102 ∷ 111 ∷ 111 ∷ [])) whole_code_first_in_a_list_item_by_tabs) ≡ (node t.root (node (t.list false None false) (node (t.list_item false None) (node (t.code (32 ∷ 32 ∷ 102 ∷ 111 ∷ 111 ∷ []) None None) nothing (position 1 3 1 1 12 6) nothing) (position 1 1 0 1 12 6) nothing) (position 1 1 0 1 12 6) nothing) (position 1 1 0 1 12 6) nothing)
unfolding is_utf8 chars encode slice fold caseless
whole_code_first_in_a_list_item_by_tabs-means = refl

abbrev a_whole_fence_in_an_item_with_a_tab_at_each_column : Forest
a_whole_fence_in_an_item_with_a_tab_at_each_column = (span n.ListUnordered (at 1 1 0) (at 6 6 29) (span n.ListItem (at 1 1 0) (at 6 6 29) (span n.ListItemPrefix (at 1 1 0) (at 1 3 2) empty (span n.CodeFenced (at 1 3 2) (at 6 6 29) (span n.CodeFencedFence (at 1 3 2) (at 1 6 5) empty (span n.LineEnding (at 1 6 5) (at 2 1 6) empty (span n.SpaceOrTab (at_spaces 2 1 6 0) (at_spaces 2 3 6 2) empty (span n.CodeFlowChunk (at_spaces 2 3 6 2) (at_spaces 2 6 8 0) empty (span n.LineEnding (at_spaces 2 6 8 0) (at 3 1 9) empty (span n.SpaceOrTab (at_spaces 3 1 9 0) (at_spaces 3 3 10 1) empty (span n.CodeFlowChunk (at_spaces 3 3 10 1) (at_spaces 3 6 12 0) empty (span n.LineEnding (at_spaces 3 6 12 0) (at 4 1 13) empty (span n.SpaceOrTab (at 4 1 13) (at 4 3 15) empty (span n.CodeFlowChunk (at 4 3 15) (at_spaces 4 6 17 0) empty (span n.LineEnding (at_spaces 4 6 17 0) (at 5 1 18) empty (span n.SpaceOrTab (at 5 1 18) (at 5 3 20) empty (span n.CodeFlowChunk (at 5 3 20) (at_spaces 5 6 23 0) empty (span n.LineEnding (at_spaces 5 6 23 0) (at 6 1 24) empty (span n.SpaceOrTab (at 6 1 24) (at 6 3 26) empty (span n.CodeFencedFence (at 6 3 26) (at 6 6 29) empty empty)))))))))))))))) empty)) empty) empty)

a_whole_fence_in_an_item_with_a_tab_at_each_column-accepted : Accepted (over_whole (45 ∷ 32 ∷ 126 ∷ 126 ∷ 126 ∷ 10 ∷ 9 ∷ 97 ∷ 10 ∷ 32 ∷ 9 ∷ 98 ∷ 10 ∷ 32 ∷ 32 ∷ 9 ∷ 99 ∷ 10 ∷ 32 ∷ 32 ∷ 32 ∷ 9 ∷ 100 ∷ 10 ∷ 32 ∷ 32 ∷ 126 ∷ 126 ∷ 126 ∷ [])) a_whole_fence_in_an_item_with_a_tab_at_each_column
unfolding is_utf8 chars encode slice fold caseless
a_whole_fence_in_an_item_with_a_tab_at_each_column-accepted = conditions-hold (over_whole (45 ∷ 32 ∷ 126 ∷ 126 ∷ 126 ∷ 10 ∷ 9 ∷ 97 ∷ 10 ∷ 32 ∷ 9 ∷ 98 ∷ 10 ∷ 32 ∷ 32 ∷ 9 ∷ 99 ∷ 10 ∷ 32 ∷ 32 ∷ 32 ∷ 9 ∷ 100 ∷ 10 ∷ 32 ∷ 32 ∷ 126 ∷ 126 ∷ 126 ∷ [])) a_whole_fence_in_an_item_with_a_tab_at_each_column refl

a_whole_fence_in_an_item_with_a_tab_at_each_column-means : only (meaning (over_whole (45 ∷ 32 ∷ 126 ∷ 126 ∷ 126 ∷ 10 ∷ 9 ∷ 97 ∷ 10 ∷ 32 ∷ 9 ∷ 98 ∷ 10 ∷ 32 ∷ 32 ∷ 9 ∷ 99 ∷ 10 ∷ 32 ∷ 32 ∷ 32 ∷ 9 ∷ 100 ∷ 10 ∷ 32 ∷ 32 ∷ 126 ∷ 126 ∷ 126 ∷ [])) a_whole_fence_in_an_item_with_a_tab_at_each_column) ≡ (node t.root (node (t.list false None false) (node (t.list_item false None) (node (t.code (32 ∷ 32 ∷ 97 ∷ 10 ∷ 32 ∷ 32 ∷ 98 ∷ 10 ∷ 9 ∷ 99 ∷ 10 ∷ 32 ∷ 9 ∷ 100 ∷ []) None None) nothing (position 1 3 2 6 6 29) nothing) (position 1 1 0 6 6 29) nothing) (position 1 1 0 6 6 29) nothing) (position 1 1 0 6 6 29) nothing)
unfolding is_utf8 chars encode slice fold caseless
a_whole_fence_in_an_item_with_a_tab_at_each_column-means = refl

abbrev a_tab_that_two_items_share_leaves_no_column : Forest
a_tab_that_two_items_share_leaves_no_column = (span n.ListUnordered (at 1 1 0) (at_spaces 2 6 10 0) (span n.ListItem (at 1 1 0) (at_spaces 2 6 10 0) (span n.ListItemPrefix (at 1 1 0) (at 1 3 2) empty (span n.ListUnordered (at 1 3 2) (at_spaces 2 6 10 0) (span n.ListItem (at 1 3 2) (at_spaces 2 6 10 0) (span n.ListItemPrefix (at 1 3 2) (at 1 5 4) empty (span n.CodeFenced (at 1 5 4) (at_spaces 2 6 10 0) (span n.CodeFencedFence (at 1 5 4) (at 1 8 7) empty (span n.LineEnding (at 1 8 7) (at 2 1 8) empty (span n.SpaceOrTab (at_spaces 2 1 8 0) (at_spaces 2 3 8 2) empty (span n.SpaceOrTab (at_spaces 2 3 8 2) (at_spaces 2 5 9 0) empty (span n.CodeFlowChunk (at_spaces 2 5 9 0) (at_spaces 2 6 10 0) empty empty))))) empty)) empty) empty)) empty) empty)

a_tab_that_two_items_share_leaves_no_column-accepted : Accepted (over_whole (45 ∷ 32 ∷ 45 ∷ 32 ∷ 126 ∷ 126 ∷ 126 ∷ 10 ∷ 9 ∷ 97 ∷ [])) a_tab_that_two_items_share_leaves_no_column
unfolding is_utf8 chars encode slice fold caseless
a_tab_that_two_items_share_leaves_no_column-accepted = conditions-hold (over_whole (45 ∷ 32 ∷ 45 ∷ 32 ∷ 126 ∷ 126 ∷ 126 ∷ 10 ∷ 9 ∷ 97 ∷ [])) a_tab_that_two_items_share_leaves_no_column refl

a_tab_that_two_items_share_leaves_no_column-means : only (meaning (over_whole (45 ∷ 32 ∷ 45 ∷ 32 ∷ 126 ∷ 126 ∷ 126 ∷ 10 ∷ 9 ∷ 97 ∷ [])) a_tab_that_two_items_share_leaves_no_column) ≡ (node t.root (node (t.list false None false) (node (t.list_item false None) (node (t.list false None false) (node (t.list_item false None) (node (t.code (97 ∷ []) None None) nothing (position 1 5 4 2 6 10) nothing) (position 1 3 2 2 6 10) nothing) (position 1 3 2 2 6 10) nothing) (position 1 1 0 2 6 10) nothing) (position 1 1 0 2 6 10) nothing) (position 1 1 0 2 6 10) nothing)
unfolding is_utf8 chars encode slice fold caseless
a_tab_that_two_items_share_leaves_no_column-means = refl

abbrev a_tab_that_two_quotes_share_leaves_a_column : Forest
a_tab_that_two_quotes_share_leaves_a_column = (span n.BlockQuote (at 1 1 0) (at_spaces 1 6 4 0) (span n.BlockQuotePrefix (at 1 1 0) (at 1 2 1) empty (span n.BlockQuote (at 1 2 1) (at_spaces 1 6 4 0) (span n.BlockQuotePrefix (at 1 2 1) (at_spaces 1 4 2 1) (span n.BlockQuoteMarker (at 1 2 1) (at 1 3 2) empty (span n.SpaceOrTab (at 1 3 2) (at_spaces 1 4 2 1) empty empty)) (span n.HtmlFlow (at_spaces 1 4 2 1) (at_spaces 1 6 4 0) (span n.HtmlFlowData (at_spaces 1 4 2 1) (at_spaces 1 6 4 0) empty empty) empty)) empty)) empty)

a_tab_that_two_quotes_share_leaves_a_column-accepted : Accepted (over_whole (62 ∷ 62 ∷ 9 ∷ 97 ∷ [])) a_tab_that_two_quotes_share_leaves_a_column
unfolding is_utf8 chars encode slice fold caseless
a_tab_that_two_quotes_share_leaves_a_column-accepted = conditions-hold (over_whole (62 ∷ 62 ∷ 9 ∷ 97 ∷ [])) a_tab_that_two_quotes_share_leaves_a_column refl

a_tab_that_two_quotes_share_leaves_a_column-means : only (meaning (over_whole (62 ∷ 62 ∷ 9 ∷ 97 ∷ [])) a_tab_that_two_quotes_share_leaves_a_column) ≡ (node t.root (node t.blockquote (node t.blockquote (node (t.html (32 ∷ 97 ∷ [])) nothing (position 1 4 2 1 6 4) nothing) (position 1 2 1 1 6 4) nothing) (position 1 1 0 1 6 4) nothing) (position 1 1 0 1 6 4) nothing)
unfolding is_utf8 chars encode slice fold caseless
a_tab_that_two_quotes_share_leaves_a_column-means = refl

abbrev whole_inline_code_over_a_line_that_begins_in_a_tab : Forest
whole_inline_code_over_a_line_that_begins_in_a_tab = (span n.CodeText (at 1 3 2) (at_spaces 2 7 8 0) (span n.CodeTextSequence (at 1 3 2) (at 1 4 3) empty (span n.CodeTextData (at 1 4 3) (at 1 5 4) empty (span n.LineEnding (at 1 5 4) (at 2 1 5) empty (span n.CodeTextData (at_spaces 2 3 5 2) (at_spaces 2 6 7 0) empty (span n.CodeTextSequence (at_spaces 2 6 7 0) (at_spaces 2 7 8 0) empty empty))))) empty)

whole_inline_code_over_a_line_that_begins_in_a_tab-accepted : Accepted (over_whole (45 ∷ 32 ∷ 96 ∷ 97 ∷ 10 ∷ 9 ∷ 98 ∷ 96 ∷ [])) whole_inline_code_over_a_line_that_begins_in_a_tab
unfolding is_utf8 chars encode slice fold caseless
whole_inline_code_over_a_line_that_begins_in_a_tab-accepted = conditions-hold (over_whole (45 ∷ 32 ∷ 96 ∷ 97 ∷ 10 ∷ 9 ∷ 98 ∷ 96 ∷ [])) whole_inline_code_over_a_line_that_begins_in_a_tab refl

whole_inline_code_over_a_line_that_begins_in_a_tab-means : only (meaning (over_whole (45 ∷ 32 ∷ 96 ∷ 97 ∷ 10 ∷ 9 ∷ 98 ∷ 96 ∷ [])) whole_inline_code_over_a_line_that_begins_in_a_tab) ≡ (node t.root (node (t.inline_code (97 ∷ 32 ∷ 32 ∷ 32 ∷ 98 ∷ [])) nothing (position 1 3 2 2 7 8) nothing) (position 1 3 2 2 7 8) nothing)
unfolding is_utf8 chars encode slice fold caseless
whole_inline_code_over_a_line_that_begins_in_a_tab-means = refl

abbrev data_that_ends_in_a_tab_has_its_columns_up_to_there : Forest
data_that_ends_in_a_tab_has_its_columns_up_to_there = (span n.Data (at 1 1 0) (at_spaces 1 4 1 2) empty empty)

data_that_ends_in_a_tab_has_its_columns_up_to_there-accepted : Accepted (over_whole (97 ∷ 9 ∷ 98 ∷ [])) data_that_ends_in_a_tab_has_its_columns_up_to_there
unfolding is_utf8 chars encode slice fold caseless
data_that_ends_in_a_tab_has_its_columns_up_to_there-accepted = conditions-hold (over_whole (97 ∷ 9 ∷ 98 ∷ [])) data_that_ends_in_a_tab_has_its_columns_up_to_there refl

data_that_ends_in_a_tab_has_its_columns_up_to_there-means : only (meaning (over_whole (97 ∷ 9 ∷ 98 ∷ [])) data_that_ends_in_a_tab_has_its_columns_up_to_there) ≡ (node t.root (node (t.text (97 ∷ 32 ∷ 32 ∷ [])) nothing (position 1 1 0 1 4 1) nothing) (position 1 1 0 1 4 1) nothing)
unfolding is_utf8 chars encode slice fold caseless
data_that_ends_in_a_tab_has_its_columns_up_to_there-means = refl

abbrev data_within_a_tab_has_the_columns_between : Forest
data_within_a_tab_has_the_columns_between = (span n.Data (at_spaces 1 2 0 1) (at_spaces 1 4 0 3) empty empty)

data_within_a_tab_has_the_columns_between-accepted : Accepted (over_whole (9 ∷ 97 ∷ [])) data_within_a_tab_has_the_columns_between
unfolding is_utf8 chars encode slice fold caseless
data_within_a_tab_has_the_columns_between-accepted = conditions-hold (over_whole (9 ∷ 97 ∷ [])) data_within_a_tab_has_the_columns_between refl

data_within_a_tab_has_the_columns_between-means : only (meaning (over_whole (9 ∷ 97 ∷ [])) data_within_a_tab_has_the_columns_between) ≡ (node t.root (node (t.text (32 ∷ 32 ∷ [])) nothing (position 1 2 0 1 4 0) nothing) (position 1 2 0 1 4 0) nothing)
unfolding is_utf8 chars encode slice fold caseless
data_within_a_tab_has_the_columns_between-means = refl

abbrev a_nul_in_a_text : Forest
a_nul_in_a_text = (span n.Data (at 1 1 0) (at 1 4 3) empty empty)

a_nul_in_a_text-accepted : Accepted (over (97 ∷ 0 ∷ 98 ∷ [])) a_nul_in_a_text
unfolding is_utf8 chars encode slice fold caseless
a_nul_in_a_text-accepted = conditions-hold (over (97 ∷ 0 ∷ 98 ∷ [])) a_nul_in_a_text refl

a_nul_in_a_text-means : only (meaning (over (97 ∷ 0 ∷ 98 ∷ [])) a_nul_in_a_text) ≡ (node t.root (node (t.text (97 ∷ 0 ∷ 98 ∷ [])) nothing (position 1 1 0 1 4 3) nothing) (position 1 1 0 1 4 3) nothing)
unfolding is_utf8 chars encode slice fold caseless
a_nul_in_a_text-means = refl

abbrev a_nul_in_a_whole_text : Forest
a_nul_in_a_whole_text = (span n.Data (at 1 1 0) (at 1 5 4) empty empty)

a_nul_in_a_whole_text-accepted : Accepted (over_whole (97 ∷ 0 ∷ 98 ∷ 0 ∷ [])) a_nul_in_a_whole_text
unfolding is_utf8 chars encode slice fold caseless
a_nul_in_a_whole_text-accepted = conditions-hold (over_whole (97 ∷ 0 ∷ 98 ∷ 0 ∷ [])) a_nul_in_a_whole_text refl

a_nul_in_a_whole_text-means : only (meaning (over_whole (97 ∷ 0 ∷ 98 ∷ 0 ∷ [])) a_nul_in_a_whole_text) ≡ (node t.root (node (t.text (97 ∷ 239 ∷ 191 ∷ 189 ∷ 98 ∷ 239 ∷ 191 ∷ 189 ∷ [])) nothing (position 1 1 0 1 5 4) nothing) (position 1 1 0 1 5 4) nothing)
unfolding is_utf8 chars encode slice fold caseless
a_nul_in_a_whole_text-means = refl

abbrev a_nul_in_whole_code : Forest
a_nul_in_whole_code = (span n.CodeText (at 1 1 0) (at 1 4 3) (span n.CodeTextSequence (at 1 1 0) (at 1 2 1) empty (span n.CodeTextData (at 1 2 1) (at 1 3 2) empty (span n.CodeTextSequence (at 1 3 2) (at 1 4 3) empty empty))) empty)

a_nul_in_whole_code-accepted : Accepted (over_whole (96 ∷ 0 ∷ 96 ∷ [])) a_nul_in_whole_code
unfolding is_utf8 chars encode slice fold caseless
a_nul_in_whole_code-accepted = conditions-hold (over_whole (96 ∷ 0 ∷ 96 ∷ [])) a_nul_in_whole_code refl

a_nul_in_whole_code-means : only (meaning (over_whole (96 ∷ 0 ∷ 96 ∷ [])) a_nul_in_whole_code) ≡ (node t.root (node (t.inline_code (239 ∷ 191 ∷ 189 ∷ [])) nothing (position 1 1 0 1 4 3) nothing) (position 1 1 0 1 4 3) nothing)
unfolding is_utf8 chars encode slice fold caseless
a_nul_in_whole_code-means = refl

abbrev a_nul_in_a_whole_heading : Forest
a_nul_in_a_whole_heading = (span n.HeadingAtx (at 1 1 0) (at 1 4 3) (span n.HeadingAtxSequence (at 1 1 0) (at 1 2 1) empty (span n.SpaceOrTab (at 1 2 1) (at 1 3 2) empty (span n.HeadingAtxText (at 1 3 2) (at 1 4 3) (span n.Data (at 1 3 2) (at 1 4 3) empty empty) empty))) empty)

a_nul_in_a_whole_heading-accepted : Accepted (over_whole (35 ∷ 32 ∷ 0 ∷ [])) a_nul_in_a_whole_heading
unfolding is_utf8 chars encode slice fold caseless
a_nul_in_a_whole_heading-accepted = conditions-hold (over_whole (35 ∷ 32 ∷ 0 ∷ [])) a_nul_in_a_whole_heading refl

a_nul_in_a_whole_heading-means : only (meaning (over_whole (35 ∷ 32 ∷ 0 ∷ [])) a_nul_in_a_whole_heading) ≡ (node t.root (node (t.heading 1) (node (t.text (239 ∷ 191 ∷ 189 ∷ [])) nothing (position 1 3 2 1 4 3) nothing) (position 1 1 0 1 4 3) nothing) (position 1 1 0 1 4 3) nothing)
unfolding is_utf8 chars encode slice fold caseless
a_nul_in_a_whole_heading-means = refl

abbrev a_nul_in_a_whole_title : Forest
a_nul_in_a_whole_title = (span n.Definition (at 1 1 0) (at 1 11 10) (span n.DefinitionLabelString (at 1 2 1) (at 1 3 2) (span n.Data (at 1 2 1) (at 1 3 2) empty empty) (span n.DefinitionDestinationString (at 1 6 5) (at 1 7 6) (span n.Data (at 1 6 5) (at 1 7 6) empty empty) (span n.DefinitionTitleString (at 1 9 8) (at 1 10 9) (span n.Data (at 1 9 8) (at 1 10 9) empty empty) empty))) empty)

a_nul_in_a_whole_title-accepted : Accepted (over_whole (91 ∷ 97 ∷ 93 ∷ 58 ∷ 32 ∷ 98 ∷ 32 ∷ 34 ∷ 0 ∷ 34 ∷ [])) a_nul_in_a_whole_title
unfolding is_utf8 chars encode slice fold caseless
a_nul_in_a_whole_title-accepted = conditions-hold (over_whole (91 ∷ 97 ∷ 93 ∷ 58 ∷ 32 ∷ 98 ∷ 32 ∷ 34 ∷ 0 ∷ 34 ∷ [])) a_nul_in_a_whole_title refl

a_nul_in_a_whole_title-means : only (meaning (over_whole (91 ∷ 97 ∷ 93 ∷ 58 ∷ 32 ∷ 98 ∷ 32 ∷ 34 ∷ 0 ∷ 34 ∷ [])) a_nul_in_a_whole_title) ≡ (node t.root (node (t.definition (98 ∷ []) (Some (239 ∷ 191 ∷ 189 ∷ [])) (97 ∷ []) (Some (97 ∷ []))) nothing (position 1 1 0 1 11 10) nothing) (position 1 1 0 1 11 10) nothing)
unfolding is_utf8 chars encode slice fold caseless
a_nul_in_a_whole_title-means = refl

abbrev a_nul_in_a_whole_label_and_not_in_its_identifier : Forest
a_nul_in_a_whole_label_and_not_in_its_identifier = (span n.Definition (at 1 1 0) (at 1 7 6) (span n.DefinitionLabelString (at 1 2 1) (at 1 3 2) (span n.Data (at 1 2 1) (at 1 3 2) empty empty) (span n.DefinitionDestinationString (at 1 6 5) (at 1 7 6) (span n.Data (at 1 6 5) (at 1 7 6) empty empty) empty)) empty)

a_nul_in_a_whole_label_and_not_in_its_identifier-accepted : Accepted (over_whole (91 ∷ 0 ∷ 93 ∷ 58 ∷ 32 ∷ 98 ∷ [])) a_nul_in_a_whole_label_and_not_in_its_identifier
unfolding is_utf8 chars encode slice fold caseless
a_nul_in_a_whole_label_and_not_in_its_identifier-accepted = conditions-hold (over_whole (91 ∷ 0 ∷ 93 ∷ 58 ∷ 32 ∷ 98 ∷ [])) a_nul_in_a_whole_label_and_not_in_its_identifier refl

a_nul_in_a_whole_label_and_not_in_its_identifier-means : only (meaning (over_whole (91 ∷ 0 ∷ 93 ∷ 58 ∷ 32 ∷ 98 ∷ [])) a_nul_in_a_whole_label_and_not_in_its_identifier) ≡ (node t.root (node (t.definition (98 ∷ []) None (0 ∷ []) (Some (239 ∷ 191 ∷ 189 ∷ []))) nothing (position 1 1 0 1 7 6) nothing) (position 1 1 0 1 7 6) nothing)
unfolding is_utf8 chars encode slice fold caseless
a_nul_in_a_whole_label_and_not_in_its_identifier-means = refl

abbrev a_nul_in_a_whole_autolink : Forest
a_nul_in_a_whole_autolink = (span n.Autolink (at 1 1 0) (at 1 6 5) (span n.AutolinkProtocol (at 1 2 1) (at 1 5 4) empty empty) empty)

a_nul_in_a_whole_autolink-accepted : Accepted (over_whole (60 ∷ 97 ∷ 58 ∷ 0 ∷ 62 ∷ [])) a_nul_in_a_whole_autolink
unfolding is_utf8 chars encode slice fold caseless
a_nul_in_a_whole_autolink-accepted = conditions-hold (over_whole (60 ∷ 97 ∷ 58 ∷ 0 ∷ 62 ∷ [])) a_nul_in_a_whole_autolink refl

a_nul_in_a_whole_autolink-means : only (meaning (over_whole (60 ∷ 97 ∷ 58 ∷ 0 ∷ 62 ∷ [])) a_nul_in_a_whole_autolink) ≡ (node t.root (node (t.link (97 ∷ 58 ∷ 239 ∷ 191 ∷ 189 ∷ []) None) (node (t.text (97 ∷ 58 ∷ 239 ∷ 191 ∷ 189 ∷ [])) nothing (position 1 2 1 1 5 4) nothing) (position 1 1 0 1 6 5) nothing) (position 1 1 0 1 6 5) nothing)
unfolding is_utf8 chars encode slice fold caseless
a_nul_in_a_whole_autolink-means = refl

abbrev a_whole_value_is_refused_as_any_other : Forest
a_whole_value_is_refused_as_any_other = (span n.Paragraph (at 1 1 0) (at 1 3 2) (span n.Data (at 1 1 0) (at 1 2 1) empty empty) empty)

a_whole_value_is_refused_as_any_other-accepted : ¬ (Accepted (over_whole (195 ∷ 169 ∷ [])) a_whole_value_is_refused_as_any_other)
unfolding is_utf8 chars encode slice fold caseless
a_whole_value_is_refused_as_any_other-accepted = conditions-fail (over_whole (195 ∷ 169 ∷ [])) a_whole_value_is_refused_as_any_other refl

a_whole_value_is_refused_as_any_other-refused : error_kind_of (compiled (over_whole (195 ∷ 169 ∷ [])) (events_of a_whole_value_is_refused_as_any_other)) ≡ error_kind (codes "slice-invalid") 1 2 1
unfolding is_utf8 chars encode slice fold caseless run enter_step exit_step leave
a_whole_value_is_refused_as_any_other-refused = refl
