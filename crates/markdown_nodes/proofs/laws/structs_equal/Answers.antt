use Rattle.markdown_nodes.proofs.StructsEqual.{nodes_decide, texts_decide, Root-equal, Blockquote-equal, FootnoteDefinition-equal, List-equal, Toml-equal, Yaml-equal, Break-equal, InlineCode-equal, InlineMath-equal, Delete-equal, Emphasis-equal, FootnoteReference-equal, Html-equal, Image-equal, ImageReference-equal, Link-equal, LinkReference-equal, Strong-equal, Text-equal, Code-equal, Math-equal, Heading-equal, Table-equal, ThematicBreak-equal, TableRow-equal, TableCell-equal, ListItem-equal, Definition-equal, Paragraph-equal}
use Rattle.std.proofs.Common.{rules}
use Rattle.std.specs.Cmp.{booleans_Decides}
use Rattle.std.specs.Cmp.Lexicographic.{bytes_decides, pointwise_decides}
use Rattle.std.proofs.lemmas.Bool.Decides.{Decides-eqb}
use Rattle.markdown_nodes.specs.EqualityLaws.{checks_decide, places_decide, starts_decide}
use Rattle.markdown_nodes.proofs.laws.structs_equal.Goals as goal

pub returns-clause-root_equal : goal.returns-clause-root_equal
returns-clause-root_equal c = λ a b. Root-equal a b _ _ (nodes_decide _ _) (places_decide a.position b.position)

pub returns-clause-blockquote_equal : goal.returns-clause-blockquote_equal
returns-clause-blockquote_equal c = λ a b. Blockquote-equal a b _ _ (nodes_decide _ _) (places_decide a.position b.position)

pub returns-clause-footnote_definition_equal : goal.returns-clause-footnote_definition_equal
returns-clause-footnote_definition_equal c = λ a b. FootnoteDefinition-equal a b _ _ _ _ (nodes_decide _ _) (places_decide a.position b.position) (bytes_decides _ _) (texts_decide a.label b.label)

pub returns-clause-list_equal : goal.returns-clause-list_equal
returns-clause-list_equal c = λ a b. List-equal a b _ _ _ _ _ (nodes_decide _ _) (places_decide a.position b.position) (booleans_Decides a.ordered b.ordered) (starts_decide a.start b.start) (booleans_Decides a.spread b.spread)

pub returns-clause-toml_equal : goal.returns-clause-toml_equal
returns-clause-toml_equal c = λ a b. Toml-equal a b _ _ (bytes_decides _ _) (places_decide a.position b.position)

pub returns-clause-yaml_equal : goal.returns-clause-yaml_equal
returns-clause-yaml_equal c = λ a b. Yaml-equal a b _ _ (bytes_decides _ _) (places_decide a.position b.position)

pub returns-clause-break_equal : goal.returns-clause-break_equal
returns-clause-break_equal c = λ a b. Break-equal a b _ (places_decide a.position b.position)

pub returns-clause-inline_code_equal : goal.returns-clause-inline_code_equal
returns-clause-inline_code_equal c = λ a b. InlineCode-equal a b _ _ (bytes_decides _ _) (places_decide a.position b.position)

pub returns-clause-inline_math_equal : goal.returns-clause-inline_math_equal
returns-clause-inline_math_equal c = λ a b. InlineMath-equal a b _ _ (bytes_decides _ _) (places_decide a.position b.position)

pub returns-clause-delete_equal : goal.returns-clause-delete_equal
returns-clause-delete_equal c = λ a b. Delete-equal a b _ _ (nodes_decide _ _) (places_decide a.position b.position)

pub returns-clause-emphasis_equal : goal.returns-clause-emphasis_equal
returns-clause-emphasis_equal c = λ a b. Emphasis-equal a b _ _ (nodes_decide _ _) (places_decide a.position b.position)

pub returns-clause-footnote_reference_equal : goal.returns-clause-footnote_reference_equal
returns-clause-footnote_reference_equal c = λ a b. FootnoteReference-equal a b _ _ _ (places_decide a.position b.position) (bytes_decides _ _) (texts_decide a.label b.label)

pub returns-clause-html_equal : goal.returns-clause-html_equal
returns-clause-html_equal c = λ a b. Html-equal a b _ _ (bytes_decides _ _) (places_decide a.position b.position)

pub returns-clause-image_equal : goal.returns-clause-image_equal
returns-clause-image_equal c = λ a b. Image-equal a b _ _ _ _ (places_decide a.position b.position) (bytes_decides _ _) (bytes_decides _ _) (texts_decide a.title b.title)

pub returns-clause-image_reference_equal : goal.returns-clause-image_reference_equal
returns-clause-image_reference_equal c = λ a b. ImageReference-equal a b _ _ _ _ _ (places_decide a.position b.position) (bytes_decides _ _) (search rules) (bytes_decides _ _) (texts_decide a.label b.label)

pub returns-clause-link_equal : goal.returns-clause-link_equal
returns-clause-link_equal c = λ a b. Link-equal a b _ _ _ _ (nodes_decide _ _) (places_decide a.position b.position) (bytes_decides _ _) (texts_decide a.title b.title)

pub returns-clause-link_reference_equal : goal.returns-clause-link_reference_equal
returns-clause-link_reference_equal c = λ a b. LinkReference-equal a b _ _ _ _ _ (nodes_decide _ _) (places_decide a.position b.position) (search rules) (bytes_decides _ _) (texts_decide a.label b.label)

pub returns-clause-strong_equal : goal.returns-clause-strong_equal
returns-clause-strong_equal c = λ a b. Strong-equal a b _ _ (nodes_decide _ _) (places_decide a.position b.position)

pub returns-clause-text_equal : goal.returns-clause-text_equal
returns-clause-text_equal c = λ a b. Text-equal a b _ _ (bytes_decides _ _) (places_decide a.position b.position)

pub returns-clause-code_equal : goal.returns-clause-code_equal
returns-clause-code_equal c = λ a b. Code-equal a b _ _ _ _ (bytes_decides _ _) (places_decide a.position b.position) (texts_decide a.lang b.lang) (texts_decide a.meta b.meta)

pub returns-clause-math_equal : goal.returns-clause-math_equal
returns-clause-math_equal c = λ a b. Math-equal a b _ _ _ (bytes_decides _ _) (places_decide a.position b.position) (texts_decide a.meta b.meta)

pub returns-clause-heading_equal : goal.returns-clause-heading_equal
returns-clause-heading_equal c = λ a b. Heading-equal a b _ _ _ (nodes_decide _ _) (places_decide a.position b.position) (Decides-eqb a.depth b.depth)

pub returns-clause-table_equal : goal.returns-clause-table_equal
returns-clause-table_equal c = λ a b. Table-equal a b _ _ _ (nodes_decide _ _) (places_decide a.position b.position) (pointwise_decides (λ x y. search rules) _ _)

pub returns-clause-thematic_break_equal : goal.returns-clause-thematic_break_equal
returns-clause-thematic_break_equal c = λ a b. ThematicBreak-equal a b _ (places_decide a.position b.position)

pub returns-clause-table_row_equal : goal.returns-clause-table_row_equal
returns-clause-table_row_equal c = λ a b. TableRow-equal a b _ _ (nodes_decide _ _) (places_decide a.position b.position)

pub returns-clause-table_cell_equal : goal.returns-clause-table_cell_equal
returns-clause-table_cell_equal c = λ a b. TableCell-equal a b _ _ (nodes_decide _ _) (places_decide a.position b.position)

pub returns-clause-list_item_equal : goal.returns-clause-list_item_equal
returns-clause-list_item_equal c = λ a b. ListItem-equal a b _ _ _ _ (nodes_decide _ _) (places_decide a.position b.position) (booleans_Decides a.spread b.spread) (checks_decide a.checked b.checked)

pub returns-clause-definition_equal : goal.returns-clause-definition_equal
returns-clause-definition_equal c = λ a b. Definition-equal a b _ _ _ _ _ (places_decide a.position b.position) (bytes_decides _ _) (texts_decide a.title b.title) (bytes_decides _ _) (texts_decide a.label b.label)

pub returns-clause-paragraph_equal : goal.returns-clause-paragraph_equal
returns-clause-paragraph_equal c = λ a b. Paragraph-equal a b _ _ (nodes_decide _ _) (places_decide a.position b.position)
