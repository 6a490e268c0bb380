-- The text that Debug writes for a tree, the same as a derived Debug would.
-- `escapes` are the characters beyond ASCII that are written as Unicode escapes.
use Rattle.std.specs.Prelude.{ℕ, Bool, List, [], ◌++◌, Option, codes}
use Rattle.std.specs.Fmt.{comma_space, decimal}
use Rattle.markdown_events.specs.declared.unist.Position.{Position}
use Rattle.markdown_events.specs.Places.{position_text}
use Rattle.markdown_kinds.specs.TextFields.{association, maybe, option_text, resource}
use Rattle.markdown_kinds.specs.Fields.{align_field, code_fields, definition_fields, image_fields, image_reference_fields, item_fields, list_fields, literal_value, reference}
use Rattle.markdown_nodes.specs.Written.{Notation, written}
use Rattle.markdown_nodes.specs.Tree.{Label, Tree, root, paragraph, blockquote, emphasis, strong, delete, table_row, table_cell, thematic_break, «break», text, html, inline_code, inline_math, yaml, toml, heading, list, list_item, table, code, math, link, image, link_reference, image_reference, footnote_reference, footnote_definition, definition}

-- the text before the children, the value or the position
abbrev pub opening : Label → List ℕ
opening root = codes "Root { children: ["
opening blockquote = codes "Blockquote { children: ["
opening (footnote_definition _ _) = codes "FootnoteDefinition { children: ["
opening (list _ _ _) = codes "List { children: ["
opening (toml _) = codes "Toml { value: "
opening (yaml _) = codes "Yaml { value: "
opening «break» = codes "Break { position: "
opening (inline_code _) = codes "InlineCode { value: "
opening (inline_math _) = codes "InlineMath { value: "
opening delete = codes "Delete { children: ["
opening emphasis = codes "Emphasis { children: ["
opening (footnote_reference _ _) = codes "FootnoteReference { position: "
opening (html _) = codes "Html { value: "
opening (image _ _ _) = codes "Image { position: "
opening (image_reference _ _ _ _) = codes "ImageReference { position: "
opening (link _ _) = codes "Link { children: ["
opening (link_reference _ _ _) = codes "LinkReference { children: ["
opening strong = codes "Strong { children: ["
opening (text _) = codes "Text { value: "
opening (code _ _ _) = codes "Code { value: "
opening (math _ _) = codes "Math { value: "
opening (heading _) = codes "Heading { children: ["
opening (table _) = codes "Table { children: ["
opening thematic_break = codes "ThematicBreak { position: "
opening table_row = codes "TableRow { children: ["
opening table_cell = codes "TableCell { children: ["
opening (list_item _ _) = codes "ListItem { children: ["
opening (definition _ _ _ _) = codes "Definition { position: "
opening paragraph = codes "Paragraph { children: ["

-- the value of a literal, or the end of the children of a parent
abbrev pub content_end : (ℕ → Bool) → Label → List ℕ
content_end escapes (text value) = literal_value escapes value
content_end escapes (html value) = literal_value escapes value
content_end escapes (inline_code value) = literal_value escapes value
content_end escapes (inline_math value) = literal_value escapes value
content_end escapes (yaml value) = literal_value escapes value
content_end escapes (toml value) = literal_value escapes value
content_end escapes (code value _ _) = literal_value escapes value
content_end escapes (math value _) = literal_value escapes value
content_end escapes «break» = []
content_end escapes thematic_break = []
content_end escapes (footnote_reference _ _) = []
content_end escapes (image _ _ _) = []
content_end escapes (image_reference _ _ _ _) = []
content_end escapes (definition _ _ _ _) = []
content_end escapes _ = codes "], position: "

-- the fields after the position
abbrev pub fields : (ℕ → Bool) → Label → List ℕ
fields escapes (heading depth) = codes ", depth: " ++ decimal depth
fields escapes (list ordered start spread) = list_fields ordered start spread
fields escapes (list_item spread checked) = item_fields spread checked
fields escapes (table align) = align_field align
fields escapes (code _ lang meta) = code_fields escapes lang meta
fields escapes (math _ meta) = codes ", meta: " ++ maybe escapes meta
fields escapes (link url title) = resource escapes url title
fields escapes (image alt url title) = image_fields escapes alt url title
fields escapes (link_reference kind identifier label) = reference escapes kind identifier label
fields escapes (image_reference alt kind identifier label) = image_reference_fields escapes alt kind identifier label
fields escapes (footnote_reference identifier label) = association escapes identifier label
fields escapes (footnote_definition identifier label) = association escapes identifier label
fields escapes (definition url title identifier label) = definition_fields escapes url title identifier label
fields escapes _ = []

-- the text after the children
abbrev pub closing : (ℕ → Bool) → Label → Option Position → List ℕ
closing escapes label position = content_end escapes label ++ option_text position_text position ++ fields escapes label ++ codes " }"

-- a node that has only a position
abbrev pub position_alone : Label → Option Position → List ℕ
position_alone label position = opening label ++ option_text position_text position ++ codes " }"

-- the notation of Debug
abbrev pub debug_notation : (ℕ → Bool) → Notation
debug_notation escapes = record { opening = opening; closing = closing escapes; comma = comma_space }

-- the text of one node
abbrev pub shown : (ℕ → Bool) → Tree → List ℕ
shown escapes tree = written (debug_notation escapes) tree
