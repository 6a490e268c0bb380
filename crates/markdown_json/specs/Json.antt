-- A tree as JSON, with the names and fields that mdast gives nodes. The order of the fields is ours: it makes no difference to JSON.
use Rattle.std.specs.Prelude.{ℕ, Bool, List, [], ◌++◌, Option, codes, if◌then◌else◌}
use Rattle.std.specs.Fmt.{decimal}
use Rattle.markdown_events.specs.declared.unist.Point.{Point}
use Rattle.markdown_events.specs.declared.unist.Position.{Position}
use Rattle.markdown_kinds.specs.Fields.{bool_text}
use Rattle.markdown_json.specs.Fields.{align_field, association, children, field, kind, literal, maybe, or_null, position_field, reference, resource}
use Rattle.markdown_json.specs.Strings.{string}
use Rattle.markdown_json.specs.Utf16.{utf16}
use Rattle.markdown_nodes.specs.Written.{Notation, written}
use Rattle.markdown_nodes.specs.Tree.{Label, Tree, root, paragraph, blockquote, emphasis, strong, delete, table_row, table_cell, thematic_break, «break», text, html, inline_code, inline_math, yaml, toml, heading, list, list_item, table, code, math, link, image, link_reference, image_reference, footnote_reference, footnote_definition, definition}

-- the kind of a node and its fields, up to its children
abbrev pub opening : Label → List ℕ
opening root = kind (codes "root") ++ children
opening paragraph = kind (codes "paragraph") ++ children
opening blockquote = kind (codes "blockquote") ++ children
opening emphasis = kind (codes "emphasis") ++ children
opening strong = kind (codes "strong") ++ children
opening delete = kind (codes "delete") ++ children
opening table_row = kind (codes "tableRow") ++ children
opening table_cell = kind (codes "tableCell") ++ children
opening thematic_break = kind (codes "thematicBreak")
opening «break» = kind (codes "break")
opening (text value) = literal (codes "text") value
opening (html value) = literal (codes "html") value
opening (inline_code value) = literal (codes "inlineCode") value
opening (inline_math value) = literal (codes "inlineMath") value
opening (yaml value) = literal (codes "yaml") value
opening (toml value) = literal (codes "toml") value
opening (heading depth) = kind (codes "heading") ++ field (codes "depth") (decimal depth) ++ children
opening (list ordered start spread) = kind (codes "list") ++ field (codes "ordered") (bool_text ordered) ++ field (codes "start") (or_null decimal start) ++ field (codes "spread") (bool_text spread) ++ children
opening (list_item spread checked) = kind (codes "listItem") ++ field (codes "spread") (bool_text spread) ++ field (codes "checked") (or_null bool_text checked) ++ children
opening (table align) = kind (codes "table") ++ align_field align ++ children
opening (code value lang meta) = kind (codes "code") ++ field (codes "lang") (maybe lang) ++ field (codes "meta") (maybe meta) ++ field (codes "value") (string value)
opening (math value meta) = kind (codes "math") ++ field (codes "meta") (maybe meta) ++ field (codes "value") (string value)
opening (link url title) = kind (codes "link") ++ resource url title ++ children
opening (image alt url title) = kind (codes "image") ++ resource url title ++ field (codes "alt") (string alt)
opening (link_reference reference_kind identifier label) = kind (codes "linkReference") ++ reference reference_kind identifier label ++ children
opening (image_reference alt reference_kind identifier label) = kind (codes "imageReference") ++ reference reference_kind identifier label ++ field (codes "alt") (string alt)
opening (footnote_reference identifier label) = kind (codes "footnoteReference") ++ association identifier label
opening (footnote_definition identifier label) = kind (codes "footnoteDefinition") ++ association identifier label ++ children
opening (definition url title identifier label) = kind (codes "definition") ++ association identifier label ++ resource url title

-- the opening of a node, after a comma if it is not the first in its parent
abbrev pub opening_after : Bool → Label → List ℕ
opening_after later label = (if later then codes "," else []) ++ opening label

-- the end of the children of a parent
abbrev pub children_end : Label → List ℕ
children_end thematic_break = []
children_end «break» = []
children_end (text _) = []
children_end (html _) = []
children_end (inline_code _) = []
children_end (inline_math _) = []
children_end (yaml _) = []
children_end (toml _) = []
children_end (code _ _ _) = []
children_end (math _ _) = []
children_end (image _ _ _) = []
children_end (image_reference _ _ _ _) = []
children_end (footnote_reference _ _) = []
children_end (definition _ _ _ _) = []
children_end _ = codes "]"

-- the text after the children
abbrev pub closing : (Point → Point) → Label → Option Position → List ℕ
closing counted label position = children_end label ++ position_field counted position ++ codes "}"

-- the notation of JSON for nodes whose points are counted in this way
abbrev pub json_notation : (Point → Point) → Notation
json_notation counted = record { opening = opening; closing = closing counted; comma = codes "," }

-- one node, with its points counted in this way
abbrev pub json_counted : (Point → Point) → Tree → List ℕ
json_counted counted tree = written (json_notation counted) tree

-- one node, with its points as they are, in bytes
abbrev pub json : Tree → List ℕ
json tree = json_counted (λ point. point) tree

-- a tree as JSON, with its points in UTF-16 code units
abbrev pub json_utf16 : List ℕ → Tree → List ℕ
json_utf16 document tree = json_counted (utf16 document) tree
