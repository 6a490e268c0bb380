-- The nodes of the program, as trees.
use Rattle.std.specs.Prelude.{List, [], ◌∷◌, option_map, string_bytes}
use Rattle.markdown_nodes.specs.declared.mdast.Node.{Node, Row_of-Node, end_of-Node, more_of-Node}
use Rattle.markdown_nodes.specs.declared.mdast.Node.TheVariants as nodes
use Rattle.markdown_nodes.specs.Tree.{Trees, Tree, nothing, before, root, paragraph, blockquote, emphasis, strong, delete, table_row, table_cell, thematic_break, «break», text, html, inline_code, inline_math, yaml, toml, heading, list, list_item, table, code, math, link, image, link_reference, image_reference, footnote_reference, footnote_definition, definition}

unfoldable mutual
  -- a node as a tree, by its kind
  pub view : Node → Tree
  view (nodes.Root' _ children position) = record { label = root; children = row_view children; position = position }
  view (nodes.Blockquote' _ children position) = record { label = blockquote; children = row_view children; position = position }
  view (nodes.FootnoteDefinition' _ children position identifier label) = record { label = footnote_definition (string_bytes identifier) (option_map string_bytes label); children = row_view children; position = position }
  view (nodes.List' _ children position ordered start spread) = record { label = list ordered start spread; children = row_view children; position = position }
  view (nodes.Toml node) = record { label = toml (string_bytes node.value); children = nothing; position = node.position }
  view (nodes.Yaml node) = record { label = yaml (string_bytes node.value); children = nothing; position = node.position }
  view (nodes.Break node) = record { label = «break»; children = nothing; position = node.position }
  view (nodes.InlineCode node) = record { label = inline_code (string_bytes node.value); children = nothing; position = node.position }
  view (nodes.InlineMath node) = record { label = inline_math (string_bytes node.value); children = nothing; position = node.position }
  view (nodes.Delete' _ children position) = record { label = delete; children = row_view children; position = position }
  view (nodes.Emphasis' _ children position) = record { label = emphasis; children = row_view children; position = position }
  view (nodes.FootnoteReference node) = record { label = footnote_reference (string_bytes node.identifier) (option_map string_bytes node.label); children = nothing; position = node.position }
  view (nodes.Html node) = record { label = html (string_bytes node.value); children = nothing; position = node.position }
  view (nodes.Image node) = record { label = image (string_bytes node.alt) (string_bytes node.url) (option_map string_bytes node.title); children = nothing; position = node.position }
  view (nodes.ImageReference node) = record { label = image_reference (string_bytes node.alt) node.reference_kind (string_bytes node.identifier) (option_map string_bytes node.label); children = nothing; position = node.position }
  view (nodes.Link' _ children position url title) = record { label = link (string_bytes url) (option_map string_bytes title); children = row_view children; position = position }
  view (nodes.LinkReference' _ children position reference_kind identifier label) = record { label = link_reference reference_kind (string_bytes identifier) (option_map string_bytes label); children = row_view children; position = position }
  view (nodes.Strong' _ children position) = record { label = strong; children = row_view children; position = position }
  view (nodes.Text node) = record { label = text (string_bytes node.value); children = nothing; position = node.position }
  view (nodes.Code node) = record { label = code (string_bytes node.value) (option_map string_bytes node.lang) (option_map string_bytes node.meta); children = nothing; position = node.position }
  view (nodes.Math node) = record { label = math (string_bytes node.value) (option_map string_bytes node.meta); children = nothing; position = node.position }
  view (nodes.Heading' _ children position depth) = record { label = heading depth; children = row_view children; position = position }
  view (nodes.Table' _ children position align) = record { label = table align.items; children = row_view children; position = position }
  view (nodes.ThematicBreak node) = record { label = thematic_break; children = nothing; position = node.position }
  view (nodes.TableRow' _ children position) = record { label = table_row; children = row_view children; position = position }
  view (nodes.TableCell' _ children position) = record { label = table_cell; children = row_view children; position = position }
  view (nodes.ListItem' _ children position spread checked) = record { label = list_item spread checked; children = row_view children; position = position }
  view (nodes.Definition node) = record { label = definition (string_bytes node.url) (option_map string_bytes node.title) (string_bytes node.identifier) (option_map string_bytes node.label); children = nothing; position = node.position }
  view (nodes.Paragraph' _ children position) = record { label = paragraph; children = row_view children; position = position }

  -- the nodes of a `Vec`, as trees
  pub row_view : {m : _} → Row_of-Node m → Trees
  row_view end_of-Node = nothing
  row_view (more_of-Node node rest) = before (view node) (row_view rest)

-- nodes in order, as trees
abbrev pub views : List Node → Trees
views [] = nothing
views (node ∷ nodes) = before (view node) (views nodes)
