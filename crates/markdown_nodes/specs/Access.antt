-- The parts of every node, and of every parent.
use Rattle.std.specs.Prelude.{List, [], Option, Some, None, string_bytes, Vec}
use Rattle.std.specs.declared.alloc.Global.{Global}
use Rattle.markdown_nodes.specs.declared.mdast.Node.{Node}
use Rattle.markdown_nodes.specs.declared.mdast.Node.TheOpen.{Node-F}
use Rattle.markdown_nodes.specs.declared.mdast.Node.TheVariants as nodes
use Rattle.markdown_nodes.specs.declared.mdast.Node.TheViews.{out-Node}
use Rattle.markdown_events.specs.declared.unist.Position.{Position}
use Rattle.markdown_nodes.specs.Tree.{Label, Tree, root, paragraph, blockquote, emphasis, strong, delete, table_row, table_cell, thematic_break, «break», text, html, inline_code, inline_math, yaml, toml, heading, table}
use Rattle.markdown_nodes.specs.Labels.{code_label, definition_label, footnote_definition_label, footnote_reference_label, image_label, image_reference_label, link_label, link_reference_label, list_item_label, list_label, math_label}
use Rattle.markdown_nodes.specs.View.{views}

-- the children of a parent
abbrev pub children_of : Node → Option (Vec Node Global)
children_of node = elim (out-Node node) [
  | Node-F.Root node ↦ Some node.children
  | Node-F.Blockquote node ↦ Some node.children
  | Node-F.FootnoteDefinition node ↦ Some node.children
  | Node-F.List node ↦ Some node.children
  | Node-F.Delete node ↦ Some node.children
  | Node-F.Emphasis node ↦ Some node.children
  | Node-F.Link node ↦ Some node.children
  | Node-F.LinkReference node ↦ Some node.children
  | Node-F.Strong node ↦ Some node.children
  | Node-F.Heading node ↦ Some node.children
  | Node-F.Table node ↦ Some node.children
  | Node-F.TableRow node ↦ Some node.children
  | Node-F.TableCell node ↦ Some node.children
  | Node-F.ListItem node ↦ Some node.children
  | Node-F.Paragraph node ↦ Some node.children
  | _ ↦ None
]

-- the position of a node
abbrev pub position_of : Node → Option Position
position_of node = elim (out-Node node) [
  | Node-F.Root node ↦ node.position
  | Node-F.Blockquote node ↦ node.position
  | Node-F.FootnoteDefinition node ↦ node.position
  | Node-F.List node ↦ node.position
  | Node-F.Toml node ↦ node.position
  | Node-F.Yaml node ↦ node.position
  | Node-F.Break node ↦ node.position
  | Node-F.InlineCode node ↦ node.position
  | Node-F.InlineMath node ↦ node.position
  | Node-F.Delete node ↦ node.position
  | Node-F.Emphasis node ↦ node.position
  | Node-F.FootnoteReference node ↦ node.position
  | Node-F.Html node ↦ node.position
  | Node-F.Image node ↦ node.position
  | Node-F.ImageReference node ↦ node.position
  | Node-F.Link node ↦ node.position
  | Node-F.LinkReference node ↦ node.position
  | Node-F.Strong node ↦ node.position
  | Node-F.Text node ↦ node.position
  | Node-F.Code node ↦ node.position
  | Node-F.Math node ↦ node.position
  | Node-F.Heading node ↦ node.position
  | Node-F.Table node ↦ node.position
  | Node-F.ThematicBreak node ↦ node.position
  | Node-F.TableRow node ↦ node.position
  | Node-F.TableCell node ↦ node.position
  | Node-F.ListItem node ↦ node.position
  | Node-F.Definition node ↦ node.position
  | Node-F.Paragraph node ↦ node.position
]

-- a parent with these children in place of its own; any other node is unchanged
abbrev pub with_children : Node → Vec Node Global → Node
with_children it children = elim (out-Node it) [
  | Node-F.Root node ↦ nodes.Root (record node { children = children })
  | Node-F.Blockquote node ↦ nodes.Blockquote (record node { children = children })
  | Node-F.FootnoteDefinition node ↦ nodes.FootnoteDefinition (record node { children = children })
  | Node-F.List node ↦ nodes.List (record node { children = children })
  | Node-F.Delete node ↦ nodes.Delete (record node { children = children })
  | Node-F.Emphasis node ↦ nodes.Emphasis (record node { children = children })
  | Node-F.Link node ↦ nodes.Link (record node { children = children })
  | Node-F.LinkReference node ↦ nodes.LinkReference (record node { children = children })
  | Node-F.Strong node ↦ nodes.Strong (record node { children = children })
  | Node-F.Heading node ↦ nodes.Heading (record node { children = children })
  | Node-F.Table node ↦ nodes.Table (record node { children = children })
  | Node-F.TableRow node ↦ nodes.TableRow (record node { children = children })
  | Node-F.TableCell node ↦ nodes.TableCell (record node { children = children })
  | Node-F.ListItem node ↦ nodes.ListItem (record node { children = children })
  | Node-F.Paragraph node ↦ nodes.Paragraph (record node { children = children })
  | _ ↦ it
]

-- a node with this position in place of its own
abbrev pub with_position : Node → Option Position → Node
with_position it position = elim (out-Node it) [
  | Node-F.Root node ↦ nodes.Root (record node { position = position })
  | Node-F.Blockquote node ↦ nodes.Blockquote (record node { position = position })
  | Node-F.FootnoteDefinition node ↦ nodes.FootnoteDefinition (record node { position = position })
  | Node-F.List node ↦ nodes.List (record node { position = position })
  | Node-F.Toml node ↦ nodes.Toml (record node { position = position })
  | Node-F.Yaml node ↦ nodes.Yaml (record node { position = position })
  | Node-F.Break node ↦ nodes.Break (record node { position = position })
  | Node-F.InlineCode node ↦ nodes.InlineCode (record node { position = position })
  | Node-F.InlineMath node ↦ nodes.InlineMath (record node { position = position })
  | Node-F.Delete node ↦ nodes.Delete (record node { position = position })
  | Node-F.Emphasis node ↦ nodes.Emphasis (record node { position = position })
  | Node-F.FootnoteReference node ↦ nodes.FootnoteReference (record node { position = position })
  | Node-F.Html node ↦ nodes.Html (record node { position = position })
  | Node-F.Image node ↦ nodes.Image (record node { position = position })
  | Node-F.ImageReference node ↦ nodes.ImageReference (record node { position = position })
  | Node-F.Link node ↦ nodes.Link (record node { position = position })
  | Node-F.LinkReference node ↦ nodes.LinkReference (record node { position = position })
  | Node-F.Strong node ↦ nodes.Strong (record node { position = position })
  | Node-F.Text node ↦ nodes.Text (record node { position = position })
  | Node-F.Code node ↦ nodes.Code (record node { position = position })
  | Node-F.Math node ↦ nodes.Math (record node { position = position })
  | Node-F.Heading node ↦ nodes.Heading (record node { position = position })
  | Node-F.Table node ↦ nodes.Table (record node { position = position })
  | Node-F.ThematicBreak node ↦ nodes.ThematicBreak (record node { position = position })
  | Node-F.TableRow node ↦ nodes.TableRow (record node { position = position })
  | Node-F.TableCell node ↦ nodes.TableCell (record node { position = position })
  | Node-F.ListItem node ↦ nodes.ListItem (record node { position = position })
  | Node-F.Definition node ↦ nodes.Definition (record node { position = position })
  | Node-F.Paragraph node ↦ nodes.Paragraph (record node { position = position })
]

-- a node's kind with its fields, except children and position
abbrev pub label_of : Node → Label
label_of it = elim (out-Node it) [
  | Node-F.Root node ↦ root
  | Node-F.Blockquote node ↦ blockquote
  | Node-F.FootnoteDefinition node ↦ footnote_definition_label node
  | Node-F.List node ↦ list_label node
  | Node-F.Toml node ↦ toml (string_bytes node.value)
  | Node-F.Yaml node ↦ yaml (string_bytes node.value)
  | Node-F.Break node ↦ «break»
  | Node-F.InlineCode node ↦ inline_code (string_bytes node.value)
  | Node-F.InlineMath node ↦ inline_math (string_bytes node.value)
  | Node-F.Delete node ↦ delete
  | Node-F.Emphasis node ↦ emphasis
  | Node-F.FootnoteReference node ↦ footnote_reference_label node
  | Node-F.Html node ↦ html (string_bytes node.value)
  | Node-F.Image node ↦ image_label node
  | Node-F.ImageReference node ↦ image_reference_label node
  | Node-F.Link node ↦ link_label node
  | Node-F.LinkReference node ↦ link_reference_label node
  | Node-F.Strong node ↦ strong
  | Node-F.Text node ↦ text (string_bytes node.value)
  | Node-F.Code node ↦ code_label node
  | Node-F.Math node ↦ math_label node
  | Node-F.Heading node ↦ heading node.depth
  | Node-F.Table node ↦ table node.align.items
  | Node-F.ThematicBreak node ↦ thematic_break
  | Node-F.TableRow node ↦ table_row
  | Node-F.TableCell node ↦ table_cell
  | Node-F.ListItem node ↦ list_item_label node
  | Node-F.Definition node ↦ definition_label node
  | Node-F.Paragraph node ↦ paragraph
]

-- the nodes of an optional list
abbrev pub items_in : Option (Vec Node Global) → List Node
items_in None = []
items_in (Some children) = children.items

-- the nodes in a node; none if it is not a parent
abbrev pub nodes_in : Node → List Node
nodes_in node = items_in (children_of node)

-- a node as a tree, from its parts
abbrev pub tree_of : Node → Tree
tree_of node = record { label = label_of node; children = views (nodes_in node); position = position_of node }
