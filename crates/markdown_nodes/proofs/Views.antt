-- What the nodes of the program are as trees: kind by kind, by their parts, and once a part is another.
use Rattle.std.proofs.Common.{◌≡◌, Vec, Global, Option, Some, refl, sym, ap, ◌∙◌}
use Rattle.std.specs.Prelude.{option_map, string_bytes}
use denote.Hole.Carrier
use Rattle.markdown_events.specs.declared.unist.Position.{Position}
use Rattle.markdown_nodes.specs.declared.mdast.Node.{Node, Row_of-Node, end_of-Node, more_of-Node, items-the_row-Node, items_hidden-the_row-Node-0, items_shown-the_row-Node-0}
use Rattle.markdown_nodes.specs.declared.mdast.Node.TheBlock.{hidden-the_row-Node-0, seen-the_row-Node-0, shape-the_row-Node-0, shown-the_row-Node-0}
use Rattle.markdown_nodes.specs.declared.mdast.Node.TheVariants as nodes
use Rattle.markdown_nodes.specs.declared.mdast.Node.TheViews.{out-Node, roll-out-Node}
use Rattle.markdown_nodes.specs.Kinds.{Root, Blockquote, FootnoteDefinition, List as ListNode, Delete, Emphasis, Link, LinkReference, Strong, Heading, Table, TableRow, TableCell, ListItem, Paragraph}
use Rattle.markdown_kinds.specs.declared.Toml.{Toml}
use Rattle.markdown_kinds.specs.declared.Yaml.{Yaml}
use Rattle.markdown_kinds.specs.declared.Break.{Break}
use Rattle.markdown_kinds.specs.declared.InlineCode.{InlineCode}
use Rattle.markdown_kinds.specs.declared.InlineMath.{InlineMath}
use Rattle.markdown_kinds.specs.declared.FootnoteReference.{FootnoteReference}
use Rattle.markdown_kinds.specs.declared.Html.{Html}
use Rattle.markdown_kinds.specs.declared.Image.{Image}
use Rattle.markdown_kinds.specs.declared.ImageReference.{ImageReference}
use Rattle.markdown_kinds.specs.declared.Text.{Text}
use Rattle.markdown_kinds.specs.declared.Code.{Code}
use Rattle.markdown_kinds.specs.declared.Math.{Math}
use Rattle.markdown_kinds.specs.declared.ThematicBreak.{ThematicBreak}
use Rattle.markdown_kinds.specs.declared.Definition.{Definition}
use Rattle.markdown_nodes.specs.Tree.{Trees, nothing, before, root, paragraph, blockquote, emphasis, strong, delete, table_row, table_cell, thematic_break, «break», text, html, inline_code, inline_math, yaml, toml, heading, list, list_item, table, code, math, link, image, link_reference, image_reference, footnote_reference, footnote_definition, definition}
use Rattle.markdown_nodes.specs.View.{view, row_view, views}
use Rattle.markdown_nodes.specs.Access.{children_of, nodes_in, position_of, tree_of, with_children, with_position}

-- the nodes that a `Vec` holds, as trees
row_view-is : {m : _} (row : Row_of-Node m) → row_view row ≡ views (items-the_row-Node m row)
unfolding view row_view
row_view-is end_of-Node = refl
row_view-is (more_of-Node x rest) = ap (before (view x)) (row_view-is rest)

vec_view-is : (c : Vec Node Global) → row_view (hidden-the_row-Node-0 c) ≡ views c.items
vec_view-is c = row_view-is (hidden-the_row-Node-0 c) ∙ ap views (items_hidden-the_row-Node-0 c)

-- the node of each kind as a tree

pub view-Root : (x : Root) → view (nodes.Root x) ≡ record { label = root; children = views x.children.items; position = x.position }
unfolding view row_view
view-Root x = ap (λ (ts : Trees). record { label = root; children = ts; position = x.position }) (vec_view-is x.children)

pub view-Blockquote : (x : Blockquote) → view (nodes.Blockquote x) ≡ record { label = blockquote; children = views x.children.items; position = x.position }
unfolding view row_view
view-Blockquote x = ap (λ (ts : Trees). record { label = blockquote; children = ts; position = x.position }) (vec_view-is x.children)

pub view-FootnoteDefinition : (x : FootnoteDefinition) → view (nodes.FootnoteDefinition x) ≡ record { label = footnote_definition (string_bytes x.identifier) (option_map string_bytes x.label); children = views x.children.items; position = x.position }
unfolding view row_view
view-FootnoteDefinition x = ap (λ (ts : Trees). record { label = footnote_definition (string_bytes x.identifier) (option_map string_bytes x.label); children = ts; position = x.position }) (vec_view-is x.children)

pub view-List : (x : ListNode) → view (nodes.List x) ≡ record { label = list x.ordered x.start x.spread; children = views x.children.items; position = x.position }
unfolding view row_view
view-List x = ap (λ (ts : Trees). record { label = list x.ordered x.start x.spread; children = ts; position = x.position }) (vec_view-is x.children)

pub view-Toml : (x : Toml) → view (nodes.Toml x) ≡ record { label = toml (string_bytes x.value); children = nothing; position = x.position }
unfolding view row_view
view-Toml x = refl

pub view-Yaml : (x : Yaml) → view (nodes.Yaml x) ≡ record { label = yaml (string_bytes x.value); children = nothing; position = x.position }
unfolding view row_view
view-Yaml x = refl

pub view-Break : (x : Break) → view (nodes.Break x) ≡ record { label = «break»; children = nothing; position = x.position }
unfolding view row_view
view-Break x = refl

pub view-InlineCode : (x : InlineCode) → view (nodes.InlineCode x) ≡ record { label = inline_code (string_bytes x.value); children = nothing; position = x.position }
unfolding view row_view
view-InlineCode x = refl

pub view-InlineMath : (x : InlineMath) → view (nodes.InlineMath x) ≡ record { label = inline_math (string_bytes x.value); children = nothing; position = x.position }
unfolding view row_view
view-InlineMath x = refl

pub view-Delete : (x : Delete) → view (nodes.Delete x) ≡ record { label = delete; children = views x.children.items; position = x.position }
unfolding view row_view
view-Delete x = ap (λ (ts : Trees). record { label = delete; children = ts; position = x.position }) (vec_view-is x.children)

pub view-Emphasis : (x : Emphasis) → view (nodes.Emphasis x) ≡ record { label = emphasis; children = views x.children.items; position = x.position }
unfolding view row_view
view-Emphasis x = ap (λ (ts : Trees). record { label = emphasis; children = ts; position = x.position }) (vec_view-is x.children)

pub view-FootnoteReference : (x : FootnoteReference) → view (nodes.FootnoteReference x) ≡ record { label = footnote_reference (string_bytes x.identifier) (option_map string_bytes x.label); children = nothing; position = x.position }
unfolding view row_view
view-FootnoteReference x = refl

pub view-Html : (x : Html) → view (nodes.Html x) ≡ record { label = html (string_bytes x.value); children = nothing; position = x.position }
unfolding view row_view
view-Html x = refl

pub view-Image : (x : Image) → view (nodes.Image x) ≡ record { label = image (string_bytes x.alt) (string_bytes x.url) (option_map string_bytes x.title); children = nothing; position = x.position }
unfolding view row_view
view-Image x = refl

pub view-ImageReference : (x : ImageReference) → view (nodes.ImageReference x) ≡ record { label = image_reference (string_bytes x.alt) x.reference_kind (string_bytes x.identifier) (option_map string_bytes x.label); children = nothing; position = x.position }
unfolding view row_view
view-ImageReference x = refl

pub view-Link : (x : Link) → view (nodes.Link x) ≡ record { label = link (string_bytes x.url) (option_map string_bytes x.title); children = views x.children.items; position = x.position }
unfolding view row_view
view-Link x = ap (λ (ts : Trees). record { label = link (string_bytes x.url) (option_map string_bytes x.title); children = ts; position = x.position }) (vec_view-is x.children)

pub view-LinkReference : (x : LinkReference) → view (nodes.LinkReference x) ≡ record { label = link_reference x.reference_kind (string_bytes x.identifier) (option_map string_bytes x.label); children = views x.children.items; position = x.position }
unfolding view row_view
view-LinkReference x = ap (λ (ts : Trees). record { label = link_reference x.reference_kind (string_bytes x.identifier) (option_map string_bytes x.label); children = ts; position = x.position }) (vec_view-is x.children)

pub view-Strong : (x : Strong) → view (nodes.Strong x) ≡ record { label = strong; children = views x.children.items; position = x.position }
unfolding view row_view
view-Strong x = ap (λ (ts : Trees). record { label = strong; children = ts; position = x.position }) (vec_view-is x.children)

pub view-Text : (x : Text) → view (nodes.Text x) ≡ record { label = text (string_bytes x.value); children = nothing; position = x.position }
unfolding view row_view
view-Text x = refl

pub view-Code : (x : Code) → view (nodes.Code x) ≡ record { label = code (string_bytes x.value) (option_map string_bytes x.lang) (option_map string_bytes x.meta); children = nothing; position = x.position }
unfolding view row_view
view-Code x = refl

pub view-Math : (x : Math) → view (nodes.Math x) ≡ record { label = math (string_bytes x.value) (option_map string_bytes x.meta); children = nothing; position = x.position }
unfolding view row_view
view-Math x = refl

pub view-Heading : (x : Heading) → view (nodes.Heading x) ≡ record { label = heading x.depth; children = views x.children.items; position = x.position }
unfolding view row_view
view-Heading x = ap (λ (ts : Trees). record { label = heading x.depth; children = ts; position = x.position }) (vec_view-is x.children)

pub view-Table : (x : Table) → view (nodes.Table x) ≡ record { label = table x.align.items; children = views x.children.items; position = x.position }
unfolding view row_view
view-Table x = ap (λ (ts : Trees). record { label = table x.align.items; children = ts; position = x.position }) (vec_view-is x.children)

pub view-ThematicBreak : (x : ThematicBreak) → view (nodes.ThematicBreak x) ≡ record { label = thematic_break; children = nothing; position = x.position }
unfolding view row_view
view-ThematicBreak x = refl

pub view-TableRow : (x : TableRow) → view (nodes.TableRow x) ≡ record { label = table_row; children = views x.children.items; position = x.position }
unfolding view row_view
view-TableRow x = ap (λ (ts : Trees). record { label = table_row; children = ts; position = x.position }) (vec_view-is x.children)

pub view-TableCell : (x : TableCell) → view (nodes.TableCell x) ≡ record { label = table_cell; children = views x.children.items; position = x.position }
unfolding view row_view
view-TableCell x = ap (λ (ts : Trees). record { label = table_cell; children = ts; position = x.position }) (vec_view-is x.children)

pub view-ListItem : (x : ListItem) → view (nodes.ListItem x) ≡ record { label = list_item x.spread x.checked; children = views x.children.items; position = x.position }
unfolding view row_view
view-ListItem x = ap (λ (ts : Trees). record { label = list_item x.spread x.checked; children = ts; position = x.position }) (vec_view-is x.children)

pub view-Definition : (x : Definition) → view (nodes.Definition x) ≡ record { label = definition (string_bytes x.url) (option_map string_bytes x.title) (string_bytes x.identifier) (option_map string_bytes x.label); children = nothing; position = x.position }
unfolding view row_view
view-Definition x = refl

pub view-Paragraph : (x : Paragraph) → view (nodes.Paragraph x) ≡ record { label = paragraph; children = views x.children.items; position = x.position }
unfolding view row_view
view-Paragraph x = ap (λ (ts : Trees). record { label = paragraph; children = ts; position = x.position }) (vec_view-is x.children)

pub ruleset tree_rules = (view-Root, view-Blockquote, view-FootnoteDefinition, view-List, view-Toml, view-Yaml, view-Break, view-InlineCode, view-InlineMath, view-Delete, view-Emphasis, view-FootnoteReference, view-Html, view-Image, view-ImageReference, view-Link, view-LinkReference, view-Strong, view-Text, view-Code, view-Math, view-Heading, view-Table, view-ThematicBreak, view-TableRow, view-TableCell, view-ListItem, view-Definition, view-Paragraph)

-- a node as a tree is its parts
pub view-is : (node : Node) → view node ≡ tree_of node
unfolding view row_view out-Node denote.Hole.Carrier.out
view-is (nodes.Root' shape row position) = ap (λ (ts : Trees). record { label = root; children = ts; position = position }) (row_view-is row ∙ ap views (sym (items_shown-the_row-Node-0 shape row)))
view-is (nodes.Blockquote' shape row position) = ap (λ (ts : Trees). record { label = blockquote; children = ts; position = position }) (row_view-is row ∙ ap views (sym (items_shown-the_row-Node-0 shape row)))
view-is (nodes.FootnoteDefinition' shape row position identifier label) = ap (λ (ts : Trees). record { label = footnote_definition (string_bytes identifier) (option_map string_bytes label); children = ts; position = position }) (row_view-is row ∙ ap views (sym (items_shown-the_row-Node-0 shape row)))
view-is (nodes.List' shape row position ordered start spread) = ap (λ (ts : Trees). record { label = list ordered start spread; children = ts; position = position }) (row_view-is row ∙ ap views (sym (items_shown-the_row-Node-0 shape row)))
view-is (nodes.Toml x) = refl
view-is (nodes.Yaml x) = refl
view-is (nodes.Break x) = refl
view-is (nodes.InlineCode x) = refl
view-is (nodes.InlineMath x) = refl
view-is (nodes.Delete' shape row position) = ap (λ (ts : Trees). record { label = delete; children = ts; position = position }) (row_view-is row ∙ ap views (sym (items_shown-the_row-Node-0 shape row)))
view-is (nodes.Emphasis' shape row position) = ap (λ (ts : Trees). record { label = emphasis; children = ts; position = position }) (row_view-is row ∙ ap views (sym (items_shown-the_row-Node-0 shape row)))
view-is (nodes.FootnoteReference x) = refl
view-is (nodes.Html x) = refl
view-is (nodes.Image x) = refl
view-is (nodes.ImageReference x) = refl
view-is (nodes.Link' shape row position url title) = ap (λ (ts : Trees). record { label = link (string_bytes url) (option_map string_bytes title); children = ts; position = position }) (row_view-is row ∙ ap views (sym (items_shown-the_row-Node-0 shape row)))
view-is (nodes.LinkReference' shape row position reference_kind identifier label) = ap (λ (ts : Trees). record { label = link_reference reference_kind (string_bytes identifier) (option_map string_bytes label); children = ts; position = position }) (row_view-is row ∙ ap views (sym (items_shown-the_row-Node-0 shape row)))
view-is (nodes.Strong' shape row position) = ap (λ (ts : Trees). record { label = strong; children = ts; position = position }) (row_view-is row ∙ ap views (sym (items_shown-the_row-Node-0 shape row)))
view-is (nodes.Text x) = refl
view-is (nodes.Code x) = refl
view-is (nodes.Math x) = refl
view-is (nodes.Heading' shape row position depth) = ap (λ (ts : Trees). record { label = heading depth; children = ts; position = position }) (row_view-is row ∙ ap views (sym (items_shown-the_row-Node-0 shape row)))
view-is (nodes.Table' shape row position align) = ap (λ (ts : Trees). record { label = table align.items; children = ts; position = position }) (row_view-is row ∙ ap views (sym (items_shown-the_row-Node-0 shape row)))
view-is (nodes.ThematicBreak x) = refl
view-is (nodes.TableRow' shape row position) = ap (λ (ts : Trees). record { label = table_row; children = ts; position = position }) (row_view-is row ∙ ap views (sym (items_shown-the_row-Node-0 shape row)))
view-is (nodes.TableCell' shape row position) = ap (λ (ts : Trees). record { label = table_cell; children = ts; position = position }) (row_view-is row ∙ ap views (sym (items_shown-the_row-Node-0 shape row)))
view-is (nodes.ListItem' shape row position spread checked) = ap (λ (ts : Trees). record { label = list_item spread checked; children = ts; position = position }) (row_view-is row ∙ ap views (sym (items_shown-the_row-Node-0 shape row)))
view-is (nodes.Definition x) = refl
view-is (nodes.Paragraph' shape row position) = ap (λ (ts : Trees). record { label = paragraph; children = ts; position = position }) (row_view-is row ∙ ap views (sym (items_shown-the_row-Node-0 shape row)))

-- what is put into a parent is in it
pub put : (node : Node) (old new : Vec Node Global) → children_of node ≡ Some old → nodes_in (with_children node new) ≡ new.items
unfolding out-Node denote.Hole.Carrier.out
put (nodes.Root' shape row position) old new is = items_shown-the_row-Node-0 _ (hidden-the_row-Node-0 new) ∙ items_hidden-the_row-Node-0 new
put (nodes.Blockquote' shape row position) old new is = items_shown-the_row-Node-0 _ (hidden-the_row-Node-0 new) ∙ items_hidden-the_row-Node-0 new
put (nodes.FootnoteDefinition' shape row position identifier label) old new is = items_shown-the_row-Node-0 _ (hidden-the_row-Node-0 new) ∙ items_hidden-the_row-Node-0 new
put (nodes.List' shape row position ordered start spread) old new is = items_shown-the_row-Node-0 _ (hidden-the_row-Node-0 new) ∙ items_hidden-the_row-Node-0 new
put (nodes.Toml x) old new is = cc
put (nodes.Yaml x) old new is = cc
put (nodes.Break x) old new is = cc
put (nodes.InlineCode x) old new is = cc
put (nodes.InlineMath x) old new is = cc
put (nodes.Delete' shape row position) old new is = items_shown-the_row-Node-0 _ (hidden-the_row-Node-0 new) ∙ items_hidden-the_row-Node-0 new
put (nodes.Emphasis' shape row position) old new is = items_shown-the_row-Node-0 _ (hidden-the_row-Node-0 new) ∙ items_hidden-the_row-Node-0 new
put (nodes.FootnoteReference x) old new is = cc
put (nodes.Html x) old new is = cc
put (nodes.Image x) old new is = cc
put (nodes.ImageReference x) old new is = cc
put (nodes.Link' shape row position url title) old new is = items_shown-the_row-Node-0 _ (hidden-the_row-Node-0 new) ∙ items_hidden-the_row-Node-0 new
put (nodes.LinkReference' shape row position reference_kind identifier label) old new is = items_shown-the_row-Node-0 _ (hidden-the_row-Node-0 new) ∙ items_hidden-the_row-Node-0 new
put (nodes.Strong' shape row position) old new is = items_shown-the_row-Node-0 _ (hidden-the_row-Node-0 new) ∙ items_hidden-the_row-Node-0 new
put (nodes.Text x) old new is = cc
put (nodes.Code x) old new is = cc
put (nodes.Math x) old new is = cc
put (nodes.Heading' shape row position depth) old new is = items_shown-the_row-Node-0 _ (hidden-the_row-Node-0 new) ∙ items_hidden-the_row-Node-0 new
put (nodes.Table' shape row position align) old new is = items_shown-the_row-Node-0 _ (hidden-the_row-Node-0 new) ∙ items_hidden-the_row-Node-0 new
put (nodes.ThematicBreak x) old new is = cc
put (nodes.TableRow' shape row position) old new is = items_shown-the_row-Node-0 _ (hidden-the_row-Node-0 new) ∙ items_hidden-the_row-Node-0 new
put (nodes.TableCell' shape row position) old new is = items_shown-the_row-Node-0 _ (hidden-the_row-Node-0 new) ∙ items_hidden-the_row-Node-0 new
put (nodes.ListItem' shape row position spread checked) old new is = items_shown-the_row-Node-0 _ (hidden-the_row-Node-0 new) ∙ items_hidden-the_row-Node-0 new
put (nodes.Definition x) old new is = cc
put (nodes.Paragraph' shape row position) old new is = items_shown-the_row-Node-0 _ (hidden-the_row-Node-0 new) ∙ items_hidden-the_row-Node-0 new
