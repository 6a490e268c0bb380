-- What kind a node is of, told from its label.
use Rattle.std.proofs.Common.{◌≡◌, ◌↔◌, IsTrue, Bool, List, ℕ, String, Global, string_bytes, false, true, true≢false, refl, sym, ap, ◌∙◌, subst}
use Rattle.std.specs.String.{string_eq}
use Rattle.std.specs.Cmp.Lexicographic.{bytes_decides}
use denote.Hole.Carrier
use Rattle.markdown_nodes.specs.declared.mdast.Node.{Node}
use Rattle.markdown_nodes.specs.declared.mdast.Node.TheVariants as nodes
use Rattle.markdown_nodes.specs.declared.mdast.Node.TheViews.{out-Node, roll-out-Node}
use Rattle.markdown_nodes.specs.Kinds.{Root, Blockquote, FootnoteDefinition, List as ListNode, Delete, Emphasis, Link, LinkReference, Strong, Heading, Table, TableRow, TableCell, ListItem, Paragraph}
use Rattle.markdown_kinds.specs.declared.Toml.{Toml}
use Rattle.markdown_kinds.specs.declared.Yaml.{Yaml}
use Rattle.markdown_kinds.specs.declared.Break.{Break}
use Rattle.markdown_kinds.specs.declared.InlineCode.{InlineCode}
use Rattle.markdown_kinds.specs.declared.InlineMath.{InlineMath}
use Rattle.markdown_kinds.specs.declared.FootnoteReference.{FootnoteReference}
use Rattle.markdown_kinds.specs.declared.Html.{Html}
use Rattle.markdown_kinds.specs.declared.Image.{Image}
use Rattle.markdown_kinds.specs.declared.ImageReference.{ImageReference}
use Rattle.markdown_kinds.specs.declared.Text.{Text}
use Rattle.markdown_kinds.specs.declared.Code.{Code}
use Rattle.markdown_kinds.specs.declared.Math.{Math}
use Rattle.markdown_kinds.specs.declared.ThematicBreak.{ThematicBreak}
use Rattle.markdown_kinds.specs.declared.Definition.{Definition}
use Rattle.markdown_nodes.specs.Tree.{Label, root, paragraph, blockquote, emphasis, strong, delete, table_row, table_cell, thematic_break, «break», text, html, inline_code, inline_math, yaml, toml, heading, list, list_item, table, code, math, link, image, link_reference, image_reference, footnote_reference, footnote_definition, definition}
use Rattle.markdown_nodes.specs.Access.{label_of}

-- a node is of the kind that a label names
abbrev pub OfKind : Label → Node → Type 0
OfKind root node = (x : Root) × (node ≡ nodes.Root x)
OfKind blockquote node = (x : Blockquote) × (node ≡ nodes.Blockquote x)
OfKind (footnote_definition _ _) node = (x : FootnoteDefinition) × (node ≡ nodes.FootnoteDefinition x)
OfKind (list _ _ _) node = (x : ListNode) × (node ≡ nodes.List x)
OfKind (toml _) node = (x : Toml) × (node ≡ nodes.Toml x)
OfKind (yaml _) node = (x : Yaml) × (node ≡ nodes.Yaml x)
OfKind «break» node = (x : Break) × (node ≡ nodes.Break x)
OfKind (inline_code _) node = (x : InlineCode) × (node ≡ nodes.InlineCode x)
OfKind (inline_math _) node = (x : InlineMath) × (node ≡ nodes.InlineMath x)
OfKind delete node = (x : Delete) × (node ≡ nodes.Delete x)
OfKind emphasis node = (x : Emphasis) × (node ≡ nodes.Emphasis x)
OfKind (footnote_reference _ _) node = (x : FootnoteReference) × (node ≡ nodes.FootnoteReference x)
OfKind (html _) node = (x : Html) × (node ≡ nodes.Html x)
OfKind (image _ _ _) node = (x : Image) × (node ≡ nodes.Image x)
OfKind (image_reference _ _ _ _) node = (x : ImageReference) × (node ≡ nodes.ImageReference x)
OfKind (link _ _) node = (x : Link) × (node ≡ nodes.Link x)
OfKind (link_reference _ _ _) node = (x : LinkReference) × (node ≡ nodes.LinkReference x)
OfKind strong node = (x : Strong) × (node ≡ nodes.Strong x)
OfKind (text _) node = (x : Text) × (node ≡ nodes.Text x)
OfKind (code _ _ _) node = (x : Code) × (node ≡ nodes.Code x)
OfKind (math _ _) node = (x : Math) × (node ≡ nodes.Math x)
OfKind (heading _) node = (x : Heading) × (node ≡ nodes.Heading x)
OfKind (table _) node = (x : Table) × (node ≡ nodes.Table x)
OfKind thematic_break node = (x : ThematicBreak) × (node ≡ nodes.ThematicBreak x)
OfKind table_row node = (x : TableRow) × (node ≡ nodes.TableRow x)
OfKind table_cell node = (x : TableCell) × (node ≡ nodes.TableCell x)
OfKind (list_item _ _) node = (x : ListItem) × (node ≡ nodes.ListItem x)
OfKind (definition _ _ _ _) node = (x : Definition) × (node ≡ nodes.Definition x)
OfKind paragraph node = (x : Paragraph) × (node ≡ nodes.Paragraph x)

of_kind : (node : Node) → OfKind (label_of node) node
unfolding out-Node denote.Hole.Carrier.out
of_kind (nodes.Root' shape row position) = (_, sym (roll-out-Node (nodes.Root' shape row position)) ∙ nodes.rolls-Root _)
of_kind (nodes.Blockquote' shape row position) = (_, sym (roll-out-Node (nodes.Blockquote' shape row position)) ∙ nodes.rolls-Blockquote _)
of_kind (nodes.FootnoteDefinition' shape row position identifier label) = (_, sym (roll-out-Node (nodes.FootnoteDefinition' shape row position identifier label)) ∙ nodes.rolls-FootnoteDefinition _)
of_kind (nodes.List' shape row position ordered start spread) = (_, sym (roll-out-Node (nodes.List' shape row position ordered start spread)) ∙ nodes.rolls-List _)
of_kind (nodes.Toml x) = (x, refl)
of_kind (nodes.Yaml x) = (x, refl)
of_kind (nodes.Break x) = (x, refl)
of_kind (nodes.InlineCode x) = (x, refl)
of_kind (nodes.InlineMath x) = (x, refl)
of_kind (nodes.Delete' shape row position) = (_, sym (roll-out-Node (nodes.Delete' shape row position)) ∙ nodes.rolls-Delete _)
of_kind (nodes.Emphasis' shape row position) = (_, sym (roll-out-Node (nodes.Emphasis' shape row position)) ∙ nodes.rolls-Emphasis _)
of_kind (nodes.FootnoteReference x) = (x, refl)
of_kind (nodes.Html x) = (x, refl)
of_kind (nodes.Image x) = (x, refl)
of_kind (nodes.ImageReference x) = (x, refl)
of_kind (nodes.Link' shape row position url title) = (_, sym (roll-out-Node (nodes.Link' shape row position url title)) ∙ nodes.rolls-Link _)
of_kind (nodes.LinkReference' shape row position reference_kind identifier label) = (_, sym (roll-out-Node (nodes.LinkReference' shape row position reference_kind identifier label)) ∙ nodes.rolls-LinkReference _)
of_kind (nodes.Strong' shape row position) = (_, sym (roll-out-Node (nodes.Strong' shape row position)) ∙ nodes.rolls-Strong _)
of_kind (nodes.Text x) = (x, refl)
of_kind (nodes.Code x) = (x, refl)
of_kind (nodes.Math x) = (x, refl)
of_kind (nodes.Heading' shape row position depth) = (_, sym (roll-out-Node (nodes.Heading' shape row position depth)) ∙ nodes.rolls-Heading _)
of_kind (nodes.Table' shape row position align) = (_, sym (roll-out-Node (nodes.Table' shape row position align)) ∙ nodes.rolls-Table _)
of_kind (nodes.ThematicBreak x) = (x, refl)
of_kind (nodes.TableRow' shape row position) = (_, sym (roll-out-Node (nodes.TableRow' shape row position)) ∙ nodes.rolls-TableRow _)
of_kind (nodes.TableCell' shape row position) = (_, sym (roll-out-Node (nodes.TableCell' shape row position)) ∙ nodes.rolls-TableCell _)
of_kind (nodes.ListItem' shape row position spread checked) = (_, sym (roll-out-Node (nodes.ListItem' shape row position spread checked)) ∙ nodes.rolls-ListItem _)
of_kind (nodes.Definition x) = (x, refl)
of_kind (nodes.Paragraph' shape row position) = (_, sym (roll-out-Node (nodes.Paragraph' shape row position)) ∙ nodes.rolls-Paragraph _)

-- a node that is of no one kind with another has another label
pub apart : {X : Type 0} (kind : X → Node) (a b : Node) (x : X) → a ≡ kind x → (OfKind (label_of (kind x)) b → (y : X) × (b ≡ kind y)) → ((y : X) → b ≡ kind y → ⊥) → IsTrue false ↔ (label_of a ≡ label_of b)
apart kind a b x is told other = (
  λ e. absurd (true≢false (sym e)),
  λ e.
      let same : (y : _) × (b ≡ kind y) = told (subst (λ (l : Label). OfKind l b) (sym e ∙ ap label_of is) (of_kind b)) in
      absurd (other same.0 same.1),
)

-- nodes whose labels are the same
pub alike : (a b x y : Node) → a ≡ x → b ≡ y → label_of x ≡ label_of y → IsTrue true ↔ (label_of a ≡ label_of b)
alike a b x y is is' same = (λ _. ap label_of is ∙ same ∙ sym (ap label_of is'), λ _. refl)
