-- The nodes that a span means, from its own items.
use Rattle.std.specs.Prelude.{Bool, List, None, Option, Some, [], codes, false, if◌then◌else◌, is_some, option_map, true, unwrap_or, ℕ, ◌++◌}
use Rattle.markdown_nodes.specs.Tree.{Label, Trees, nothing, plain_text}
use Rattle.markdown_events.specs.declared.event.Point.{Point}
use Rattle.markdown_kinds.specs.declared.ReferenceKind.{ReferenceKind}
use Rattle.markdown_grammar.specs.Attributes.{Place, decoded, mark, inherited_after, inherited_in, unescapes, value}
use Rattle.markdown_grammar.specs.Decorated.{Decorated, Found, decorated, first, identifier, label_text, node_at, nodes_of, or_empty, text, undecorated, within}
use Rattle.std.specs.Option.{option_and_then, option_or}
use Rattle.markdown_events.specs.Forest.{Forest}
use Rattle.markdown_events.specs.Spread.{align, loose, loose_item}
use Rattle.markdown_events.specs.Texts.{raw, spaces, trim}
use Rattle.markdown_events.specs.declared.role.ItemKind.{ItemKind}
use Rattle.markdown_grammar.specs.Document.{Source, given_of, is_byte, length_between, value_read}
use Rattle.markdown_grammar.specs.Fenced.{fenced}
use Rattle.markdown_grammar.specs.LineEndings.{ending_read}
use Rattle.markdown_grammar.specs.Items.{Items, item, none}
use Rattle.markdown_grammar.specs.Tasks.{task_if}
use Rattle.markdown_events.specs.declared.role.ItemKind.TheVariants.{Content as content, Part as part}
use Rattle.markdown_events.specs.declared.role.Part.TheVariants as parts
use Rattle.markdown_kinds.specs.declared.ReferenceKind.TheVariants as reference_kind
use Rattle.markdown_nodes.specs.Tree as tree
use Rattle.markdown_events.specs.declared.role.Content.TheVariants as contents

-- a link to a scheme and a value, with the value as its text
abbrev pub linked : List ℕ → List ℕ → Point → Point → Point → Point → Trees
linked scheme value start end from to = node_at (tree.link (scheme ++ value) None) (node_at (tree.text value) nothing from to) start end

-- the target of a Link or an Image
pub record Media : Type 0 where
  -- the url and the title of the Resource, if there is one
  pub resource : Option (List ℕ × Option (List ℕ))
  pub kind : ReferenceKind
  pub identifier : List ℕ
  pub label : List ℕ

-- a Link with a Resource, otherwise a LinkReference
abbrev pub link_label : Media → Label
link_label m = elim m.resource [ Some r ↦ tree.link r.0 r.1 | None ↦ tree.link_reference m.kind m.identifier (Some m.label) ]

-- an Image with a Resource, otherwise an ImageReference
abbrev pub image_label : List ℕ → Media → Label
image_label alt m = elim m.resource [ Some r ↦ tree.image alt r.0 r.1 | None ↦ tree.image_reference alt m.kind m.identifier (Some m.label) ]

-- a Toml if true, otherwise a Yaml
abbrev pub frontmatter : Bool → List ℕ → Label
frontmatter true value = tree.toml value
frontmatter false value = tree.yaml value

-- a significant span: its ends, its place, the spans in it, its items, and the mark and the number that its items give
pub record Span : Type 0 where
  pub start : Point
  pub end : Point
  pub place : Place
  pub children : Forest
  pub items : Decorated
  pub mark : Option Bool
  pub number : Option ℕ

-- the value of the span
abbrev pub value_of : Source → Span → List ℕ
value_of s x = value_read s x.start x.end

-- the text of the nodes in it
abbrev pub content_of : Span → List ℕ
content_of x = plain_text (nodes_of x.items)

-- ---- The node of a span: a literal has no children, a parent has the nodes of its items

abbrev pub literal : Span → Label → Trees
literal x label = node_at label nothing x.start x.end

abbrev pub parent : Span → Label → Trees
parent x label = node_at label (nodes_of x.items) x.start x.end

-- a link to the address in the span, with that address as its text; an empty link if there is none
abbrev pub autolink : Source → Span → Option Found → Option Found → Trees
autolink s x (Some email) _ = linked (codes "mailto:") (value_read s email.start email.end) x.start x.end email.start email.end
autolink s x None (Some address) = linked [] (value_read s address.start address.end) x.start x.end address.start address.end
autolink s x None None = literal x (tree.link [] None)

-- the decoder's result for the value of a character reference
abbrev pub character : Source → Decorated → Option (List ℕ)
character s xs = option_and_then (λ (x : Found). decoded s x.place x.start x.end) (first parts.CharacterReferenceValue xs)

-- the depth of a heading: the length of its first sequence; for a setext heading 2 if its underline starts with a hyphen,
-- otherwise 1; 0 if that part is missing
abbrev pub atx_depth : Source → Decorated → ℕ
atx_depth s xs = unwrap_or (option_and_then (λ (x : Found). length_between s.bytes x.start x.end) (first parts.HeadingAtxSequence xs)) 0

abbrev pub setext_depth : Source → Decorated → ℕ
setext_depth s xs = unwrap_or (option_map (λ (x : Found). if is_byte s 45 x.start then 2 else 1) (first parts.HeadingSetextUnderlineSequence xs)) 0

-- the kind of a reference: a shortcut without a Reference, collapsed if the Reference has no string, otherwise full
abbrev pub kind_of_reference : Decorated → ReferenceKind
kind_of_reference xs =
    if is_some (first parts.Reference xs) then (if is_some (first parts.ReferenceString (within parts.Reference xs)) then reference_kind.Full else reference_kind.Collapsed) else reference_kind.Shortcut

-- the target of a Link or an Image: the texts of its Resource, and the kind, identifier and label as a reference
abbrev pub target : Source → Decorated → Media
target s xs =
    let resource : Decorated = within parts.Resource xs in
    let reference : Decorated = within parts.Reference xs in
    record {
      resource = option_map (λ (x : Found). (or_empty (text parts.ResourceDestinationString resource), text parts.ResourceTitleString resource)) (first parts.Resource xs);
      kind = kind_of_reference xs;
      identifier = or_empty (option_or (identifier s parts.ReferenceString reference) (identifier s parts.LabelText xs));
      label = or_empty (option_or (text parts.ReferenceString reference) (label_text xs));
    }

-- the text between the fences
abbrev pub fenced_of : Source → Span → List ℕ
fenced_of s x = fenced (given_of s) x.end.index (nodes_of x.items)

-- code, with the info and the meta of its first fence
abbrev pub fenced_code : Source → Span → Label
fenced_code s x =
    let fence : Decorated = within parts.CodeFencedFence x.items in
    tree.code (fenced_of s x) (text parts.CodeFencedFenceInfo fence) (text parts.CodeFencedFenceMeta fence)

-- the definition of a link or a footnote; without a label the identifier is empty
abbrev pub link_definition : Source → Span → Label
link_definition s x =
    tree.definition (or_empty (text parts.DefinitionDestinationString x.items)) (text parts.DefinitionTitleString x.items)
    (or_empty (identifier s parts.DefinitionLabelString x.items)) (text parts.DefinitionLabelString x.items)

abbrev pub note_definition : Source → Span → Label
note_definition s x = tree.footnote_definition (or_empty (identifier s parts.FootnoteDefinitionLabelString x.items)) (text parts.FootnoteDefinitionLabelString x.items)

-- the nodes of one span: one node or none. A part has none, except the text of a setext heading, which has the nodes of its items
abbrev pub node_of : Source → ItemKind → Span → Trees
node_of s (content contents.Data) x = literal x (tree.text (value_of s x))
node_of s (content contents.CharacterReference) x = literal x (tree.text (or_empty (character s x.items)))
node_of s (content contents.LineEnding) x = if x.place.line_endings then literal x (tree.text (ending_read s x.start x.end)) else nothing
node_of s (content contents.HardBreak) x = literal x tree.«break»
node_of s (content contents.Autolink) x = autolink s x (first parts.AutolinkEmail x.items) (first parts.AutolinkProtocol x.items)
node_of s (content contents.AutolinkLiteralEmail) x = linked (codes "mailto:") (value_of s x) x.start x.end x.start x.end
node_of s (content contents.AutolinkLiteralWww) x = linked (codes "http://") (value_of s x) x.start x.end x.start x.end
node_of s (content contents.AutolinkLiteralWhole) x = linked [] (value_of s x) x.start x.end x.start x.end
node_of s (content contents.BlockQuote) x = parent x tree.blockquote
node_of s (content contents.Emphasis) x = parent x tree.emphasis
node_of s (content contents.Strong) x = parent x tree.strong
node_of s (content contents.Paragraph) x = parent x tree.paragraph
node_of s (content contents.Strikethrough) x = parent x tree.delete
node_of s (content contents.Table) x = parent x (tree.table (align x.children))
node_of s (content contents.TableRow) x = parent x tree.table_row
node_of s (content contents.TableCell) x = parent x tree.table_cell
node_of s (content contents.HeadingAtx) x = parent x (tree.heading (atx_depth s x.items))
node_of s (content contents.HeadingSetext) x = parent x (tree.heading (setext_depth s x.items))
node_of s (part parts.HeadingSetextText) x = nodes_of x.items
node_of s (content contents.ThematicBreak) x = literal x tree.thematic_break
node_of s (content contents.ListOrdered) x = parent x (tree.list true x.number (loose x.children false))
node_of s (content contents.ListUnordered) x = parent x (tree.list false None (loose x.children false))
node_of s (content contents.ListItem) x = node_at (tree.list_item (loose_item x.children) x.mark) (task_if x.mark (nodes_of x.items)) x.start x.end
node_of s (content contents.CodeFenced) x = literal x (fenced_code s x)
node_of s (content contents.CodeIndented) x = literal x (tree.code (trim (content_of x) false true) None None)
node_of s (content contents.MathFlow) x = literal x (tree.math (fenced_of s x) (text parts.MathFlowFenceMeta (within parts.MathFlowFence x.items)))
node_of s (content contents.CodeText) x = literal x (tree.inline_code (raw (spaces (content_of x)) (unescapes s x.place)))
node_of s (content contents.MathText) x = literal x (tree.inline_math (raw (spaces (content_of x)) (unescapes s x.place)))
node_of s (content contents.Html) x = literal x (tree.html (content_of x))
node_of s (content contents.Frontmatter) x = literal x (frontmatter (is_byte s 43 x.start) (trim (content_of x) true true))
node_of s (content contents.Definition) x = literal x (link_definition s x)
node_of s (content contents.FootnoteDefinition) x = parent x (note_definition s x)
node_of s (content contents.FootnoteCall) x = literal x (tree.footnote_reference (or_empty (identifier s parts.LabelText x.items)) (Some (or_empty (label_text x.items))))
node_of s (content contents.Link) x = node_at (link_label (target s x.items)) (nodes_of (within parts.LabelText x.items)) x.start x.end
node_of s (content contents.Image) x = literal x (image_label (or_empty (label_text x.items)) (target s x.items))
node_of s (part _) x = nothing

-- the items from a place on, each with its nodes
abbrev pub decorate : Source → Place → Items → Decorated
decorate s p none = undecorated
decorate s p (item what start end children inner rest) =
    let own : Decorated = decorate s (inherited_in what p) inner in
    let x : Span = record { start = start; end = end; place = p; children = children; items = own; mark = mark inner; number = value s inner } in
    decorated what start end p (node_of s what x) own (decorate s (inherited_after what p) rest)
