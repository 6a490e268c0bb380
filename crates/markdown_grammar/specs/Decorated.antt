-- Items with the nodes of each, and how to find and read a part among them.
use Rattle.std.specs.Prelude.{List, None, Option, Some, [], if◌then◌else◌, option_map, unwrap_or, ℕ}
use Rattle.markdown_events.specs.Slices.{between}
use Rattle.markdown_nodes.specs.Tree.{Label, Trees, join, node, nothing, plain_label, plain_text}
use Rattle.markdown_events.specs.declared.event.Point.{Point}
use Rattle.markdown_events.specs.Texts.{fold}
use Rattle.markdown_events.specs.declared.role.ItemKind.{ItemKind}
use Rattle.markdown_events.specs.declared.role.Part.{Part}
use Rattle.markdown_grammar.specs.Document.{Source, label_read}
use Rattle.markdown_grammar.specs.Items.{is_part}
use Rattle.markdown_grammar.specs.Attributes.{Place}
use Rattle.markdown_events.specs.declared.role.ItemKind.TheVariants.{Content as content}
use Rattle.markdown_events.specs.declared.role.Part.TheVariants as parts
use Rattle.markdown_nodes.specs.Tree as tree
use Rattle.markdown_events.specs.declared.role.Content.TheVariants as contents

-- one node, from one point to another
abbrev pub node_at : Label → Trees → Point → Point → Trees
node_at label children start end = node label children (Some (between start end)) nothing

-- a list of items: what the first one is, its ends, its place, its own nodes, and the items in it; then the items after it
pub data Decorated : Type 0 where
  undecorated : Decorated
  decorated : (what : ItemKind) (start end : Point) (place : Place) (own : Trees) (inner rest : Decorated) → Decorated

-- the nodes of a list of items, with adjacent texts joined; a break and the line ending after it become one Break
abbrev pub nodes_of : Decorated → Trees
nodes_of undecorated = nothing
nodes_of (decorated (content contents.HardBreak) start _ _ _ _ (decorated (content contents.LineEnding) _ end _ _ _ rest)) = join (node_at tree.«break» nothing start end) (nodes_of rest)
nodes_of (decorated _ _ _ _ own _ rest) = join own (nodes_of rest)

-- ---- The parts among items

-- a part: its ends, its place, and its items
pub record Found : Type 0 where
  pub start : Point
  pub end : Point
  pub place : Place
  pub inner : Decorated

-- the first part of this kind
abbrev pub first : Part → Decorated → Option Found
first wanted undecorated = None
first wanted (decorated what start end place _ inner rest) = if is_part wanted what then Some (record { start = start; end = end; place = place; inner = inner }) else first wanted rest

-- the items in the first part of this kind, or none if there is no such part
abbrev pub within : Part → Decorated → Decorated
within wanted undecorated = undecorated
within wanted (decorated what _ _ _ _ inner rest) = if is_part wanted what then inner else within wanted rest

-- the text of the nodes in that part
abbrev pub text : Part → Decorated → Option (List ℕ)
text wanted xs = option_map (λ (x : Found). plain_text (nodes_of x.inner)) (first wanted xs)

-- the text of a label, which includes the alternative texts of images
abbrev pub label_text : Decorated → Option (List ℕ)
label_text xs = option_map (λ (x : Found). plain_label (nodes_of x.inner)) (first parts.LabelText xs)

-- the identifier that the visible bytes of that part spell
abbrev pub identifier : Source → Part → Decorated → Option (List ℕ)
identifier s wanted xs = option_map (λ (x : Found). fold (label_read s x.start x.end)) (first wanted xs)

-- a text, or the empty text if there is none
abbrev pub or_empty : Option (List ℕ) → List ℕ
or_empty t = unwrap_or t []
