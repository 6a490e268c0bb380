-- In the nodes of a forest, each text has a position, and no nodes in it.
use Rattle.std.proofs.Common.{◌≡◌, ℕ, Bool, true, false, cond, List, [], ◌∷◌, Option, None, Some, refl}
use Rattle.std.specs.Prelude.{is_some, ⊤}
use Rattle.markdown_events.specs.Forest.{Forest}
use Rattle.markdown_events.specs.declared.event.Point.{Point}
use Rattle.markdown_events.specs.declared.role.ItemKind.{ItemKind}
use Rattle.markdown_events.specs.declared.role.ItemKind.TheVariants.{Content as content, Part as part}
use Rattle.markdown_events.specs.declared.role.Content.TheVariants as contents
use Rattle.markdown_events.specs.declared.role.Part.TheVariants as parts
use Rattle.markdown_events.specs.declared.unist.Point.{Point as UnistPoint}
use Rattle.markdown_events.specs.declared.unist.Position.{Position}
use Rattle.markdown_grammar.specs.Attributes.{Place, inherited_after, inherited_in, mark, value}
use Rattle.markdown_grammar.specs.Decorated.{Decorated, Found, node_at, nodes_of, within}
use Rattle.markdown_grammar.specs.Document.{Source}
use Rattle.markdown_grammar.specs.Items.{Items, is_part, item, none}
use Rattle.markdown_grammar.specs.LineEndings.{ending_read}
use Rattle.markdown_grammar.specs.Nodes.{Media, Span, autolink, decorate, frontmatter, image_label, link_label, node_of}
use Rattle.markdown_grammar.specs.Tasks.{after_blank, task, task_if, trimmed_text}
use Rattle.markdown_nodes.specs.Tree.{Label, Tree, Trees, from_to, join, node, nothing, paragraph, seam, text}
use Rattle.markdown_nodes.specs.Tree as tree

-- a text has nothing in it, and a position
abbrev pub IsBare : Label → Trees → Option Position → Type 0
IsBare (text value) children position = (children ≡ nothing) × (is_some position ≡ true)
IsBare label children position = ⊤

-- and so on, at any depth
abbrev pub AreBare : Trees → Type 0
AreBare nothing = ⊤
AreBare (node label children position rest) = IsBare label children position × AreBare children × AreBare rest

-- ---- Lists that are joined, and the mark of a task

from_to-some : (a b : Option Position) → is_some a ≡ true → is_some b ≡ true → is_some (from_to a b) ≡ true
from_to-some (Some a) (Some b) h k = refl
from_to-some (Some a) None h k = k
from_to-some None b h k = let z : ⊥ = cc in absurd z

bare-seam : (l : Label) (c : Trees) (h : Option Position) (b : Trees) → IsBare l c h → AreBare c → AreBare b → AreBare (seam l c h b)
bare-seam (text v) c h nothing x y z = (x, y, tt)
bare-seam (text v) c h (node (text u) c' h' r) x y z = ((x.0, from_to-some h h' x.1 z.0.1), y, z.2)
bare-seam (text v) c h (node l c' h' r) x y z = (x, y, z)
bare-seam l c h b x y z = (x, y, z)

pub bare-join : (a b : Trees) → AreBare a → AreBare b → AreBare (join a b)
bare-join nothing b x y = y
bare-join (node l c h nothing) b x y = bare-seam l c h b x.0 x.1 y
bare-join (node l c h (node l' c' h' r)) b x y = (x.0, x.1, bare-join (node l' c' h' r) b x.2 y)

bare-trimmed : (cut : List ℕ × UnistPoint) (here : Position) (others : Trees) → AreBare others → AreBare (trimmed_text cut (Some here) others)
bare-trimmed ([], p) here others h = h
bare-trimmed (b ∷ bs, p) here others h = ((refl, refl), tt, h)

bare-task : (t : Trees) → AreBare t → AreBare (task t)
bare-task (node paragraph (node (text (b ∷ bs)) c (Some at) others) here rest) h = (tt, bare-trimmed (after_blank (b ∷ bs) at.start) at others h.1.2, h.2)
bare-task t h = h

bare-task_if : (m : Option Bool) (t : Trees) → AreBare t → AreBare (task_if m t)
bare-task_if None t h = h
bare-task_if (Some b) t h = bare-task t h

-- ---- The node of an item

bare-line_ending : (s : Source) (t : Bool) (a b : Point) → AreBare (cond t (node_at (tree.text (ending_read s a b)) nothing a b) nothing)
bare-line_ending s true a b = ((refl, refl), tt, tt)
bare-line_ending s false a b = tt

bare-autolink : (s : Source) (x : Span) (email address : Option Found) → AreBare (autolink s x email address)
bare-autolink s x (Some email) address = (tt, ((refl, refl), tt, tt), tt)
bare-autolink s x None (Some address) = (tt, ((refl, refl), tt, tt), tt)
bare-autolink s x None None = (tt, tt, tt)

bare-link : (m : Media) (below : Trees) (a b : Point) → AreBare below → AreBare (node_at (link_label m) below a b)
bare-link m below a b h = by-resource m.resource
  where
    by-resource : (r : Option (List ℕ × Option (List ℕ))) → AreBare (node_at (elim r [ Some x ↦ tree.link x.0 x.1 | None ↦ tree.link_reference m.kind m.identifier (Some m.label) ]) below a b)
    by-resource (Some x) = (tt, h, tt)
    by-resource None = (tt, h, tt)

bare-image : (alt : List ℕ) (m : Media) (a b : Point) → AreBare (node_at (image_label alt m) nothing a b)
bare-image alt m a b = by-resource m.resource
  where
    by-resource : (r : Option (List ℕ × Option (List ℕ))) → AreBare (node_at (elim r [ Some x ↦ tree.image alt x.0 x.1 | None ↦ tree.image_reference alt m.kind m.identifier (Some m.label) ]) nothing a b)
    by-resource (Some x) = (tt, tt, tt)
    by-resource None = (tt, tt, tt)

bare-frontmatter : (is_toml : Bool) (value : List ℕ) (a b : Point) → AreBare (node_at (frontmatter is_toml value) nothing a b)
bare-frontmatter true value a b = (tt, tt, tt)
bare-frontmatter false value a b = (tt, tt, tt)

bare-node : (s : Source) (what : ItemKind) (x : Span) → AreBare (nodes_of x.items) → AreBare (nodes_of (within parts.LabelText x.items)) → AreBare (node_of s what x)
bare-node s (content contents.Data) x h k = ((refl, refl), tt, tt)
bare-node s (content contents.CharacterReference) x h k = ((refl, refl), tt, tt)
bare-node s (content contents.LineEnding) x h k = bare-line_ending s x.place.line_endings x.start x.end
bare-node s (content contents.Autolink) x h k = bare-autolink s x _ _
bare-node s (content contents.AutolinkLiteralEmail) x h k = (tt, ((refl, refl), tt, tt), tt)
bare-node s (content contents.AutolinkLiteralWww) x h k = (tt, ((refl, refl), tt, tt), tt)
bare-node s (content contents.AutolinkLiteralWhole) x h k = (tt, ((refl, refl), tt, tt), tt)
bare-node s (content contents.Image) x h k = bare-image _ _ x.start x.end
bare-node s (content contents.Frontmatter) x h k = bare-frontmatter _ _ x.start x.end
bare-node s (content contents.BlockQuote) x h k = (tt, h, tt)
bare-node s (content contents.Emphasis) x h k = (tt, h, tt)
bare-node s (content contents.Strong) x h k = (tt, h, tt)
bare-node s (content contents.Paragraph) x h k = (tt, h, tt)
bare-node s (content contents.Strikethrough) x h k = (tt, h, tt)
bare-node s (content contents.Table) x h k = (tt, h, tt)
bare-node s (content contents.TableRow) x h k = (tt, h, tt)
bare-node s (content contents.TableCell) x h k = (tt, h, tt)
bare-node s (content contents.HeadingAtx) x h k = (tt, h, tt)
bare-node s (content contents.HeadingSetext) x h k = (tt, h, tt)
bare-node s (content contents.ListOrdered) x h k = (tt, h, tt)
bare-node s (content contents.ListUnordered) x h k = (tt, h, tt)
bare-node s (content contents.FootnoteDefinition) x h k = (tt, h, tt)
bare-node s (content contents.ListItem) x h k = (tt, bare-task_if x.mark (nodes_of x.items) h, tt)
bare-node s (content contents.Link) x h k = bare-link _ (nodes_of (within parts.LabelText x.items)) x.start x.end k
bare-node s (part parts.HeadingSetextText) x h k = h
bare-node s (content c) x h k = (tt, tt, tt)
bare-node s (part q) x h k = tt

-- the nodes, and those of the label
pub record Bare (s : Source) (p : Place) (xs : Items) : Type 0 where
  pub nodes : AreBare (nodes_of (decorate s p xs))
  pub labels : AreBare (nodes_of (within parts.LabelText (decorate s p xs)))

bare-choice : (t : Bool) (xs ys : Decorated) → AreBare (nodes_of xs) → AreBare (nodes_of ys) → AreBare (nodes_of (cond t xs ys))
bare-choice true xs ys h k = h
bare-choice false xs ys h k = k

-- an item with what is known of it
abbrev pub span_of : Source → Place → ItemKind → Point → Point → Forest → Items → Span
span_of s p what a b d i = record { start = a; end = b; place = p; children = d; items = decorate s (inherited_in what p) i; mark = mark i; number = value s i }

-- the nodes of an item
abbrev pub own : Source → Place → ItemKind → Point → Point → Forest → Items → Trees
own s p what a b d i = node_of s what (span_of s p what a b d i)

pub bare-own : (s : Source) (p : Place) (what : ItemKind) (a b : Point) (d : Forest) (i : Items) → Bare s (inherited_in what p) i
    → AreBare (own s p what a b d i)
bare-own s p what a b d i h = bare-node s what (span_of s p what a b d i) h.nodes h.labels

pub bare-items : (s : Source) (p : Place) (xs : Items) → Bare s p xs
bare-items s p none = record { nodes = tt; labels = tt }
bare-items s p (item (content contents.HardBreak) a b d i (item (content contents.LineEnding) a' b' d' i' rest)) =
    let after : Bare s p rest = bare-items s p rest in
    record {
      nodes = bare-join (node_at tree.«break» nothing a b') (nodes_of (decorate s p rest)) (tt, tt, tt) after.nodes;
      labels = after.labels;
    }
bare-items s p (item what a b d i rest) =
    let inside : Bare s (inherited_in what p) i = bare-items s (inherited_in what p) i in
    let after : Bare s (inherited_after what p) rest = bare-items s (inherited_after what p) rest in
    record {
      nodes = bare-join (own s p what a b d i) (nodes_of (decorate s (inherited_after what p) rest)) (bare-own s p what a b d i inside) after.nodes;
      labels = bare-choice (is_part parts.LabelText what) (decorate s (inherited_in what p) i) (within parts.LabelText (decorate s (inherited_after what p) rest)) inside.nodes after.labels;
    }

pub bare-nodes : (s : Source) (p : Place) (xs : Items) → AreBare (nodes_of (decorate s p xs))
bare-nodes s p xs = (bare-items s p xs).nodes
