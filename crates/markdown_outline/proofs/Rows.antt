-- The lines of an outline, item by item.
use Rattle.markdown_events.proofs.Booleans.{and-left, and-right}
use Rattle.std.proofs.Common.{◌≡◌, ℕ, Bool, true, false, cond, not, ◌&&◌, List, [], ◌++◌, Option, None, Some, refl, sym, ◌∙◌, ap, append-nil}
use Rattle.std.proofs.lemmas.Bool.{not-true}
use Rattle.markdown_events.specs.Forest.{Forest}
use Rattle.markdown_events.specs.declared.event.Point.{Point}
use Rattle.markdown_events.specs.declared.role.ItemKind.{ItemKind}
use Rattle.markdown_events.specs.declared.role.ItemKind.TheVariants.{Content as content, Part as part}
use Rattle.markdown_events.specs.declared.role.Content.TheVariants as contents
use Rattle.markdown_events.specs.declared.role.Part.TheVariants as parts
use Rattle.markdown_grammar.specs.Attributes.{Place, inherited_after, inherited_at_root, inherited_in, mark, value}
use Rattle.markdown_grammar.specs.Decorated.{Decorated, Found, node_at, nodes_of, within}
use Rattle.markdown_grammar.specs.Document.{Source}
use Rattle.markdown_grammar.specs.Items.{Items, is_part, item, items as items_of, none}
use Rattle.markdown_grammar.specs.LineEndings.{ending_read}
use Rattle.markdown_grammar.specs.Nodes.{Media, Span, autolink, decorate, frontmatter, image_label, link_label, linked}
use Rattle.markdown_nodes.specs.Tree.{Label, Trees, join, nothing}
use Rattle.markdown_grammar.specs.Meaning.{meaning}
use Rattle.markdown_outline.proofs.NoHeadings.{no_heading_items}
use Rattle.markdown_outline.proofs.Lines.{flat, lines, lines-join, lines-task_if}
use Rattle.mdast_util.proofs.BareTexts.{bare-nodes, own, span_of}
use Rattle.mdast_util.specs.Outline.{outline_of}
use Rattle.markdown_nodes.specs.Tree as tree
use Rattle.markdown_outline.specs.Headings.{is_heading_item}

-- ---- The lines of a list of items

-- the lines of an item
abbrev pub own_lines : Source → Place → ItemKind → Point → Point → Forest → Items → List ℕ
own_lines s p what a b d i = lines (own s p what a b d i)

-- the lines of each item
abbrev pub rows : Source → Place → Items → List ℕ
rows s p none = []
rows s p (item what a b d i rest) = own_lines s p what a b d i ++ rows s (inherited_after what p) rest

-- the lines of the items in the text of a label
abbrev pub label_rows : Source → Place → Items → List ℕ
label_rows s p none = []
label_rows s p (item what a b d i rest) = cond (is_part parts.LabelText what) (rows s (inherited_in what p) i) (label_rows s (inherited_after what p) rest)

-- a line ending has no line, whether it is text or not
no-line_ending : (s : Source) (t : Bool) (a b : Point) → lines (cond t (node_at (tree.text (ending_read s a b)) nothing a b) nothing) ≡ []
no-line_ending s true a b = refl
no-line_ending s false a b = refl

-- the lines of the nodes of a list of items are those of each item
pub nodes-rows : (s : Source) (p : Place) (xs : Items) → lines (nodes_of (decorate s p xs)) ≡ rows s p xs
nodes-rows s p none = refl
nodes-rows s p (item (content contents.HardBreak) a b d i (item (content contents.LineEnding) a' b' d' i' rest)) =
    lines-join (node_at tree.«break» nothing a b') (nodes_of (decorate s p rest))
    ∙ nodes-rows s p rest
    ∙ ap (λ (x : List ℕ). x ++ rows s p rest) (sym (no-line_ending s p.line_endings a' b'))
nodes-rows s p (item what a b d i rest) =
    lines-join (own s p what a b d i) (nodes_of (decorate s (inherited_after what p) rest))
    ∙ ap (λ (x : List ℕ). own_lines s p what a b d i ++ x) (nodes-rows s (inherited_after what p) rest)

pub label-rows : (s : Source) (p : Place) (xs : Items) → lines (nodes_of (within parts.LabelText (decorate s p xs))) ≡ label_rows s p xs
label-rows s p none = refl
label-rows s p (item what a b d i rest) =
    elim (is_part parts.LabelText what) as (λ t. lines (nodes_of (cond {A = Decorated} t (decorate s (inherited_in what p) i) (within parts.LabelText (decorate s (inherited_after what p) rest))))
    ≡ cond t (rows s (inherited_in what p) i) (label_rows s (inherited_after what p) rest)) [
      | true ↦ nodes-rows s (inherited_in what p) i
      | false ↦ label-rows s (inherited_after what p) rest
    ]

-- ---- The lines of an item

-- where the lines of an item come from
pub data Origin : Type 0 where
  nowhere items label : Origin

abbrev pub origin : ItemKind → Origin
origin (content contents.BlockQuote) = items
origin (content contents.Emphasis) = items
origin (content contents.Strong) = items
origin (content contents.Paragraph) = items
origin (content contents.Strikethrough) = items
origin (content contents.Table) = items
origin (content contents.TableRow) = items
origin (content contents.TableCell) = items
origin (part parts.HeadingSetextText) = items
origin (content contents.ListOrdered) = items
origin (content contents.ListUnordered) = items
origin (content contents.ListItem) = items
origin (content contents.FootnoteDefinition) = items
origin (content contents.Link) = label
origin _ = nowhere

abbrev pub from : Origin → List ℕ → List ℕ → List ℕ
from nowhere rows labels = []
from items rows labels = rows
from label rows labels = labels

no-linked : (scheme value : List ℕ) (a b c d : Point) → lines (linked scheme value a b c d) ≡ []
no-linked scheme value a b c d = refl

no-autolink : (s : Source) (x : Span) (email address : Option Found) → lines (autolink s x email address) ≡ []
no-autolink s x (Some email) address = refl
no-autolink s x None (Some address) = refl
no-autolink s x None None = refl

-- a link has the lines of its label
link-lines : (m : Media) (below : Trees) (a b : Point) → lines (node_at (link_label m) below a b) ≡ lines below ++ []
link-lines m below a b = by-resource m.resource
  where
    by-resource : (r : Option (List ℕ × Option (List ℕ))) → lines (node_at (elim r [ Some x ↦ tree.link x.0 x.1 | None ↦ tree.link_reference m.kind m.identifier (Some m.label) ]) below a b) ≡ lines below ++ []
    by-resource (Some x) = refl
    by-resource None = refl

no-image : (alt : List ℕ) (m : Media) (a b : Point) → lines (node_at (image_label alt m) nothing a b) ≡ []
no-image alt m a b = by-resource m.resource
  where
    by-resource : (r : Option (List ℕ × Option (List ℕ))) → lines (node_at (elim r [ Some x ↦ tree.image alt x.0 x.1 | None ↦ tree.image_reference alt m.kind m.identifier (Some m.label) ]) nothing a b) ≡ []
    by-resource (Some x) = refl
    by-resource None = refl

no-frontmatter : (is_toml : Bool) (value : List ℕ) (a b : Point) → lines (node_at (frontmatter is_toml value) nothing a b) ≡ []
no-frontmatter true value a b = refl
no-frontmatter false value a b = refl

parent-lines : (s : Source) (p : Place) (i : Items) → lines (nodes_of (decorate s p i)) ++ [] ≡ rows s p i
parent-lines s p i = append-nil (lines (nodes_of (decorate s p i))) ∙ nodes-rows s p i

-- the lines of an item that is no heading come from its items, from its label, or there are none
pub own-is : (s : Source) (p : Place) (what : ItemKind) (a b : Point) (d : Forest) (i : Items) → is_heading_item what ≡ false
    → own_lines s p what a b d i ≡ from (origin what) (rows s (inherited_in what p) i) (label_rows s (inherited_in what p) i)
own-is s p (content contents.HeadingAtx) a b d i h = let z : ⊥ = cc in absurd z
own-is s p (content contents.HeadingSetext) a b d i h = let z : ⊥ = cc in absurd z
own-is s p (content contents.LineEnding) a b d i h = no-line_ending s p.line_endings a b
own-is s p (content contents.Autolink) a b d i h = no-autolink s (span_of s p (content contents.Autolink) a b d i) _ _
own-is s p (content contents.Image) a b d i h = no-image _ _ a b
own-is s p (content contents.Frontmatter) a b d i h = no-frontmatter _ _ a b
own-is s p (content contents.BlockQuote) a b d i h = parent-lines s (inherited_in (content contents.BlockQuote) p) i
own-is s p (content contents.Emphasis) a b d i h = parent-lines s (inherited_in (content contents.Emphasis) p) i
own-is s p (content contents.Strong) a b d i h = parent-lines s (inherited_in (content contents.Strong) p) i
own-is s p (content contents.Paragraph) a b d i h = parent-lines s (inherited_in (content contents.Paragraph) p) i
own-is s p (content contents.Strikethrough) a b d i h = parent-lines s (inherited_in (content contents.Strikethrough) p) i
own-is s p (content contents.Table) a b d i h = parent-lines s (inherited_in (content contents.Table) p) i
own-is s p (content contents.TableRow) a b d i h = parent-lines s (inherited_in (content contents.TableRow) p) i
own-is s p (content contents.TableCell) a b d i h = parent-lines s (inherited_in (content contents.TableCell) p) i
own-is s p (content contents.ListOrdered) a b d i h = parent-lines s (inherited_in (content contents.ListOrdered) p) i
own-is s p (content contents.ListUnordered) a b d i h = parent-lines s (inherited_in (content contents.ListUnordered) p) i
own-is s p (content contents.FootnoteDefinition) a b d i h = parent-lines s (inherited_in (content contents.FootnoteDefinition) p) i
own-is s p (content contents.ListItem) a b d i h =
    ap (λ (x : List ℕ). x ++ []) (lines-task_if (mark i) (nodes_of (decorate s (inherited_in (content contents.ListItem) p) i)))
    ∙ parent-lines s (inherited_in (content contents.ListItem) p) i
own-is s p (content contents.Link) a b d i h =
    link-lines _ (nodes_of (within parts.LabelText (decorate s (inherited_in (content contents.Link) p) i))) a b
    ∙ append-nil (lines (nodes_of (within parts.LabelText (decorate s (inherited_in (content contents.Link) p) i))))
    ∙ label-rows s (inherited_in (content contents.Link) p) i
own-is s p (part parts.HeadingSetextText) a b d i h = nodes-rows s (inherited_in (part parts.HeadingSetextText) p) i
own-is s p what a b d i h = refl

-- ---- Items without headings

pub from-nothing : (o : Origin) → from o [] [] ≡ []
from-nothing nowhere = refl
from-nothing items = refl
from-nothing label = refl

-- no lines, and none in the label
pub record NoLines (s : Source) (p : Place) (xs : Items) : Type 0 where
  pub no_rows : rows s p xs ≡ []
  pub no_label : label_rows s p xs ≡ []

label-none : (t : Bool) (xs ys : List ℕ) → xs ≡ [] → ys ≡ [] → cond t xs ys ≡ []
label-none true xs ys h k = h
label-none false xs ys h k = k

-- where no item is a heading there are no lines
pub no-lines : (s : Source) (p : Place) (xs : Items) → no_heading_items xs ≡ true → NoLines s p xs
no-lines s p none h = record { no_rows = refl; no_label = refl }
no-lines s p (item what a b d i rest) h =
    let both : (not (is_heading_item what) && no_heading_items i) ≡ true = and-left (not (is_heading_item what) && no_heading_items i) (no_heading_items rest) h in
    let other : is_heading_item what ≡ false = not-true (is_heading_item what) (and-left (not (is_heading_item what)) (no_heading_items i) both) in
    let inside : NoLines s (inherited_in what p) i = no-lines s (inherited_in what p) i (and-right (not (is_heading_item what)) (no_heading_items i) both) in
    let after : NoLines s (inherited_after what p) rest = no-lines s (inherited_after what p) rest (and-right (not (is_heading_item what) && no_heading_items i) (no_heading_items rest) h) in
    let own : own_lines s p what a b d i ≡ [] = own-is s p what a b d i other ∙ (λ t. from (origin what) (inside.no_rows t) (inside.no_label t)) ∙ from-nothing (origin what) in
    record {
      no_rows = (λ t. own t ++ after.no_rows t);
      no_label = label-none (is_part parts.LabelText what) (rows s (inherited_in what p) i) (label_rows s (inherited_after what p) rest) inside.no_rows after.no_label;
    }

-- ---- The outline of a meaning

pub outline-rows : (s : Source) (f : Forest) → outline_of (meaning s f) ≡ rows s inherited_at_root (items_of f)
outline-rows s f =
    flat (nodes_of (decorate s inherited_at_root (items_of f))) (bare-nodes s inherited_at_root (items_of f))
    ∙ nodes-rows s inherited_at_root (items_of f)
