-- If the own node of every item is so, then every node of a meaning is.
use Rattle.std.proofs.Common.{◌≡◌, ℕ, Bool, true, false, cond, List, [], ◌∷◌, Option, None, Some, refl, subst}
use Rattle.std.specs.Option.{option_or}
use Rattle.std.specs.Prelude.{codes, ⊤}
use Rattle.markdown_events.specs.Forest.{Forest}
use Rattle.markdown_events.specs.Slices.{between}
use Rattle.markdown_steps.specs.ChildFacts.{ChildFacts, child_facts_of}
use Rattle.markdown_nodes.specs.Tree.{Label, Trees, join, node, nothing, only, paragraph, seam, text}
use Rattle.markdown_events.specs.declared.event.Point.{Point}
use Rattle.markdown_events.specs.declared.role.ItemKind.{ItemKind}
use Rattle.markdown_events.specs.declared.unist.Point.{Point as UnistPoint}
use Rattle.markdown_events.specs.declared.unist.Position.{Position}
use Rattle.markdown_steps.proofs.Decorating.{nodes-are}
use Rattle.markdown_steps.specs.Consequences.{Everywhere}
use Rattle.markdown_grammar.specs.Document.{value_read}
use Rattle.markdown_grammar.specs.Items.{Items, item, items, none, same_part}
use Rattle.markdown_grammar.specs.Items.{marker_of}
use Rattle.markdown_grammar.specs.Meaning.{extent, meaning}
use Rattle.markdown_grammar.specs.Nodes.{Media, image_label, link_label, linked}
use Rattle.markdown_steps.specs.SummaryNodes.{autolink, media_of}
use Rattle.markdown_grammar.specs.Decorated.{node_at}
use Rattle.markdown_grammar.specs.Nodes.{frontmatter}
use Rattle.markdown_steps.specs.SummaryNodes.{node_of, nodes}
use Rattle.markdown_steps.specs.Summaries.{Summary, PartSummary, PartPath, address, count_of, summary_of, into, itself, path_to}
use Rattle.markdown_grammar.specs.Attributes.{Place, line_ending_is_text_after, inherited_after, inherited_in, inherited_at_root}
use Rattle.markdown_grammar.specs.Document.{Source}
use Rattle.markdown_grammar.specs.Tasks.{after_blank, task, task_if, trimmed_text}
use Rattle.markdown_nodes.specs.Tree as tree
use Rattle.markdown_events.specs.declared.role.Content.TheVariants as contents
use Rattle.markdown_events.specs.declared.role.Part.TheVariants as parts
use Rattle.markdown_events.specs.declared.role.ItemKind.TheVariants.{Content as content, Part as part}

-- ---- What the laws speak of

-- a node lies somewhere, and is so there
abbrev pub At : (Label → Position → Type 0) → Label → Option Position → Type 0
At Is label None = ⊥
At Is label (Some position) = Is label position

-- the kinds of which a law asks more than a position
abbrev pub is_asked_of : Label → Bool
is_asked_of (tree.heading depth) = true
is_asked_of (tree.list ordered start spread) = true
is_asked_of (tree.table alignments) = true
is_asked_of _ = false

-- nothing is asked of the other kinds
abbrev pub AsksNoMore : (Label → Position → Type 0) → Type 0
AsksNoMore Is = (label : Label) (position : Position) → is_asked_of label ≡ false → Is label position

-- the label of a span's own node, if it is of such a kind
abbrev pub asked_label : ItemKind → ChildFacts → Summary → Option Label
asked_label (content contents.HeadingAtx) shown i = Some (tree.heading (count_of (i.part (path_to parts.HeadingAtxSequence))))
asked_label (content contents.HeadingSetext) shown i = Some (tree.heading (count_of (i.part (path_to parts.HeadingSetextUnderlineSequence))))
asked_label (content contents.ListOrdered) shown i = Some (tree.list true i.value shown.loose_list)
asked_label (content contents.ListUnordered) shown i = Some (tree.list false None shown.loose_list)
asked_label (content contents.Table) shown i = Some (tree.table shown.align)
asked_label _ shown i = None

-- if there is such a label, it is so
abbrev pub IfAsked : (Label → Position → Type 0) → Position → Option Label → Type 0
IfAsked Is position None = ⊤
IfAsked Is position (Some label) = Is label position

-- what is kept of the items in an item
abbrev pub inner_from : Source → Place → Items → Summary
inner_from s p inner = summary_of s p inner (λ which. nodes s which p inner)

-- the own node of each item, at any depth, is so
abbrev pub OwnNodes : (Label → Position → Type 0) → Source → Place → Items → Type 0
OwnNodes Is s p none = ⊤
OwnNodes Is s p (item what start end children inner rest) =
    IfAsked Is (between start end) (asked_label what (child_facts_of children) (inner_from s (inherited_in what p) inner)) × OwnNodes Is s (inherited_in what p) inner × OwnNodes Is s (inherited_after what p) rest

-- ---- Lists of nodes

-- what is so everywhere is all that follows from it
pub everywhere-then : (Is Too : Label → Option Position → Type 0) → ((l : Label) (h : Option Position) → Is l h → Too l h) → (t : Trees) → Everywhere Is t → Everywhere Too t
everywhere-then Is Too follows nothing k = tt
everywhere-then Is Too follows (node l c h r) k = (follows l h k.0, everywhere-then Is Too follows c k.1, everywhere-then Is Too follows r k.2)

-- where two lists meet, at most a text comes about
seam-everywhere : (Is : Label → Position → Type 0) → AsksNoMore Is → (l : Label) (c : Trees) (h : Option Position) (b : Trees)
    → At Is l h → Everywhere (At Is) c → Everywhere (At Is) b → Everywhere (At Is) (seam l c h b)
seam-everywhere Is others (text v) c h nothing here below after = (here, below, tt)
seam-everywhere Is others (text v) c None (node (text u) c' h' r) here below after = absurd here
seam-everywhere Is others (text v) c (Some p) (node (text u) c' None r) here below after = absurd after.0
seam-everywhere Is others (text v) c (Some p) (node (text u) c' (Some q) r) here below after = (others _ _ refl, below, after.2)
seam-everywhere Is others (text v) c h (node l c' h' r) here below after = (here, below, after)
seam-everywhere Is others l c h b here below after = (here, below, after)

pub join-everywhere : (Is : Label → Position → Type 0) → AsksNoMore Is → (a b : Trees) → Everywhere (At Is) a → Everywhere (At Is) b → Everywhere (At Is) (join a b)
join-everywhere Is others nothing b first second = second
join-everywhere Is others (node l c h nothing) b first second = seam-everywhere Is others l c h b first.0 first.1 second
join-everywhere Is others (node l c h (node l' c' h' r)) b first second = (first.0, first.1, join-everywhere Is others (node l' c' h' r) b first.2 second)

-- a mark cuts texts and moves paragraphs, of which nothing more is asked
trimmed-everywhere : (Is : Label → Position → Type 0) → AsksNoMore Is → (cut : List ℕ × UnistPoint) (at : Position) (others : Trees) → Everywhere (At Is) others → Everywhere (At Is) (trimmed_text cut (Some at) others)
trimmed-everywhere Is asks ([], p) at others k = k
trimmed-everywhere Is asks (b ∷ bs, p) at others k = (asks _ _ refl, tt, k)

task-everywhere : (Is : Label → Position → Type 0) → AsksNoMore Is → (t : Trees) → Everywhere (At Is) t → Everywhere (At Is) (task t)
task-everywhere Is asks (node paragraph (node (text (b ∷ bs)) c (Some at) others) None rest) k = absurd k.0
task-everywhere Is asks (node paragraph (node (text (b ∷ bs)) c (Some at) others) (Some here) rest) k = (asks _ _ refl, trimmed-everywhere Is asks (after_blank (b ∷ bs) at.start) at others k.1.2, k.2)
task-everywhere Is asks t k = k

-- ---- The node of an item

-- nodes that are all so, with the nodes in sight
pub record AllSo (Is : Label → Position → Type 0) (t : Trees) : Type 0 where
  pub so : Everywhere (At Is) t

one-so : (Is : Label → Position → Type 0) (l : Label) (c : Trees) (a b : Point) → Is l (between a b) → Everywhere (At Is) c → AllSo Is (node_at l c a b)
one-so Is l c a b here below = record { so = (here, below, tt) }

-- links give a link and a text
linked-so : (Is : Label → Position → Type 0) → AsksNoMore Is → (scheme value : List ℕ) (a b from to : Point) → AllSo Is (linked scheme value a b from to)
linked-so Is asks scheme value a b from to = record { so = (asks _ _ refl, (asks _ _ refl, tt, tt), tt) }

autolink-so : (Is : Label → Position → Type 0) → AsksNoMore Is → (x y : Option PartSummary) (a b : Point) → AllSo Is (autolink x y a b)
autolink-so Is asks (Some (address from to value)) y a b = linked-so Is asks (codes "mailto:") value a b from to
autolink-so Is asks x (Some (address from to value)) a b = linked-so Is asks [] value a b from to
autolink-so Is asks x y a b = one-so Is (tree.link [] None) nothing a b (asks _ _ refl) tt

-- labels that are made by cases
link-unasked : (m : Media) → is_asked_of (link_label m) ≡ false
link-unasked m = by-resource m.resource
  where
    by-resource : (r : Option (List ℕ × Option (List ℕ))) → is_asked_of (elim r [ Some x ↦ tree.link x.0 x.1 | None ↦ tree.link_reference m.kind m.identifier (Some m.label) ]) ≡ false
    by-resource (Some x) = refl
    by-resource None = refl

image-unasked : (alt : List ℕ) (m : Media) → is_asked_of (image_label alt m) ≡ false
image-unasked alt m = by-resource m.resource
  where
    by-resource : (r : Option (List ℕ × Option (List ℕ))) → is_asked_of (elim r [ Some x ↦ tree.image alt x.0 x.1 | None ↦ tree.image_reference alt m.kind m.identifier (Some m.label) ]) ≡ false
    by-resource (Some x) = refl
    by-resource None = refl

frontmatter-unasked : (is_toml : Bool) (value : List ℕ) → is_asked_of (frontmatter is_toml value) ≡ false
frontmatter-unasked true value = refl
frontmatter-unasked false value = refl

task_if-everywhere : (Is : Label → Position → Type 0) → AsksNoMore Is → (m : Option Bool) (c : Trees) → Everywhere (At Is) c → Everywhere (At Is) (task_if m c)
task_if-everywhere Is asks None c k = k
task_if-everywhere Is asks (Some m) c k = task-everywhere Is asks c k

if-so : (Is : Label → Position → Type 0) (test : Bool) (t : Trees) → AllSo Is t → AllSo Is (cond test t nothing)
if-so Is true t k = k
if-so Is false t k = record { so = tt }

-- a node that a law asks nothing more of, without nodes in it and with those of the items in it
bare-so : (Is : Label → Position → Type 0) → AsksNoMore Is → (l : Label) (a b : Point) → is_asked_of l ≡ false → AllSo Is (node_at l nothing a b)
bare-so Is asks l a b free = one-so Is l nothing a b (asks l (between a b) free) tt

full-so : (Is : Label → Position → Type 0) → AsksNoMore Is → (l : Label) (c : Trees) (a b : Point) → is_asked_of l ≡ false → Everywhere (At Is) c → AllSo Is (node_at l c a b)
full-so Is asks l c a b free below = one-so Is l c a b (asks l (between a b) free) below

-- the nodes of an item, by its own label and the nodes in it
node-so : (Is : Label → Position → Type 0) → AsksNoMore Is → (s : Source) (p : Place) (what : ItemKind) (a b : Point) (shown : ChildFacts) (i : Summary)
    → IfAsked Is (between a b) (asked_label what shown i) → Everywhere (At Is) i.nodes → Everywhere (At Is) i.label → AllSo Is (node_of s p what a b shown i)
node-so Is asks s p (content contents.LineEnding) a b shown i own below label = if-so Is p.line_endings _ (bare-so Is asks _ a b refl)
node-so Is asks s p (content contents.Autolink) a b shown i own below label = autolink-so Is asks _ _ a b
node-so Is asks s p (content contents.AutolinkLiteralEmail) a b shown i own below label = linked-so Is asks (codes "mailto:") (value_read s a b) a b a b
node-so Is asks s p (content contents.AutolinkLiteralWww) a b shown i own below label = linked-so Is asks (codes "http://") (value_read s a b) a b a b
node-so Is asks s p (content contents.AutolinkLiteralWhole) a b shown i own below label = linked-so Is asks [] (value_read s a b) a b a b
node-so Is asks s p (content contents.BlockQuote) a b shown i own below label = full-so Is asks _ _ a b refl below
node-so Is asks s p (content contents.Emphasis) a b shown i own below label = full-so Is asks _ _ a b refl below
node-so Is asks s p (content contents.Strong) a b shown i own below label = full-so Is asks _ _ a b refl below
node-so Is asks s p (content contents.Strikethrough) a b shown i own below label = full-so Is asks _ _ a b refl below
node-so Is asks s p (content contents.Paragraph) a b shown i own below label = full-so Is asks _ _ a b refl below
node-so Is asks s p (content contents.TableRow) a b shown i own below label = full-so Is asks _ _ a b refl below
node-so Is asks s p (content contents.TableCell) a b shown i own below label = full-so Is asks _ _ a b refl below
node-so Is asks s p (content contents.FootnoteDefinition) a b shown i own below label = full-so Is asks _ _ a b refl below
node-so Is asks s p (content contents.ListItem) a b shown i own below label = full-so Is asks _ _ a b refl (task_if-everywhere Is asks i.mark i.nodes below)
node-so Is asks s p (content contents.Link) a b shown i own below label = full-so Is asks _ _ a b (link-unasked (media_of i)) label
node-so Is asks s p (content contents.Image) a b shown i own below label = bare-so Is asks _ a b (image-unasked _ (media_of i))
node-so Is asks s p (content contents.Frontmatter) a b shown i own below label = bare-so Is asks _ a b (frontmatter-unasked _ _)
node-so Is asks s p (content contents.HeadingAtx) a b shown i own below label = one-so Is _ _ a b own below
node-so Is asks s p (content contents.HeadingSetext) a b shown i own below label = one-so Is _ _ a b own below
node-so Is asks s p (content contents.ListOrdered) a b shown i own below label = one-so Is _ _ a b own below
node-so Is asks s p (content contents.ListUnordered) a b shown i own below label = one-so Is _ _ a b own below
node-so Is asks s p (content contents.Table) a b shown i own below label = one-so Is _ _ a b own below
node-so Is asks s p (content c) a b shown i own below label = bare-so Is asks _ a b refl
node-so Is asks s p (part parts.HeadingSetextText) a b shown i own below label = record { so = below }
node-so Is asks s p (part q) a b shown i own below label = record { so = tt }

-- ---- The nodes of items

-- of a place they ask only whether a table is around
own-elsewhere : (Is : Label → Position → Type 0) (s : Source) (in_table ending other_ending : Bool) (marker other_marker : Option ℕ) (xs : Items)
    → OwnNodes Is s (record { line_endings = ending; in_table = in_table; marker = marker }) xs → OwnNodes Is s (record { line_endings = other_ending; in_table = in_table; marker = other_marker }) xs
own-elsewhere Is s in_table ending other_ending marker other_marker none own = tt
own-elsewhere Is s in_table ending other_ending marker other_marker (item what a b d inner rest) own = (
  own.0,
  own.1,
  own-elsewhere Is s in_table (line_ending_is_text_after what ending) (line_ending_is_text_after what other_ending) (option_or (marker_of what) marker) (option_or (marker_of what) other_marker) rest own.2,
)

-- so after an item as before it
own-after : (Is : Label → Position → Type 0) (s : Source) (p : Place) (what : ItemKind) (xs : Items) → OwnNodes Is s (inherited_after what p) xs → OwnNodes Is s p xs
own-after Is s p what xs own = own-elsewhere Is s p.in_table (line_ending_is_text_after what p.line_endings) p.line_endings (option_or (marker_of what) p.marker) p.marker xs own

-- if the own nodes of items are so, then all of their nodes are
pub nodes-everywhere : (Is : Label → Position → Type 0) → AsksNoMore Is → (s : Source) (w : PartPath) (p : Place) (xs : Items) → OwnNodes Is s p xs → Everywhere (At Is) (nodes s w p xs)
nodes-everywhere Is asks s w p none own = tt
nodes-everywhere Is asks s itself p (item (content contents.HardBreak) a b d i (item (content contents.LineEnding) a' b' d' i' rest)) own =
    join-everywhere Is asks (node_at tree.«break» nothing a b') (nodes s itself p rest) (bare-so Is asks tree.«break» a b' refl).so (nodes-everywhere Is asks s itself p rest own.2.2)
nodes-everywhere Is asks s itself p (item what a b d i rest) own =
    join-everywhere Is asks (node_of s p what a b (child_facts_of d) (inner_from s (inherited_in what p) i)) (nodes s itself (inherited_after what p) rest)
    (node-so Is asks s p what a b (child_facts_of d) (inner_from s (inherited_in what p) i) own.0 (nodes-everywhere Is asks s itself (inherited_in what p) i own.1) (nodes-everywhere Is asks s (path_to parts.LabelText) (inherited_in what p) i own.1)).so
    (nodes-everywhere Is asks s itself (inherited_after what p) rest own.2)
nodes-everywhere Is asks s (into q way) p (item (part r) a b d i rest) own =
    elim (same_part q r) as (λ t. Everywhere (At Is) (elim t [ true ↦ nodes s way (inherited_in (part r) p) i | false ↦ nodes s (into q way) p rest ])) [
      | true ↦ nodes-everywhere Is asks s way (inherited_in (part r) p) i own.1
      | false ↦ nodes-everywhere Is asks s (into q way) p rest (own-after Is s p (part r) rest own.2)
    ]
nodes-everywhere Is asks s (into q way) p (item (content c) a b d i rest) own = nodes-everywhere Is asks s (into q way) p rest (own-after Is s p (content c) rest own.2)

-- and so are all of a meaning
pub meaning-everywhere : (Is : Label → Position → Type 0) → AsksNoMore Is → (s : Source) (f : Forest) → OwnNodes Is s inherited_at_root (items f) → Everywhere (At Is) (only (meaning s f))
meaning-everywhere Is asks s f own = (asks tree.root (extent f) refl, subst (Everywhere (At Is)) (nodes-are s inherited_at_root (items f)) (nodes-everywhere Is asks s itself inherited_at_root (items f) own), tt)
