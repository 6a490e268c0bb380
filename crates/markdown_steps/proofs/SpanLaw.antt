-- The span law: where the points of a forest do not fall, the nodes of its meaning nest and stand in order.
use Rattle.std.specs.Prelude.{option_map}
use Rattle.std.proofs.Common.{◌≡◌, ◌≤◌, ◌<◌, ℕ, ◌^◌, Bool, true, false, ◌&&◌, ◌||◌, ◌==◌, cond, List, [], ◌∷◌, ◌++◌, Option, None, Some, refl, sym, ap, arith}
use Rattle.std.proofs.Common.{subst}
use Rattle.std.specs.Prelude.{⊤}
use lib.Chars.{codes}
use Rattle.markdown_events.specs.Forest.{Forest, empty, span, events_of}
use Rattle.markdown_events.specs.Names.{role_of}
use Rattle.markdown_events.specs.Spread.{loose_item}
use Rattle.markdown_steps.specs.ChildFacts.{child_facts_of}
use Rattle.markdown_nodes.specs.Tree.{Label, Trees, join, list_item, node, nothing, only, paragraph, seam, text}
use Rattle.markdown_events.specs.declared.event.Event.{Event}
use Rattle.markdown_events.specs.declared.event.Kind.TheVariants.{Enter, Exit}
use Rattle.markdown_events.specs.declared.event.Name.{Name}
use Rattle.markdown_events.specs.declared.event.Point.{Point}
use Rattle.markdown_events.specs.declared.role.ItemKind.{ItemKind}
use Rattle.markdown_events.specs.declared.role.Part.{Part}
use Rattle.markdown_events.specs.declared.role.Role.{Role}
use Rattle.markdown_events.specs.declared.unist.Point.{Point as UnistPoint}
use Rattle.markdown_events.specs.declared.unist.Position.{Position}
use Rattle.markdown_steps.proofs.ItemLists.{regroup}
use Rattle.markdown_grammar.specs.LineEndings.{ending_read}
use Rattle.markdown_grammar.specs.Attributes.{mark}
use Rattle.markdown_grammar.specs.Document.{value_read}
use Rattle.markdown_steps.specs.SummaryNodes.{autolink, media_of}
use Rattle.markdown_grammar.specs.Nodes.{Media, image_label, link_label, linked}
use Rattle.markdown_grammar.specs.Decorated.{node_at}
use Rattle.markdown_grammar.specs.Items.{Items, item, items, none, place_items, same_part, ◌then◌}
use Rattle.markdown_grammar.specs.Meaning.{extent, last_end, meaning}
use Rattle.markdown_steps.proofs.Decorating.{nodes-are}
use Rattle.markdown_grammar.specs.Nodes.{frontmatter}
use Rattle.markdown_steps.specs.SummaryNodes.{node_of, nodes}
use Rattle.markdown_grammar.specs.Ordered.{InOrder, IsBefore, IsOrdered, NeverGoesBack, RisesFrom, Standing, elsewhere, first_child, first_in_paragraph, first_in_task}
use Rattle.markdown_steps.specs.Summaries.{PartPath, FoundPart, address, first_part, summary_of, into, itself, path_to}
use Rattle.markdown_grammar.specs.Attributes.{Place, inherited_after, inherited_in, inherited_at_root}
use Rattle.markdown_grammar.specs.Document.{Source}
use Rattle.markdown_grammar.specs.Tasks.{after_blank, capped_sum, task, task_if, trimmed_text}
use Rattle.markdown_nodes.specs.Tree as tree
use Rattle.markdown_events.specs.declared.role.Content.TheVariants as contents
use Rattle.markdown_events.specs.declared.role.Part.TheVariants as parts
use Rattle.markdown_events.specs.declared.role.Role.TheVariants.{Transparent as transparent, Significant as significant}
use Rattle.markdown_events.specs.declared.role.ItemKind.TheVariants.{Content as content, Part as part}

-- ---- Lists of nodes

before-mono : (m n : ℕ) (t : Trees) → m ≤ n → IsBefore n t → IsBefore m t
before-mono m n nothing le h = tt
before-mono m n (node l k None r) le h = h
before-mono m n (node l k (Some p) r) le h = (omega (arith, h.0), before-mono m n r le h.1)

pub widen : (st : Standing) (lo hi lo' hi' : ℕ) (t : Trees) → lo' ≤ lo → hi ≤ hi' → InOrder st false lo hi t → InOrder st false lo' hi' t
widen st lo hi lo' hi' nothing le le' h = tt
widen st lo hi lo' hi' (node l k None r) le le' h = h
widen st lo hi lo' hi' (node l k (Some p) r) le le' h =
    (record { begins = λ f. omega (arith, h.0.begins f); ends = omega (arith, h.0.ends); forward = h.0.forward }, h.1, h.2, widen elsewhere lo hi lo' hi' r le le' h.3)

-- nodes in order from an offset on begin after it
starts : (lo hi : ℕ) (t : Trees) → InOrder elsewhere false lo hi t → IsBefore lo t
starts lo hi nothing h = tt
starts lo hi (node l k None r) h = h
starts lo hi (node l k (Some p) r) h = (h.0.begins refl, starts lo hi r h.3)

seam-before : (n : ℕ) (l : Label) (k : Trees) (p : Position) (t : Trees) → n ≤ p.start.offset → IsBefore n t → IsBefore n (seam l k (Some p) t)
seam-before n (text v) k p nothing h b = (h, b)
seam-before n (text v) k p (node (text u) k' None r) h b = absurd b
seam-before n (text v) k p (node (text u) k' (Some q) r) h b = (h, b.1)
seam-before n (text v) k p (node l k' q r) h b = (h, b)
seam-before n l k p t h b = (h, b)

join-before : (n : ℕ) (a b : Trees) → IsBefore n a → IsBefore n b → IsBefore n (join a b)
join-before n nothing b h h' = h'
join-before n (node l k None nothing) b h h' = absurd h
join-before n (node l k None (node l' k' q r)) b h h' = absurd h
join-before n (node l k (Some p) nothing) b h h' = seam-before n l k p b h.0 h'
join-before n (node l k (Some p) (node l' k' q r)) b h h' = (h.0, join-before n (node l' k' q r) b h.1 h')

-- a node and a list after it
put-before : (l : Label) (k : Trees) (p : Position) (lo mid hi : ℕ) (t : Trees) → lo ≤ mid → mid ≤ hi → InOrder elsewhere false lo mid (node l k (Some p) nothing) → InOrder elsewhere false mid hi t → InOrder elsewhere false lo hi (node l k (Some p) t)
put-before l k p lo mid hi t le le' h h' =
    (record { begins = h.0.begins; ends = omega (arith, h.0.ends); forward = h.0.forward }, before-mono p.end.offset mid t h.0.ends (starts mid hi t h'), h.2, widen elsewhere mid hi lo hi t le (omega arith) h')

seam-ordered : (l : Label) (k : Trees) (p : Position) (lo mid hi : ℕ) (t : Trees) → lo ≤ mid → mid ≤ hi → InOrder elsewhere false lo mid (node l k (Some p) nothing) → InOrder elsewhere false mid hi t → InOrder elsewhere false lo hi (seam l k (Some p) t)
seam-ordered (text v) k p lo mid hi nothing le le' h h' = put-before (text v) k p lo mid hi nothing le le' h h'
seam-ordered (text v) k p lo mid hi (node (text u) k' None r) le le' h h' = absurd h'
seam-ordered (text v) k p lo mid hi (node (text u) k' (Some q) r) le le' h h' =
    let a : p.start.offset ≤ p.end.offset = h.0.forward refl in
    let b : mid ≤ q.start.offset = h'.0.begins refl in
    let c : q.start.offset ≤ q.end.offset = h'.0.forward refl in
    let d : p.end.offset ≤ q.end.offset = omega (arith, h.0.ends) in
    (record { begins = h.0.begins; ends = h'.0.ends; forward = λ f. omega arith }, h'.1, widen elsewhere p.start.offset p.end.offset p.start.offset q.end.offset k (omega arith) d h.2, widen elsewhere mid hi lo hi r le (omega arith) h'.3)
seam-ordered (text v) k p lo mid hi (node l k' q r) le le' h h' = put-before (text v) k p lo mid hi (node l k' q r) le le' h h'
seam-ordered l k p lo mid hi t le le' h h' = put-before l k p lo mid hi t le le' h h'

pub join-ordered : (lo mid hi : ℕ) (a b : Trees) → lo ≤ mid → mid ≤ hi → InOrder elsewhere false lo mid a → InOrder elsewhere false mid hi b → InOrder elsewhere false lo hi (join a b)
join-ordered lo mid hi nothing b le le' h h' = widen elsewhere mid hi lo hi b le (omega arith) h'
join-ordered lo mid hi (node l k None nothing) b le le' h h' = absurd h
join-ordered lo mid hi (node l k None (node l' k' q r)) b le le' h h' = absurd h
join-ordered lo mid hi (node l k (Some p) nothing) b le le' h h' = seam-ordered l k p lo mid hi b le le' h h'
join-ordered lo mid hi (node l k (Some p) (node l' k' q r)) b le le' h h' = (
  record { begins = h.0.begins; ends = omega (arith, h.0.ends); forward = h.0.forward },
  join-before p.end.offset (node l' k' q r) b h.1 (before-mono p.end.offset mid b h.0.ends (starts mid hi b h')),
  h.2,
  join-ordered lo mid hi (node l' k' q r) b le le' h.3 h',
)

-- ---- A list of nodes in another standing

same-first : (l : Label) → first_child elsewhere l ≡ first_child first_in_paragraph l
same-first (list_item x (Some c)) = refl
same-first (list_item x None) = refl
same-first l = refl

free-rest : (lo hi lo' : ℕ) (t : Trees) → InOrder elsewhere false lo hi t → InOrder elsewhere true lo' hi t
free-rest lo hi lo' nothing h = tt
free-rest lo hi lo' (node l k None r) h = h
free-rest lo hi lo' (node l k (Some p) r) h = (record { begins = λ f. let z : ⊥ = cc in absurd z; ends = h.0.ends; forward = h.0.forward }, h.1, h.2, free-rest lo hi lo' r h.3)

-- as the children of a first paragraph
in-paragraph : (lo hi lo' : ℕ) (t : Trees) → InOrder elsewhere false lo hi t → InOrder first_in_paragraph true lo' hi t
in-paragraph lo hi lo' nothing h = tt
in-paragraph lo hi lo' (node l k None r) h = h
in-paragraph lo hi lo' (node l k (Some p) r) h =
    (record { begins = λ f. let z : ⊥ = cc in absurd z; ends = h.0.ends; forward = λ f. let z : ⊥ = cc in absurd z }, h.1, subst (λ st. InOrder st false p.start.offset p.end.offset k) (same-first l) h.2, free-rest lo hi lo' r h.3)

-- as the children of an item with a mark
in-task : (lo hi : ℕ) (t : Trees) → InOrder elsewhere false lo hi t → InOrder first_in_task false lo hi t
in-task lo hi nothing h = tt
in-task lo hi (node paragraph k (Some p) r) h =
    (record { begins = h.0.begins; ends = h.0.ends; forward = λ f. let z : ⊥ = cc in absurd z }, h.1, in-paragraph p.start.offset p.end.offset p.start.offset k h.2, h.3)
in-task lo hi (node (list_item x (Some c)) k (Some p) r) h = h
in-task lo hi (node (list_item x None) k (Some p) r) h = h
in-task lo hi (node l k None r) h = h
in-task lo hi (node l k (Some p) r) h = h

-- the point after a blank is not before it
late-cond : (m : ℕ) (b : Bool) (x y : List ℕ × UnistPoint) → m ≤ x.1.offset → m ≤ y.1.offset → m ≤ (cond b x y).1.offset
late-cond m true x y h h' = h
late-cond m false x y h h' = h'

stops : (n k : ℕ) → n < 2 ^ 64 → n ≤ capped_sum n k
stops n k h = omega arith

after_blank-late : (v : List ℕ) (p : UnistPoint) → p.offset < 2 ^ 64 → p.offset ≤ (after_blank v p).1.offset
after_blank-late [] p h = omega arith
after_blank-late (b ∷ []) p h = late-cond _ (b == 9 || b == 32) _ _ (stops p.offset 1 h) (late-cond _ (b == 10 || b == 13) _ _ (stops p.offset 1 h) (omega arith))
after_blank-late (b ∷ c ∷ v) p h = late-cond _ (b == 9 || b == 32) _ _ (stops p.offset 1 h) (late-cond _ (b == 13 && c == 10) _ _ (stops p.offset 2 h) (late-cond _ (b == 10 || b == 13) _ _ (stops p.offset 1 h) (omega arith)))

trimmed-ordered : (cut : List ℕ × UnistPoint) (lo hi : ℕ) (v : List ℕ) (k : Trees) (q : Position) (others : Trees) → InOrder elsewhere false lo hi (node (text v) k (Some q) others) → InOrder first_in_paragraph true cut.1.offset hi (trimmed_text cut (Some q) others)
trimmed-ordered ([], at) lo hi v k q others h = in-paragraph lo hi at.offset others h.3
trimmed-ordered (b ∷ bs, at) lo hi v k q others h =
    (record { begins = λ f. let z : ⊥ = cc in absurd z; ends = h.0.ends; forward = λ f. let z : ⊥ = cc in absurd z }, h.1, tt, free-rest lo hi at.offset others h.3)

pub task-ordered : (lo hi : ℕ) (t : Trees) → hi < 2 ^ 64 → InOrder elsewhere false lo hi t → InOrder first_in_task false lo hi (task t)
task-ordered lo hi (node paragraph (node (text (b ∷ bs)) k (Some q) others) None rest) small h = absurd h
task-ordered lo hi (node paragraph (node (text (b ∷ bs)) k (Some q) others) (Some p) rest) small h =
    let starts_late : p.start.offset ≤ q.start.offset = h.2.0.begins refl in
    let forward : q.start.offset ≤ q.end.offset = h.2.0.forward refl in
    let late : q.start.offset ≤ (after_blank (b ∷ bs) q.start).1.offset = after_blank-late (b ∷ bs) q.start (omega (arith, h.0.ends, h.2.0.ends)) in (
      record { begins = λ f. omega (arith, h.0.begins refl); ends = h.0.ends; forward = λ f. let z : ⊥ = cc in absurd z },
      h.1,
      trimmed-ordered (after_blank (b ∷ bs) q.start) p.start.offset p.end.offset (b ∷ bs) k q others h.2,
      h.3,
    )
task-ordered lo hi t small h = in-task lo hi t h

-- ---- The meaning

-- the points of the items do not fall, from an offset to another
abbrev pub Rises : ℕ → Items → ℕ → Type 0
Rises low none high = low ≤ high
Rises low (item _ start end _ inner rest) high = (low ≤ start.index) × Rises start.index inner end.index × Rises end.index rest high

rises-le : (lo : ℕ) (xs : Items) (hi : ℕ) → Rises lo xs hi → lo ≤ hi
rises-le lo none hi h = h
rises-le lo (item w a b d i rest) hi h = omega (arith, h.0, rises-le a.index i b.index h.1, rises-le b.index rest hi h.2)

-- a stretch lies between two offsets
abbrev LiesIn : ℕ → ℕ → Option FoundPart → Type 0
LiesIn lo hi None = ⊤
LiesIn lo hi (Some x) = (lo ≤ x.start.index) × (x.start.index ≤ x.end.index) × (x.end.index ≤ hi)

lies-mono : (lo lo' hi : ℕ) (o : Option FoundPart) → lo' ≤ lo → LiesIn lo hi o → LiesIn lo' hi o
lies-mono lo lo' hi None le h = tt
lies-mono lo lo' hi (Some x) le h = (omega (arith, h.0), h.1, h.2)

lies-cond : (lo hi : ℕ) (b : Bool) (x y : Option FoundPart) → LiesIn lo hi x → LiesIn lo hi y → LiesIn lo hi (cond b x y)
lies-cond lo hi true x y h h' = h
lies-cond lo hi false x y h h' = h'

part-lies : (q : Part) (p : Place) (lo : ℕ) (xs : Items) (hi : ℕ) → Rises lo xs hi → LiesIn lo hi (first_part q p xs)
part-lies q p lo none hi h = tt
part-lies q p lo (item (part r) a b d i rest) hi h =
    let ab : a.index ≤ b.index = rises-le a.index i b.index h.1 in
    let bh : b.index ≤ hi = rises-le b.index rest hi h.2 in
    lies-cond lo hi (same_part q r) _ _ (h.0, ab, bh) (lies-mono b.index lo hi (first_part q (inherited_after (part r) p) rest) (omega (arith, h.0)) (part-lies q (inherited_after (part r) p) b.index rest hi h.2))
part-lies q p lo (item (content c) a b d i rest) hi h =
    lies-mono b.index lo hi (first_part q (inherited_after (content c) p) rest) (omega (arith, h.0, rises-le a.index i b.index h.1)) (part-lies q (inherited_after (content c) p) b.index rest hi h.2)

-- `InOrder` with its trees in sight, so that they can be found
record Fine (lo hi : ℕ) (t : Trees) : Type 0 where
  ok : InOrder elsewhere false lo hi t

-- one node over its span
one-ordered : (l : Label) (k : Trees) (a b : Point) → a.index ≤ b.index → InOrder (first_child elsewhere l) false a.index b.index k → Fine a.index b.index (node_at l k a b)
one-ordered l k a b le h = record { ok = (record { begins = λ f. omega arith; ends = omega arith; forward = λ f. le }, tt, h, tt) }

linked-ordered : (scheme value : List ℕ) (a b c d : Point) → a.index ≤ c.index → c.index ≤ d.index → d.index ≤ b.index → Fine a.index b.index (linked scheme value a b c d)
linked-ordered scheme value a b c d h h' h'' =
    one-ordered (tree.link (scheme ++ value) None) (node_at (text value) nothing c d) a b (omega arith) (widen elsewhere c.index d.index a.index b.index (node_at (text value) nothing c d) h h'' (one-ordered (text value) nothing c d h' tt).ok)

autolink-ordered : (s : Source) (x y : Option FoundPart) (a b : Point) → a.index ≤ b.index → LiesIn a.index b.index x → LiesIn a.index b.index y
    → Fine a.index b.index (autolink (option_map (λ (z : FoundPart). address z.start z.end (value_read s z.start z.end)) x) (option_map (λ (z : FoundPart). address z.start z.end (value_read s z.start z.end)) y) a b)
autolink-ordered s (Some x) y a b le h h' = linked-ordered (codes "mailto:") (value_read s x.start x.end) a b x.start x.end h.0 h.1 h.2
autolink-ordered s None (Some y) a b le h h' = linked-ordered [] (value_read s y.start y.end) a b y.start y.end h'.0 h'.1 h'.2
autolink-ordered s None None a b le h h' = one-ordered (tree.link [] None) nothing a b le tt

item-ordered : (x : Bool) (m : Option Bool) (k : Trees) (a b : Point) → a.index ≤ b.index → b.index < 2 ^ 64 → InOrder elsewhere false a.index b.index k → Fine a.index b.index (node_at (tree.list_item x m) (task_if m k) a b)
item-ordered x None k a b le small h = one-ordered (tree.list_item x None) k a b le h
item-ordered x (Some m) k a b le small h = one-ordered (tree.list_item x (Some m)) (task k) a b le (task-ordered a.index b.index k small h)

if-ordered : (t : Bool) (lo hi : ℕ) (k : Trees) → Fine lo hi k → Fine lo hi (cond t k nothing)
if-ordered true lo hi k h = h
if-ordered false lo hi k h = record { ok = tt }

matter-ordered : (t : Bool) (v : List ℕ) (a b : Point) → a.index ≤ b.index → Fine a.index b.index (node_at (frontmatter t v) nothing a b)
matter-ordered true v a b le = one-ordered (tree.toml v) nothing a b le tt
matter-ordered false v a b le = one-ordered (tree.yaml v) nothing a b le tt

media-link : (m : Media) (k : Trees) (a b : Point) → a.index ≤ b.index → InOrder elsewhere false a.index b.index k → Fine a.index b.index (node_at (link_label m) k a b)
media-link m k a b le h = elim m.resource as (λ o. Fine a.index b.index (node_at (elim o [ Some r ↦ tree.link r.0 r.1 | None ↦ tree.link_reference m.kind m.identifier (Some m.label) ]) k a b)) [
  | Some r ↦ one-ordered (tree.link r.0 r.1) k a b le h
  | None ↦ one-ordered (tree.link_reference m.kind m.identifier (Some m.label)) k a b le h
]

media-image : (alt : List ℕ) (m : Media) (a b : Point) → a.index ≤ b.index → Fine a.index b.index (node_at (image_label alt m) nothing a b)
media-image alt m a b le = elim m.resource as (λ o. Fine a.index b.index (node_at (elim o [ Some r ↦ tree.image alt r.0 r.1 | None ↦ tree.image_reference alt m.kind m.identifier (Some m.label) ]) nothing a b)) [
  | Some r ↦ one-ordered (tree.image alt r.0 r.1) nothing a b le tt
  | None ↦ one-ordered (tree.image_reference alt m.kind m.identifier (Some m.label)) nothing a b le tt
]

-- The node of a span nests in it, where the nodes of its items do
node-ordered : (s : Source) (p from : Place) (what : ItemKind) (a b : Point) (d : Forest) (i : Items) (under : PartPath → Trees) → b.index < 2 ^ 64 → Rises a.index i b.index → ((w : PartPath) → InOrder elsewhere false a.index b.index (under w)) → Fine a.index b.index (node_of s p what a b (child_facts_of d) (summary_of s from i under))
node-ordered s p from (content contents.Data) a b d i under small h k = one-ordered _ nothing a b (rises-le _ i _ h) tt
node-ordered s p from (content contents.CharacterReference) a b d i under small h k = one-ordered _ nothing a b (rises-le _ i _ h) tt
node-ordered s p from (content contents.LineEnding) a b d i under small h k = if-ordered p.line_endings a.index b.index _ (one-ordered (text (ending_read s a b)) nothing a b (rises-le _ i _ h) tt)
node-ordered s p from (content contents.Autolink) a b d i under small h k = autolink-ordered s _ _ a b (rises-le _ i _ h) (part-lies parts.AutolinkEmail from _ i _ h) (part-lies parts.AutolinkProtocol from _ i _ h)
node-ordered s p from (content contents.AutolinkLiteralEmail) a b d i under small h k = linked-ordered (codes "mailto:") (value_read s a b) a b a b (omega arith) (rises-le _ i _ h) (omega arith)
node-ordered s p from (content contents.AutolinkLiteralWww) a b d i under small h k = linked-ordered (codes "http://") (value_read s a b) a b a b (omega arith) (rises-le _ i _ h) (omega arith)
node-ordered s p from (content contents.AutolinkLiteralWhole) a b d i under small h k = linked-ordered [] (value_read s a b) a b a b (omega arith) (rises-le _ i _ h) (omega arith)
node-ordered s p from (content contents.ListItem) a b d i under small h k = item-ordered (loose_item d) (mark i) (under itself) a b (rises-le _ i _ h) small (k itself)
node-ordered s p from (content contents.Frontmatter) a b d i under small h k = matter-ordered _ _ a b (rises-le _ i _ h)
node-ordered s p from (content contents.Link) a b d i under small h k = media-link (media_of (summary_of s from i under)) _ a b (rises-le _ i _ h) (k (path_to parts.LabelText))
node-ordered s p from (content contents.Image) a b d i under small h k = media-image _ (media_of (summary_of s from i under)) a b (rises-le _ i _ h)
node-ordered s p from (content contents.HardBreak) a b d i under small h k = one-ordered _ nothing a b (rises-le _ i _ h) tt
node-ordered s p from (content contents.ThematicBreak) a b d i under small h k = one-ordered _ nothing a b (rises-le _ i _ h) tt
node-ordered s p from (content contents.CodeFenced) a b d i under small h k = one-ordered _ nothing a b (rises-le _ i _ h) tt
node-ordered s p from (content contents.MathFlow) a b d i under small h k = one-ordered _ nothing a b (rises-le _ i _ h) tt
node-ordered s p from (content contents.CodeIndented) a b d i under small h k = one-ordered _ nothing a b (rises-le _ i _ h) tt
node-ordered s p from (content contents.CodeText) a b d i under small h k = one-ordered _ nothing a b (rises-le _ i _ h) tt
node-ordered s p from (content contents.MathText) a b d i under small h k = one-ordered _ nothing a b (rises-le _ i _ h) tt
node-ordered s p from (content contents.Html) a b d i under small h k = one-ordered _ nothing a b (rises-le _ i _ h) tt
node-ordered s p from (content contents.Definition) a b d i under small h k = one-ordered _ nothing a b (rises-le _ i _ h) tt
node-ordered s p from (content contents.FootnoteCall) a b d i under small h k = one-ordered _ nothing a b (rises-le _ i _ h) tt
node-ordered s p from (content _) a b d i under small h k = one-ordered _ (under itself) a b (rises-le _ i _ h) (k itself)
node-ordered s p from (part parts.HeadingSetextText) a b d i under small h k = record { ok = k itself }
node-ordered s p from (part _) a b d i under small h k = record { ok = tt }

-- The nodes of items nest and stand in order
pub nodes-ordered : (s : Source) (w : PartPath) (p : Place) (xs : Items) (lo hi : ℕ) → hi < 2 ^ 64 → Rises lo xs hi → InOrder elsewhere false lo hi (nodes s w p xs)
nodes-ordered s w p none lo hi small h = tt
nodes-ordered s itself p (item (content contents.HardBreak) a b d i (item (content contents.LineEnding) a' b' d' i' rest)) lo hi small h =
    let ab : a.index ≤ b.index = rises-le a.index i b.index h.1 in
    let ab' : a'.index ≤ b'.index = rises-le a'.index i' b'.index h.2.1 in
    let bh : b'.index ≤ hi = rises-le b'.index rest hi h.2.2 in
    let over : a.index ≤ b'.index = omega (arith, h.2.0) in
    join-ordered lo b'.index hi (node_at tree.«break» nothing a b') (nodes s itself p rest) (omega (arith, h.0)) bh
    (widen elsewhere a.index b'.index lo b'.index (node_at tree.«break» nothing a b') h.0 (omega arith) (one-ordered tree.«break» nothing a b' over tt).ok)
    (nodes-ordered s itself p rest b'.index hi small h.2.2)
nodes-ordered s itself p (item what a b d i rest) lo hi small h =
    let ab : a.index ≤ b.index = rises-le a.index i b.index h.1 in
    let bh : b.index ≤ hi = rises-le b.index rest hi h.2 in
    let on_next_line : b.index < 2 ^ 64 = omega arith in
    join-ordered lo b.index hi (node_of s p what a b (child_facts_of d) (summary_of s (inherited_in what p) i (λ which. nodes s which (inherited_in what p) i))) (nodes s itself (inherited_after what p) rest) (omega (arith, h.0)) bh
    (widen elsewhere a.index b.index lo b.index (node_of s p what a b (child_facts_of d) (summary_of s (inherited_in what p) i (λ which. nodes s which (inherited_in what p) i))) h.0 (omega arith) (node-ordered s p (inherited_in what p) what a b d i (λ which. nodes s which (inherited_in what p) i) on_next_line h.1 (λ which. nodes-ordered s which (inherited_in what p) i a.index b.index on_next_line h.1)).ok)
    (nodes-ordered s itself (inherited_after what p) rest b.index hi small h.2)
nodes-ordered s (into q way) p (item (part r) a b d i rest) lo hi small h =
    let ab : a.index ≤ b.index = rises-le a.index i b.index h.1 in
    let bh : b.index ≤ hi = rises-le b.index rest hi h.2 in
    elim (same_part q r) as (λ t. InOrder elsewhere false lo hi (elim t [ true ↦ nodes s way (inherited_in (part r) p) i | false ↦ nodes s (into q way) p rest ])) [
      | true ↦ widen elsewhere a.index b.index lo hi (nodes s way (inherited_in (part r) p) i) h.0 bh (nodes-ordered s way (inherited_in (part r) p) i a.index b.index (omega arith) h.1)
      | false ↦ widen elsewhere b.index hi lo hi (nodes s (into q way) p rest) (omega (arith, h.0)) (omega arith) (nodes-ordered s (into q way) p rest b.index hi small h.2)
    ]
nodes-ordered s (into q way) p (item (content c) a b d i rest) lo hi small h =
    widen elsewhere b.index hi lo hi (nodes s (into q way) p rest) (omega (arith, h.0, rises-le a.index i b.index h.1)) (omega arith) (nodes-ordered s (into q way) p rest b.index hi small h.2)

-- ---- From the events

rises-widen : (lo hi lo' hi' : ℕ) (xs : Items) → lo' ≤ lo → hi ≤ hi' → Rises lo xs hi → Rises lo' xs hi'
rises-widen lo hi lo' hi' none le le' h = omega (arith, h)
rises-widen lo hi lo' hi' (item w a b d i rest) le le' h = (omega (arith, h.0), h.1, rises-widen b.index hi b.index hi' rest (omega arith) le' h.2)

rises-then : (lo mid hi : ℕ) (xs ys : Items) → Rises lo xs mid → Rises mid ys hi → Rises lo (xs then ys) hi
rises-then lo mid hi none ys h h' = rises-widen mid hi lo hi ys h (omega arith) h'
rises-then lo mid hi (item w a b d i rest) ys h h' = (h.0, h.1, rises-then b.index mid hi rest ys h.2 h')

place-rises : (r : Role) (a b : Point) (c : Forest) (i rest : Items) (lo hi : ℕ) → lo ≤ a.index → Rises a.index i b.index → Rises b.index rest hi → Rises lo (place_items r a b c i rest) hi
place-rises (significant what) a b c i rest lo hi h h' h'' = (h, h', h'')
place-rises (transparent k) a b c i rest lo hi h h' h'' = rises-then lo b.index hi i rest (rises-widen a.index b.index lo b.index i h (omega arith) h') h''

-- the index at which a forest ends
abbrev end_index : ℕ → Forest → ℕ
end_index low empty = low
end_index low (span _ _ end _ rest) = end_index end.index rest

forest-rises : (f : Forest) (es : List Event) (lo : ℕ) → RisesFrom lo (events_of f ++ es) → Rises lo (items f) (end_index lo f) × RisesFrom (end_index lo f) es
forest-rises empty es lo h = (omega arith, h)
forest-rises (span n a b c r) es lo h =
    let flat : RisesFrom lo (record { kind = Enter; name = n; point = a } ∷ (events_of c ++ (record { kind = Exit; name = n; point = b } ∷ (events_of r ++ es)))) =
    subst (λ l. RisesFrom lo l) (regroup (record { kind = Enter; name = n; point = a }) (record { kind = Exit; name = n; point = b }) (events_of c) (events_of r) es) h in
    let on_next_line = forest-rises c (record { kind = Exit; name = n; point = b } ∷ (events_of r ++ es)) a.index flat.1 in
    let after = forest-rises r es b.index on_next_line.1.1 in
    (place-rises (role_of n) a b c (items c) (items r) lo (end_index b.index r) flat.0 (rises-widen a.index (end_index a.index c) a.index b.index (items c) (omega arith) on_next_line.1.0 on_next_line.0) after.0, after.1)

last_end-index : (b : Point) (r : Forest) → (last_end b r).index ≡ end_index b.index r
last_end-index b empty = refl
last_end-index b (span n a e c r) = last_end-index e r

append-nil : (xs : List Event) → xs ++ [] ≡ xs
append-nil [] = refl
append-nil (x ∷ xs) = ap (λ l. x ∷ l) (append-nil xs)

-- where the indexes never go back and fit a usize, the nodes of the meaning nest and stand in order
pub span_law : (s : Source) (f : Forest) → NeverGoesBack (events_of f) → (extent f).end.offset < 2 ^ 64 → IsOrdered (only (meaning s f))
span_law s empty h fits = tt
span_law s (span n a b c r) h fits =
    let last_fits : (last_end b r).index < 2 ^ 64 = fits in
    let all_ = forest-rises (span n a b c r) [] a.index (from_first n a b c r (subst NeverGoesBack (sym (append-nil (events_of (span n a b c r)))) h)) in
    let end : (last_end b r).index ≡ end_index b.index r = last_end-index b r in
    let rises : Rises a.index (items (span n a b c r)) (last_end b r).index = subst (λ m. Rises a.index (items (span n a b c r)) m) (sym end) all_.0 in
    subst (λ (ts : Trees). InOrder elsewhere false a.index (last_end b r).index ts) (nodes-are s inherited_at_root (items (span n a b c r)))
    (nodes-ordered s itself inherited_at_root (items (span n a b c r)) a.index (last_end b r).index (omega (arith, last_fits)) rises)
  where
    from_first : (n : Name) (a b : Point) (c r : Forest) → NeverGoesBack (events_of (span n a b c r) ++ []) → RisesFrom a.index (events_of (span n a b c r) ++ [])
    from_first n a b c r h = (omega arith, h.1)
