-- How many nodes an item gives, and how many its container keeps then.
use Rattle.std.proofs.Common.{◌≡◌, ◌≤◌, ℕ, ◌+◌, Bool, true, false, cond, List, [], ◌∷◌, Option, None, Some, refl, arith}
use Rattle.markdown_events.specs.Slices.{to_unist}
use Rattle.markdown_steps.specs.ChildFacts.{ChildFacts}
use Rattle.markdown_events.specs.declared.event.Point.{Point}
use Rattle.markdown_events.specs.declared.role.ItemKind.{ItemKind}
use Rattle.markdown_events.specs.declared.unist.Point.{Point as UnistPoint}
use Rattle.markdown_events.specs.declared.unist.Position.{Position}
use Rattle.markdown_nodes.specs.Tree.{Label, Trees, join, node, nothing, paragraph, seam, text}
use Rattle.markdown_grammar.specs.LineEndings.{ending_read}
use Rattle.markdown_grammar.specs.Buffers.{node_count}
use Rattle.markdown_steps.specs.Compiler.{ContainerState, with_child, label_with, lengthened, nodes_with}
use Rattle.markdown_grammar.specs.Items.{is_part}
use Rattle.markdown_steps.specs.SummaryNodes.{autolink}
use Rattle.markdown_grammar.specs.Decorated.{node_at}
use Rattle.markdown_steps.specs.SummaryNodes.{node_of}
use Rattle.markdown_steps.specs.Summaries.{Summary, PartSummary, address, path_to}
use Rattle.markdown_grammar.specs.Attributes.{Place}
use Rattle.markdown_grammar.specs.Document.{Source}
use Rattle.markdown_grammar.specs.Tasks.{after_blank, task, task_if, trimmed_text}
use Rattle.markdown_events.specs.declared.role.Content.TheVariants as contents
use Rattle.markdown_events.specs.declared.role.Part.TheVariants as parts
use Rattle.markdown_events.specs.declared.role.ItemKind.TheVariants.{Content as content, Part as part}

-- ---- Joining, lengthening, trimming

seam-count : (l : Label) (k : Trees) (h : Option Position) (b : Trees) → node_count (seam l k h b) ≤ 1 + node_count k + node_count b
seam-count (text v) k h nothing = omega arith
seam-count (text v) k h (node (text u) k' h' r) = omega arith
seam-count (text v) k h (node l k' h' r) = omega arith
seam-count l k h b = omega arith

join-count : (a b : Trees) → node_count (join a b) ≤ node_count a + node_count b
join-count nothing b = omega arith
join-count (node l k h nothing) b = let e = seam-count l k h b in omega (arith, e)
join-count (node l k h (node l' k' h' r)) b = let e = join-count (node l' k' h' r) b in omega (arith, e)

lengthened-count : (end : UnistPoint) (a : Trees) → node_count (lengthened end a) ≡ node_count a
lengthened-count end nothing = refl
lengthened-count end (node l k h nothing) = refl
lengthened-count end (node l k h (node l' k' h' r)) = let e = lengthened-count end (node l' k' h' r) in omega (arith, e)

with-count : (after_break : Bool) (b : Point) (made old : Trees) → node_count (nodes_with after_break b made old) ≤ node_count made + node_count old
with-count true b made old = let e = lengthened-count (to_unist b) old in omega (arith, e)
with-count false b made old = let e = join-count old made in omega (arith, e)

trimmed-count : (cut : List ℕ × UnistPoint) (here : Option Position) (rest : Trees) → node_count (trimmed_text cut here rest) ≤ 1 + node_count rest
trimmed-count ([], p) here rest = omega arith
trimmed-count (b ∷ bs, p) here rest = omega arith

task-count : (t : Trees) → node_count (task t) ≤ node_count t
task-count (node paragraph (node (text (b ∷ bs)) k (Some q) others) here rest) =
    let e = trimmed-count (after_blank (b ∷ bs) q.start) (Some q) others in
    omega (arith, e)
task-count t = omega arith

task_if-count : (m : Option Bool) (t : Trees) → node_count (task_if m t) ≤ node_count t
task_if-count None t = omega arith
task_if-count (Some m) t = task-count t

-- ---- The nodes of one item

autolink-count : (x y : Option PartSummary) (a b : Point) → node_count (autolink x y a b) ≤ 2
autolink-count (Some (address from to v)) y a b = omega arith
autolink-count x (Some (address from to v)) a b = omega arith
autolink-count x y a b = omega arith

line-count : (t : Bool) (l : Label) (a b : Point) → node_count (cond t (node_at l nothing a b) nothing) ≤ 2
line-count true l a b = omega arith
line-count false l a b = omega arith

-- the nodes that an item gives, and its nodes where it is a label
abbrev given : Source → Place → ItemKind → Point → Point → ChildFacts → Summary → ℕ
given s p what a b d i = node_count (node_of s p what a b d i) + node_count (cond (is_part parts.LabelText what) i.nodes nothing)

record Few (n m : ℕ) : Type 0 where
  few : n ≤ m

-- at most two more than it keeps
given-few : (s : Source) (p : Place) (what : ItemKind) (a b : Point) (d : ChildFacts) (i : Summary) → Few (given s p what a b d i) (2 + (node_count i.nodes + node_count i.label))
given-few s p (content contents.LineEnding) a b d i = let e = line-count p.line_endings (text (ending_read s a b)) a b in record { few = omega (arith, e) }
given-few s p (content contents.Autolink) a b d i = let e = autolink-count (i.part (path_to parts.AutolinkEmail)) (i.part (path_to parts.AutolinkProtocol)) a b in record { few = omega (arith, e) }
given-few s p (content contents.ListItem) a b d i = let e = task_if-count i.mark i.nodes in record { few = omega (arith, e) }
given-few s p (content _) a b d i = record { few = omega arith }
given-few s p (part parts.HeadingSetextText) a b d i = record { few = omega arith }
given-few s p (part parts.LabelText) a b d i = record { few = omega arith }
given-few s p (part _) a b d i = record { few = omega arith }

-- the nodes that a container keeps, those of its label too
abbrev pub kept_nodes : ContainerState → ℕ
kept_nodes t = node_count t.inner.nodes + node_count t.inner.label

label-few : (what : ItemKind) (ts old : Trees) (k : Option PartSummary) → node_count (label_with what ts k old) ≤ node_count old + node_count (cond (is_part parts.LabelText what) ts nothing)
label-few what ts old (Some k) = omega arith
label-few what ts old None = omega arith

-- an item adds at most two to what it keeps and its container kept
pub closed-few : (s : Source) (top : ContainerState) (what : ItemKind) (a b : Point) (d : ChildFacts) (own : ContainerState) → kept_nodes (with_child s top what a b d own.inner) ≤ 2 + (kept_nodes top + kept_nodes own)
closed-few s top what a b d own =
    let one = (given-few s top.place what a b d own.inner).few in
    let two = label-few what own.inner.nodes top.inner.label (top.inner.part (path_to parts.LabelText)) in
    let three = with-count top.after_break b (node_of s top.place what a b d own.inner) top.inner.nodes in
    omega (arith, one, two, three)
