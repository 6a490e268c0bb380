-- A line ending after a break that waits for it ends the break, and gives nothing of its own.
use Rattle.std.proofs.Common.{◌≡◌, true, ◌++◌, Option, None, Some, refl, sym, ◌∙◌, ap}
use Rattle.markdown_nodes.proofs.Joining.{join_assoc}
use Rattle.markdown_events.specs.Forest.{Forest}
use Rattle.markdown_events.specs.Slices.{to_unist}
use Rattle.markdown_steps.specs.ChildFacts.{child_facts_of}
use Rattle.markdown_nodes.specs.Tree.{Label, Trees, from_to, join, node, nothing, seam, text}
use Rattle.markdown_events.specs.declared.event.Point.{Point}
use Rattle.markdown_events.specs.declared.unist.Point.{Point as UnistPoint}
use Rattle.markdown_events.specs.declared.unist.Position.{Position}
use Rattle.markdown_grammar.specs.Accepted.{ends_with_break}
use Rattle.markdown_steps.specs.Compiler.{ending_at, lengthened}
use Rattle.markdown_grammar.specs.Items.{Items, item, none, ◌then◌}
use Rattle.markdown_grammar.specs.Decorated.{node_at}
use Rattle.markdown_steps.specs.SummaryNodes.{node_of, nodes}
use Rattle.markdown_steps.specs.Summaries.{summary_of, itself}
use Rattle.markdown_grammar.specs.Attributes.{Place, inherited_after, inherited_in}
use Rattle.markdown_grammar.specs.Document.{Source}
use Rattle.markdown_grammar.specs.Sites.{inherited_after_all}
use Rattle.markdown_nodes.specs.Tree as tree
use Rattle.markdown_events.specs.declared.role.ItemKind.TheVariants.{Content as content}
use Rattle.markdown_events.specs.declared.role.Content.TheVariants as contents

abbrev pub IsSomeNode : Trees → Type 0
IsSomeNode nothing = ⊥
IsSomeNode (node l k h r) = Unit {0}

from_to-ending : (e : UnistPoint) (h h' : Option Position) → ending_at e (from_to h h') ≡ from_to h (ending_at e h')
from_to-ending e None h' = refl
from_to-ending e (Some p) None = refl
from_to-ending e (Some p) (Some q) = refl

seam-lengthened : (e : UnistPoint) (l : Label) (k : Trees) (h : Option Position) (b : Trees) → IsSomeNode b → lengthened e (seam l k h b) ≡ seam l k h (lengthened e b)
seam-lengthened e l k h nothing some = absurd some
seam-lengthened e (text v) k h (node (text u) k' h' nothing) some = λ i. node (text (v ++ u)) k (from_to-ending e h h' i) nothing
seam-lengthened e (text v) k h (node (text u) k' h' (node l' k'' h'' r)) some = refl
seam-lengthened e (text v) k h (node l k' h' nothing) some = refl
seam-lengthened e (text v) k h (node l k' h' (node l' k'' h'' r)) some = refl
seam-lengthened e l k h (node l' k' h' nothing) some = refl
seam-lengthened e l k h (node l' k' h' (node m k'' h'' r)) some = refl

lengthened-prefix : (e : UnistPoint) (l : Label) (k : Trees) (h : Option Position) (t : Trees) → IsSomeNode t → lengthened e (node l k h t) ≡ node l k h (lengthened e t)
lengthened-prefix e l k h nothing some = absurd some
lengthened-prefix e l k h (node l' k' h' r) some = refl

seam-some : (l : Label) (k : Trees) (h : Option Position) (b : Trees) → IsSomeNode (seam l k h b)
seam-some (text v) k h nothing = tt
seam-some (text v) k h (node (text u) k' h' r) = tt
seam-some (text v) k h (node l k' h' r) = tt
seam-some l k h b = tt

join-some : (a b : Trees) → IsSomeNode b → IsSomeNode (join a b)
join-some nothing b some = some
join-some (node l k h nothing) b some = seam-some l k h b
join-some (node l k h (node l' k' h' r)) b some = tt

pub join-lengthened : (e : UnistPoint) (a b : Trees) → IsSomeNode b → lengthened e (join a b) ≡ join a (lengthened e b)
join-lengthened e nothing b some = refl
join-lengthened e (node l k h nothing) b some = seam-lengthened e l k h b some
join-lengthened e (node l k h (node l' k' h' r)) b some =
    lengthened-prefix e l k h (join (node l' k' h' r) b) (join-some (node l' k' h' r) b some) ∙ ap (λ t. node l k h t) (join-lengthened e (node l' k' h' r) b some)

break-some : (s : Source) (p : Place) (xs : Items) → ends_with_break xs ≡ true → IsSomeNode (nodes s itself p xs)
break-some s p none h = let z : ⊥ = cc in absurd z
break-some s p (item (content contents.HardBreak) a b d i none) h = tt
break-some s p (item (content contents.HardBreak) a b d i (item (content contents.LineEnding) a' b' d' i' rest)) h =
    join-some (node_at tree.«break» nothing a b') (nodes s itself p rest) (break-some s p rest h)
break-some s p (item what a b d i rest) h =
    join-some (node_of s p what a b (child_facts_of d) (summary_of s (inherited_in what p) i (λ which. nodes s which (inherited_in what p) i))) (nodes s itself (inherited_after what p) rest) (break-some s (inherited_after what p) rest h)

pub nodes-then-ending : (s : Source) (p : Place) (xs ys : Items) (c e : Point) (d : Forest) (i : Items) → ends_with_break xs ≡ true
    → nodes s itself p (xs then item (content contents.LineEnding) c e d i ys) ≡ join (lengthened (to_unist e) (nodes s itself p xs)) (nodes s itself (inherited_after_all xs p) ys)
nodes-then-ending s p none ys c e d i h = let z : ⊥ = cc in absurd z
nodes-then-ending s p (item (content contents.HardBreak) a b d' i' none) ys c e d i h = refl
nodes-then-ending s p (item (content contents.HardBreak) a b d' i' (item (content contents.LineEnding) a' b' d'' i'' rest)) ys c e d i h =
    ap (λ t. join (node_at tree.«break» nothing a b') t) (nodes-then-ending s p rest ys c e d i h)
    ∙ sym (join_assoc (node_at tree.«break» nothing a b') (lengthened (to_unist e) (nodes s itself p rest)) (nodes s itself (inherited_after_all rest p) ys))
    ∙ ap (λ t. join t (nodes s itself (inherited_after_all rest p) ys)) (sym (join-lengthened (to_unist e) (node_at tree.«break» nothing a b') (nodes s itself p rest) (break-some s p rest h)))
nodes-then-ending s p (item what a b d' i' rest) ys c e d i h =
    let prefix : Trees = node_of s p what a b (child_facts_of d') (summary_of s (inherited_in what p) i' (λ which. nodes s which (inherited_in what p) i')) in
    let q : Place = inherited_after what p in
    ap (λ t. join prefix t) (nodes-then-ending s q rest ys c e d i h)
    ∙ sym (join_assoc prefix (lengthened (to_unist e) (nodes s itself q rest)) (nodes s itself (inherited_after_all rest q) ys))
    ∙ ap (λ t. join t (nodes s itself (inherited_after_all rest q) ys)) (sym (join-lengthened (to_unist e) prefix (nodes s itself q rest) (break-some s q rest h)))
