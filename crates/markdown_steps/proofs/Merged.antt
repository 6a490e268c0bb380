-- In a meaning no Text follows a Text among siblings.
use Rattle.std.proofs.Common.{◌≡◌, ℕ, Bool, true, false, ◌&&◌, List, [], ◌∷◌, Option, None, Some, refl, subst, cond, ◌∙◌}
use Rattle.std.specs.Prelude.{option_map}
use Rattle.markdown_events.specs.Forest.{Forest}
use Rattle.markdown_steps.specs.ChildFacts.{child_facts_of}
use Rattle.markdown_nodes.specs.Tree.{Label, Trees, join, node, nothing, only, paragraph, seam, text}
use Rattle.markdown_events.specs.declared.event.Point.{Point}
use Rattle.markdown_events.specs.declared.role.ItemKind.{ItemKind}
use Rattle.markdown_events.specs.declared.unist.Point.{Point as UnistPoint}
use Rattle.markdown_events.specs.declared.unist.Position.{Position}
use Rattle.markdown_steps.specs.Consequences.{NoTextAfterText, begins_with_text}
use Rattle.markdown_steps.proofs.Decorating.{nodes-are}
use Rattle.markdown_steps.specs.Consequences.{is_text}
use Rattle.markdown_grammar.specs.Attributes.{mark}
use Rattle.markdown_grammar.specs.Document.{value_read}
use Rattle.markdown_steps.specs.SummaryNodes.{autolink, media_of}
use Rattle.markdown_grammar.specs.Nodes.{link_label}
use Rattle.markdown_grammar.specs.Decorated.{node_at}
use Rattle.markdown_grammar.specs.Items.{Items, item, items, none, same_part}
use Rattle.markdown_grammar.specs.Meaning.{meaning}
use Rattle.markdown_steps.specs.SummaryNodes.{node_of, nodes}
use Rattle.markdown_steps.specs.Summaries.{PartPath, FoundPart, address, summary_of, into, itself, path_to}
use Rattle.markdown_grammar.specs.Attributes.{Place, inherited_after, inherited_in, inherited_at_root}
use Rattle.markdown_grammar.specs.Document.{Source}
use Rattle.markdown_grammar.specs.Tasks.{after_blank, task, task_if, trimmed_text}
use Rattle.markdown_nodes.specs.Tree as tree
use Rattle.markdown_events.specs.declared.role.Content.TheVariants as contents
use Rattle.markdown_events.specs.declared.role.Part.TheVariants as parts
use Rattle.markdown_events.specs.declared.role.ItemKind.TheVariants.{Content as content, Part as part}

seam-begins : (l : Label) (k : Trees) (h : Option Position) (b : Trees) → begins_with_text (seam l k h b) ≡ is_text l
seam-begins (text v) k h nothing = refl
seam-begins (text v) k h (node (text u) k' h' r) = refl
seam-begins (text v) k h (node l k' h' r) = refl
seam-begins l k h b = refl

join-begins : (l : Label) (k : Trees) (h : Option Position) (r b : Trees) → begins_with_text (join (node l k h r) b) ≡ is_text l
join-begins l k h nothing b = seam-begins l k h b
join-begins l k h (node l' k' h' r) b = refl

seam-merged : (l : Label) (k : Trees) (h : Option Position) (b : Trees) → NoTextAfterText k → NoTextAfterText b → NoTextAfterText (seam l k h b)
seam-merged (text v) k h nothing hk hb = (hk, refl, tt)
seam-merged (text v) k h (node (text u) k' h' r) hk hb = (hk, hb.1, hb.2)
seam-merged (text v) k h (node l k' h' r) hk hb = (hk, refl, hb)
seam-merged l k h b hk hb = (hk, refl, hb)

pub join-merged : (a b : Trees) → NoTextAfterText a → NoTextAfterText b → NoTextAfterText (join a b)
join-merged nothing b ha hb = hb
join-merged (node l k h nothing) b ha hb = seam-merged l k h b ha.0 hb
join-merged (node l k h (node l' k' h' r)) b ha hb = (ha.0, (λ i. is_text l && join-begins l' k' h' r b i) ∙ ha.1, join-merged (node l' k' h' r) b ha.2 hb)

trimmed-merged : (cut : List ℕ × UnistPoint) (q : Option Position) (v : List ℕ) (k others : Trees) → NoTextAfterText (node (text v) k q others) → NoTextAfterText (trimmed_text cut q others)
trimmed-merged ([], p) q v k others h = h.2
trimmed-merged (b ∷ bs, p) q v k others h = (tt, h.1, h.2)

task-merged : (t : Trees) → NoTextAfterText t → NoTextAfterText (task t)
task-merged (node paragraph (node (text (b ∷ bs)) k (Some q) others) here rest) h = (trimmed-merged (after_blank (b ∷ bs) q.start) (Some q) (b ∷ bs) k others h.0, h.1, h.2)
task-merged t h = h

record Whole (t : Trees) : Type 0 where
  ok : NoTextAfterText t

and-false : (b : Bool) → (b && false) ≡ false
and-false true = refl
and-false false = refl

one-merged : (l : Label) (k : Trees) (a b : Point) → NoTextAfterText k → Whole (node_at l k a b)
one-merged l k a b h = record { ok = (h, and-false (is_text l), tt) }

autolink-merged : (s : Source) (x y : Option FoundPart) (a b : Point) → Whole (autolink (option_map (λ (z : FoundPart). address z.start z.end (value_read s z.start z.end)) x) (option_map (λ (z : FoundPart). address z.start z.end (value_read s z.start z.end)) y) a b)
autolink-merged s (Some x) y a b = record { ok = ((tt, refl, tt), refl, tt) }
autolink-merged s None (Some y) a b = record { ok = ((tt, refl, tt), refl, tt) }
autolink-merged s None None a b = record { ok = (tt, refl, tt) }

task_if-merged : (ms : Option Bool) (k : Trees) → NoTextAfterText k → NoTextAfterText (task_if ms k)
task_if-merged None k h = h
task_if-merged (Some m) k h = task-merged k h

if-merged : (t : Bool) (k : Trees) → Whole k → Whole (cond t k nothing)
if-merged true k h = h
if-merged false k h = record { ok = tt }

node-merged : (s : Source) (p from : Place) (what : ItemKind) (a b : Point) (d : Forest) (i : Items) (under : PartPath → Trees) → ((w : PartPath) → NoTextAfterText (under w)) → Whole (node_of s p what a b (child_facts_of d) (summary_of s from i under))
node-merged s p from (content contents.LineEnding) a b d i under k = if-merged p.line_endings _ (one-merged _ nothing a b tt)
node-merged s p from (content contents.Autolink) a b d i under k = autolink-merged s _ _ a b
node-merged s p from (content contents.AutolinkLiteralEmail) a b d i under k = record { ok = ((tt, refl, tt), refl, tt) }
node-merged s p from (content contents.AutolinkLiteralWww) a b d i under k = record { ok = ((tt, refl, tt), refl, tt) }
node-merged s p from (content contents.AutolinkLiteralWhole) a b d i under k = record { ok = ((tt, refl, tt), refl, tt) }
node-merged s p from (content contents.ListItem) a b d i under k = one-merged _ _ a b (task_if-merged (mark i) (under itself) (k itself))
node-merged s p from (content contents.Link) a b d i under k = one-merged (link_label (media_of (summary_of s from i under))) (under (path_to parts.LabelText)) a b (k (path_to parts.LabelText))
node-merged s p from (content contents.BlockQuote) a b d i under k = one-merged _ _ a b (k itself)
node-merged s p from (content contents.Emphasis) a b d i under k = one-merged _ _ a b (k itself)
node-merged s p from (content contents.Strong) a b d i under k = one-merged _ _ a b (k itself)
node-merged s p from (content contents.Strikethrough) a b d i under k = one-merged _ _ a b (k itself)
node-merged s p from (content contents.Paragraph) a b d i under k = one-merged _ _ a b (k itself)
node-merged s p from (content contents.Table) a b d i under k = one-merged _ _ a b (k itself)
node-merged s p from (content contents.TableRow) a b d i under k = one-merged _ _ a b (k itself)
node-merged s p from (content contents.TableCell) a b d i under k = one-merged _ _ a b (k itself)
node-merged s p from (content contents.HeadingAtx) a b d i under k = one-merged _ _ a b (k itself)
node-merged s p from (content contents.HeadingSetext) a b d i under k = one-merged _ _ a b (k itself)
node-merged s p from (content contents.ListOrdered) a b d i under k = one-merged _ _ a b (k itself)
node-merged s p from (content contents.ListUnordered) a b d i under k = one-merged _ _ a b (k itself)
node-merged s p from (content contents.FootnoteDefinition) a b d i under k = one-merged _ _ a b (k itself)
node-merged s p from (content _) a b d i under k = one-merged _ nothing a b tt
node-merged s p from (part parts.HeadingSetextText) a b d i under k = record { ok = k itself }
node-merged s p from (part _) a b d i under k = record { ok = tt }

pub nodes-merged : (s : Source) (w : PartPath) (p : Place) (xs : Items) → NoTextAfterText (nodes s w p xs)
nodes-merged s w p none = tt
nodes-merged s itself p (item (content contents.HardBreak) a b d i (item (content contents.LineEnding) a' b' d' i' rest)) =
    join-merged (node_at tree.break nothing a b') (nodes s itself p rest) (tt, refl, tt) (nodes-merged s itself p rest)
nodes-merged s itself p (item what a b d i rest) =
    join-merged (node_of s p what a b (child_facts_of d) (summary_of s (inherited_in what p) i (λ which. nodes s which (inherited_in what p) i))) (nodes s itself (inherited_after what p) rest)
    (node-merged s p (inherited_in what p) what a b d i (λ which. nodes s which (inherited_in what p) i) (λ which. nodes-merged s which (inherited_in what p) i)).ok
    (nodes-merged s itself (inherited_after what p) rest)
nodes-merged s (into q way) p (item (part r) a b d i rest) =
    elim (same_part q r) as (λ t. NoTextAfterText (elim t [ true ↦ nodes s way (inherited_in (part r) p) i | false ↦ nodes s (into q way) p rest ])) [
      | true ↦ nodes-merged s way (inherited_in (part r) p) i
      | false ↦ nodes-merged s (into q way) p rest
    ]
nodes-merged s (into q way) p (item (content c) a b d i rest) = nodes-merged s (into q way) p rest

pub no_text_after_text : (s : Source) (f : Forest) → NoTextAfterText (only (meaning s f))
no_text_after_text s f = (subst NoTextAfterText (nodes-are s inherited_at_root (items f)) (nodes-merged s itself inherited_at_root (items f)), refl, tt)
