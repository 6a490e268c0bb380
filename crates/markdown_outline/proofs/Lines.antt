-- The lines of the headings in a list of nodes.
use Rattle.std.proofs.Common.{◌≡◌, ℕ, List, [], ◌∷◌, ◌++◌, Option, None, Some, refl, sym, ◌∙◌, ap, append_assoc}
use Rattle.markdown_events.specs.declared.unist.Point.{Point}
use Rattle.markdown_events.specs.declared.unist.Position.{Position}
use Rattle.markdown_grammar.specs.Tasks.{after_blank, task, task_if, trimmed_text}
use Rattle.markdown_nodes.specs.Tree.{Label, Trees, join, node, nothing, paragraph, seam, text}
use Rattle.markdown_nodes.specs.Walk.{walks}
use Rattle.mdast_util.proofs.BareTexts.{AreBare, IsBare}
use Rattle.mdast_util.specs.Outline.{line_of}
use Rattle.std.specs.Prelude.{Bool}
use Rattle.std.proofs.lemmas.List.Concat.{flat_map-append}
use Rattle.std.specs.List.{flat_map}

-- nothing of what is in a text
abbrev pub unless_text : Label → List ℕ → List ℕ
unless_text (text value) below = []
unless_text label below = below

-- the lines of a list of nodes, without those in a text
abbrev pub lines : Trees → List ℕ
lines nothing = []
lines (node label children position rest) = line_of (record { label = label; children = children; position = position }) ++ (unless_text label (lines children) ++ lines rest)

-- ---- Lists that are joined

-- where two lists meet, at most a text comes about, which has no line
lines-seam : (l : Label) (c : Trees) (h : Option Position) (b : Trees) → lines (seam l c h b) ≡ lines (node l c h b)
lines-seam (text v) c h nothing = refl
lines-seam (text v) c h (node (text u) c' h' r) = refl
lines-seam (text v) c h (node l c' h' r) = refl
lines-seam l c h b = refl

regroup : (a b c d : List ℕ) → a ++ (b ++ (c ++ d)) ≡ (a ++ (b ++ c)) ++ d
regroup a b c d = ap (λ (x : List ℕ). a ++ x) (sym (append_assoc b c d)) ∙ sym (append_assoc a (b ++ c) d)

-- the lines of two lists that are joined are those of the first, then those of the second
pub lines-join : (a b : Trees) → lines (join a b) ≡ lines a ++ lines b
lines-join nothing b = refl
lines-join (node l c h nothing) b = lines-seam l c h b ∙ regroup (line_of (record { label = l; children = c; position = h })) (unless_text l (lines c)) [] (lines b)
lines-join (node l c h (node l' c' h' r)) b =
    ap (λ (x : List ℕ). line_of (record { label = l; children = c; position = h }) ++ (unless_text l (lines c) ++ x)) (lines-join (node l' c' h' r) b)
    ∙ regroup (line_of (record { label = l; children = c; position = h })) (unless_text l (lines c)) (lines (node l' c' h' r)) (lines b)

-- ---- The mark of a task

lines-trimmed : (cut : List ℕ × Point) (here : Option Position) (others : Trees) → lines (trimmed_text cut here others) ≡ lines others
lines-trimmed ([], p) here others = refl
lines-trimmed (b ∷ bs, p) here others = refl

lines-task : (t : Trees) → lines (task t) ≡ lines t
lines-task (node paragraph (node (text (b ∷ bs)) c (Some at) others) here rest) = ap (λ (x : List ℕ). x ++ lines rest) (lines-trimmed (after_blank (b ∷ bs) at.start) (Some at) others)
lines-task t = refl

-- a mark changes a paragraph and its text, and no line
pub lines-task_if : (mark : Option Bool) (t : Trees) → lines (task_if mark t) ≡ lines t
lines-task_if None t = refl
lines-task_if (Some b) t = lines-task t

-- ---- The lines of a walk

-- where a text has no nodes in it, there are no lines in it
bare-lines : (l : Label) (c : Trees) (here : Option Position) → IsBare l c here → lines c ≡ unless_text l (lines c)
bare-lines (text v) c here h = ap lines h.0
bare-lines l c here h = refl

-- the lines of the nodes, in the order of a walk
pub flat : (t : Trees) → AreBare t → flat_map line_of (walks t) ≡ lines t
flat nothing h = refl
flat (node l c here r) h =
    ap (λ (x : List ℕ). line_of (record { label = l; children = c; position = here }) ++ x)
    (flat_map-append line_of (walks c) (walks r) ∙ (λ i. (flat c h.1 ∙ bare-lines l c here h.0) i ++ flat r h.2 i))
