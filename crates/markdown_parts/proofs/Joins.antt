-- What is put after siblings, where a text stands at their end and where none does.
use Rattle.std.proofs.Common.{◌≡◌, ◌<◌, ℕ, ◌+◌, ◌-◌, false, true, zero, suc, List, [], ◌∷◌, ◌++◌, length, slice_index_or, slice_set, Option, refl, sym, ap, ◌∙◌, arith}
use Rattle.markdown_nodes.specs.declared.mdast.Node.{Node}
use Rattle.markdown_nodes.specs.declared.mdast.Node.TheVariants as nodes
use Rattle.markdown_kinds.specs.declared.Text.{Text}
use Rattle.markdown_events.specs.declared.unist.Position.{Position}
use Rattle.std.specs.List.{remove}
use Rattle.markdown_nodes.specs.Tree.{Label, Trees, Tree, before, join, node, nothing, only, seam, text}
use Rattle.markdown_nodes.specs.View.{view, views}
use Rattle.markdown_nodes.proofs.Joining.{join-nothing}
use Rattle.markdown_nodes.proofs.Views.{view-Text}
use Rattle.markdown_steps.specs.Consequences.{is_text}
use Rattle.markdown_steps.specs.TextNodes.{text_node}

-- the last of the nodes grows by what is put after it
grown_at : (ns : List Node) (i : ℕ) (d new : Node) (t : Trees) → length ns ≡ i + 1
    → only (view new) ≡ join (only (view (slice_index_or ns i d))) t → views (slice_set ns i new) ≡ join (views ns) t
grown_at [] i d new t h grows = absurd (omega arith)
grown_at (n ∷ []) zero d new t h grows = grows
grown_at (n ∷ []) (suc i) d new t h grows = absurd (omega arith)
grown_at (n ∷ m ∷ ns) zero d new t h grows = absurd (omega arith)
grown_at (n ∷ m ∷ ns) (suc i) d new t h grows = ap (before (view n)) (grown_at (m ∷ ns) i d new t (omega arith) grows)

-- a text at the end goes on
pub text_grown : (ns : List Node) (n : ℕ) (last : Node) (old lent new : Text) (t : Trees) → n ≡ length ns → 0 < n → last ≡ slice_index_or ns (n - 1) last → last ≡ nodes.Text old → lent ≡ old
    → text_node new ≡ join (text_node lent) t → views (slice_set ns (n - 1) (nodes.Text new)) ≡ join (views ns) t
text_grown ns n last old lent new t count some at is same grows =
    grown_at ns (n - 1) last (nodes.Text new) t (omega arith)
    (ap only (view-Text new) ∙ grows ∙ ap (λ (x : Text). join (text_node x) t) same ∙ ap (λ (x : Tree). join (only x) t) (sym (view-Text old) ∙ ap view (sym is ∙ at)))

-- a node that is no text meets nothing
apart : (l : Label) (c : Trees) (p : Option Position) (t : Trees) → is_text l ≡ false → seam l c p t ≡ node l c p t
apart (text v) c p t h = let z : ⊥ = cc in absurd z
apart l c p t h = refl

-- after it another begins
begun_at : (ns : List Node) (i : ℕ) (last new : Node) (t : Trees) → length ns ≡ i + 1 → last ≡ slice_index_or ns i last → is_text (view last).label ≡ false
    → only (view new) ≡ t → views (slice_set ns i last ++ new ∷ []) ≡ join (views ns) t
begun_at [] i last new t h at none made = absurd (omega arith)
begun_at (n ∷ []) zero last new t h at none made =
    ap (before (view last)) made ∙ sym (apart (view last).label (view last).children (view last).position t none) ∙ ap (λ (x : Node). join (only (view x)) t) at
begun_at (n ∷ []) (suc i) last new t h at none made = absurd (omega arith)
begun_at (n ∷ m ∷ ns) zero last new t h at none made = absurd (omega arith)
begun_at (n ∷ m ∷ ns) (suc i) last new t h at none made = ap (before (view n)) (begun_at (m ∷ ns) i last new t (omega arith) at none made)

pub text_begun : (ns items new_items : List Node) (n : ℕ) (last new : Node) (t : Trees) → n ≡ length ns → 0 < n → last ≡ slice_index_or ns (n - 1) last → items ≡ slice_set ns (n - 1) last → new_items ≡ items ++ new ∷ []
    → is_text (view last).label ≡ false → only (view new) ≡ t → views new_items ≡ join (views ns) t
text_begun ns items new_items n last new t count some at kept put none made =
    ap views (put ∙ ap (λ (xs : List Node). xs ++ new ∷ []) kept) ∙ begun_at ns (n - 1) last new t (omega arith) at none made

-- where there is none yet, it is the first
pub first_begun : (ns items new_items : List Node) (n : ℕ) (new : Node) (t : Trees) → n ≡ length ns → (0 < n → false ≡ true) → items ≡ ns → new_items ≡ items ++ new ∷ [] → only (view new) ≡ t → views new_items ≡ join (views ns) t
first_begun [] items new_items n new t count empty kept put made = ap views (put ∙ ap (λ (xs : List Node). xs ++ new ∷ []) kept) ∙ made
first_begun (m ∷ ns) items new_items n new t count empty kept put made = let h = empty (omega arith) in cc

-- trees after others, where none meet
after : Trees → Trees → Trees
after nothing us = us
after (node l c p r) us = node l c p (after r us)

views_after : (ns os : List Node) → views (ns ++ os) ≡ after (views ns) (views os)
unfolding after
views_after [] os = refl
views_after (n ∷ ns) os = ap (before (view n)) (views_after ns os)

-- only the first of what comes meets what is there
seam_after : (l m : Label) (c d : Trees) (p q : Option Position) (us : Trees) → after (seam l c p (node m d q nothing)) us ≡ seam l c p (node m d q us)
unfolding after
seam_after (text v) (text w) c d p q us = refl
seam_after (text v) m c d p q us = refl
seam_after l m c d p q us = refl

join_after : (ts : Trees) (t : Tree) (us : Trees) → after (join ts (only t)) us ≡ join ts (before t us)
unfolding after
join_after nothing t us = refl
join_after (node l c p nothing) t us = seam_after l t.label c t.children p t.position us
join_after (node l c p (node m d q r)) t us = ap (node l c p) (join_after (node m d q r) t us)

-- once the first is put, the rest are after it
pub appended : (ns mid new os rest : List Node) (n k : ℕ) (first : Node) → n ≡ length os → k + 1 ≡ n → first ≡ slice_index_or os 0 first → rest ≡ remove os 0
    → views mid ≡ join (views ns) (only (view first)) → new ≡ mid ++ rest → views new ≡ join (views ns) (views os)
appended ns mid new [] rest n k first count some at left put more = absurd (omega arith)
appended ns mid new (o ∷ os) rest n k first count some at left put more =
    ap views (more ∙ ap (λ (xs : List Node). mid ++ xs) left) ∙ views_after mid os ∙ ap (λ (ts : Trees). after ts (views os)) put
    ∙ join_after (views ns) (view first) (views os) ∙ ap (λ (x : Node). join (views ns) (before (view x) (views os))) at

-- after them none change nothing
pub none_appended : (ns os : List Node) → length os ≡ 0 → views ns ≡ join (views ns) (views os)
none_appended ns [] h = sym (join-nothing (views ns))
none_appended ns (o ∷ os) h = absurd (omega arith)
