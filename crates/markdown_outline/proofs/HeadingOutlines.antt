-- The outline of the headings of a forest is that of the forest.
use Rattle.markdown_events.proofs.Booleans.{and-left, and-right}
use Rattle.std.proofs.Common.{◌≡◌, ℕ, Bool, true, false, cond, ◌||◌, List, [], ◌++◌, None, refl, sym, ◌∙◌, ap, append-nil, append_assoc}
use Rattle.markdown_events.specs.Forest.{Forest, empty}
use Rattle.markdown_events.specs.declared.event.Point.{Point}
use Rattle.markdown_events.specs.declared.role.ItemKind.{ItemKind}
use Rattle.markdown_events.specs.declared.role.ItemKind.TheVariants.{Content as content, Part as part}
use Rattle.markdown_events.specs.declared.role.Content.TheVariants as contents
use Rattle.markdown_grammar.specs.Attributes.{Place, inherited_after, inherited_at_root, inherited_in, mark, value}
use Rattle.markdown_grammar.specs.Document.{Source}
use Rattle.markdown_grammar.specs.Items.{Items, is_table, item, items, none}
use Rattle.markdown_grammar.specs.Meaning.{meaning}
use Rattle.markdown_grammar.specs.Nodes.{decorate, node_of}
use Rattle.markdown_outline.proofs.HeadingItems.{heading_items, items-headings, no-headings, finds-is, finds_all_items}
use Rattle.markdown_outline.proofs.NoHeadings.{no_heading_items}
use Rattle.markdown_outline.proofs.Lines.{lines}
use Rattle.markdown_outline.proofs.Rows.{NoLines, from, from-nothing, label_rows, no-lines, origin, outline-rows, own-is, own_lines, rows}
use Rattle.markdown_outline.specs.Headings.{finds_all, contains_blocks, headings, is_heading_item}
use Rattle.mdast_util.specs.Outline.{outline_of}

-- ---- A heading

-- the place inside a heading depends only on whether a table is around it
pub heading-place : (p : Place) (what : ItemKind) → is_heading_item what ≡ true → p.in_table ≡ false → inherited_in what p ≡ inherited_in what inherited_at_root
heading-place p (content contents.HeadingAtx) e h = λ t. record { line_endings = true; in_table = h t || false; marker = None }
heading-place p (content contents.HeadingSetext) e h = λ t. record { line_endings = true; in_table = h t || false; marker = None }
heading-place p (content c) e h = let z : ⊥ = cc in absurd z
heading-place p (part q) e h = let z : ⊥ = cc in absurd z

-- the lines of a heading, by the place inside it
abbrev heading_lines : Source → Place → ItemKind → Point → Point → Forest → Items → List ℕ
heading_lines s q what a b d i = lines (node_of s what (record { start = a; end = b; place = inherited_at_root; children = d; items = decorate s q i; mark = mark i; number = value s i }))

heading-own : (s : Source) (p : Place) (what : ItemKind) (a b : Point) (d : Forest) (i : Items) → is_heading_item what ≡ true → own_lines s p what a b d i ≡ heading_lines s (inherited_in what p) what a b d i
heading-own s p (content contents.HeadingAtx) a b d i e = refl
heading-own s p (content contents.HeadingSetext) a b d i e = refl
heading-own s p (content c) a b d i e = let z : ⊥ = cc in absurd z
heading-own s p (part q) a b d i e = let z : ⊥ = cc in absurd z

-- a heading has the same lines wherever no table is around it
heading-same : (s : Source) (p : Place) (what : ItemKind) (a b : Point) (d : Forest) (i : Items) → is_heading_item what ≡ true → p.in_table ≡ false
    → own_lines s inherited_at_root what a b d i ≡ own_lines s p what a b d i
heading-same s p what a b d i e h =
    heading-own s inherited_at_root what a b d i e
    ∙ ap (λ q. heading_lines s q what a b d i) (sym (heading-place p what e h))
    ∙ sym (heading-own s p what a b d i e)

-- what comes after a heading inherits the same
pub after-heading : (p : Place) (what : ItemKind) → is_heading_item what ≡ true → inherited_after what p ≡ p
after-heading p (part q) e = let z : ⊥ = cc in absurd z
after-heading p (content c) e = refl

-- ---- An item that contains blocks

-- its lines are those of its items, and it is no table
pub record HoldsBlocks (what : ItemKind) : Type 0 where
  pub has_rows : (xs ys : List ℕ) → from (origin what) xs ys ≡ xs
  pub no_table : is_table what ≡ false

pub holds-blocks : (what : ItemKind) → contains_blocks what ≡ true → HoldsBlocks what
holds-blocks (content contents.BlockQuote) e = record { has_rows = λ xs ys. refl; no_table = refl }
holds-blocks (content contents.ListOrdered) e = record { has_rows = λ xs ys. refl; no_table = refl }
holds-blocks (content contents.ListUnordered) e = record { has_rows = λ xs ys. refl; no_table = refl }
holds-blocks (content contents.ListItem) e = record { has_rows = λ xs ys. refl; no_table = refl }
holds-blocks (content contents.FootnoteDefinition) e = record { has_rows = λ xs ys. refl; no_table = refl }
holds-blocks (content c) e = let z : ⊥ = cc in absurd z
holds-blocks (part q) e = let z : ⊥ = cc in absurd z

-- ---- The lines of the headings

-- the lines of the headings are those of all the items, if all are found
heading-rows : (s : Source) (p : Place) (xs others : Items) → p.in_table ≡ false → finds_all_items xs ≡ true
    → rows s inherited_at_root (heading_items xs others) ≡ rows s p xs ++ rows s inherited_at_root others
heading-rows s p none others out h = refl
heading-rows s p (item what a b d i rest) others out h =
    let here : Bool = cond (is_heading_item what) true (cond (contains_blocks what) (finds_all_items i) (no_heading_items i)) in
    let more : Items = heading_items rest others in
    let q : Place = inherited_in what p in
    let own : List ℕ = own_lines s p what a b d i in
    let inside : q.in_table ≡ false → finds_all_items i ≡ true → rows s inherited_at_root (heading_items i more) ≡ rows s q i ++ rows s inherited_at_root more = λ t k. heading-rows s q i more t k in
    let after : rows s inherited_at_root more ≡ rows s (inherited_after what p) rest ++ rows s inherited_at_root others = heading-rows s (inherited_after what p) rest others out (and-right here (finds_all_items rest) h) in
    elim (is_heading_item what) as (λ t. is_heading_item what ≡ t → cond t true (cond (contains_blocks what) (finds_all_items i) (no_heading_items i)) ≡ true
    → rows s inherited_at_root (cond t (item what a b d i more) (heading_items i more)) ≡ own ++ (rows s (inherited_after what p) rest ++ rows s inherited_at_root others)) [
      | true ↦ λ e k. (λ t. heading-same s p what a b d i e out t ++ (ap (λ r. rows s r more) (after-heading inherited_at_root what e) ∙ after) t)
      | false ↦ λ e. elim (contains_blocks what) as (λ u. contains_blocks what ≡ u → cond u (finds_all_items i) (no_heading_items i) ≡ true
          → rows s inherited_at_root (heading_items i more) ≡ own ++ (rows s (inherited_after what p) rest ++ rows s inherited_at_root others)) [
            | true ↦ λ u k.
                let blocks : HoldsBlocks what = holds-blocks what u in
                let same : own ≡ rows s q i = own-is s p what a b d i e ∙ blocks.has_rows (rows s q i) (label_rows s q i) in
                inside (λ t. out t || blocks.no_table t) k ∙ (λ t. sym same t ++ after t)
            | false ↦ λ u k.
                let gone : NoLines s q i = no-lines s q i k in
                let lineless : own ≡ [] = own-is s p what a b d i e ∙ (λ t. from (origin what) (gone.no_rows t) (gone.no_label t)) ∙ from-nothing (origin what) in
                ap (rows s inherited_at_root) (no-headings i more k) ∙ after ∙ sym (ap (λ x. x ++ (rows s (inherited_after what p) rest ++ rows s inherited_at_root others)) lineless)
          ] refl
    ] refl (and-left here (finds_all_items rest) h)
    ∙ sym (append_assoc own (rows s (inherited_after what p) rest) (rows s inherited_at_root others))

-- if all headings are found, their outline is that of the whole
pub outline-headings : (s : Source) (f : Forest) → finds_all f ≡ true → outline_of (meaning s (headings f)) ≡ outline_of (meaning s f)
outline-headings s f h =
    outline-rows s (headings f)
    ∙ ap (rows s inherited_at_root) (items-headings f empty)
    ∙ heading-rows s inherited_at_root (items f) none refl (finds-is f ∙ h)
    ∙ append-nil (rows s inherited_at_root (items f))
    ∙ sym (outline-rows s f)
