-- How much nodes add to a page in a place that is not the end of a footnote.
use Rattle.std.proofs.Common.{◌≡◌, ℕ, ◌+◌, ◌≤◌, ◌<◌, ◌||◌, ◌⊎◌, inl, inr, zero, suc, Bool, true, false, List, [], ◌∷◌, Option, None, Some, arith, refl, sym, ap, subst, ◌∙◌}
use Rattle.markdown_events.specs.declared.infer.AlignKind.{AlignKind}
use Rattle.markdown_nodes.specs.Tree.{Label, Trees, nothing, node, root, blockquote, list, list_item, table, link, link_reference, footnote_definition}
use Rattle.markdown_html.specs.declared.place.Kind.{Kind}
use Rattle.markdown_html.specs.declared.place.Kind.TheVariants.{Text, Linked, Flow, Tight, Hidden, HeaderCell, Cell, Task}
use Rattle.markdown_html.specs.Bounds.{most_of}
use Rattle.markdown_html.specs.Html.{Source, entered, left, nodes_page, settled}
use Rattle.markdown_html.specs.Page.{Call, Page, with_call}
use Rattle.markdown_html.specs.Places.{Place, after, any_spread, below, checked_of, followed, in_cell, in_footnote, in_item, in_list, in_listed, in_text, inside, place, unended}
use Rattle.markdown_html.proofs.Growth.{Affordable, Goes, Ordinary, call_most, enters, goes_on, leaves, node_most, settled_affordable, stays, within}
use Rattle.markdown_html.proofs.PlaceKinds.{by_kind}

-- how many footnotes within one another may be written where they are defined: a row, and a cell of it
abbrev pub level : Kind → ℕ
level Text = 0
level Linked = 0
level Hidden = 0
level HeaderCell = 1
level Cell = 1
level _ = 2

-- what the children of a node add, by what they add at each level
abbrev pub counted : Label → (ℕ → ℕ) → ℕ → ℕ
counted (footnote_definition _ _) inner zero = 0
counted (footnote_definition _ _) inner (suc above) = inner above
counted _ inner above = inner above

-- what some nodes add at a level
abbrev pub shown : (prefix : List ℕ) → Trees → ℕ → ℕ
shown prefix nothing above = 0
shown prefix (node label children _ rest) above = most_of prefix label + counted label (shown prefix children) above + shown prefix rest above

-- a level below, or the same; strictly below for the children of a footnote
abbrev Under : (above : ℕ) → Label → (lower : ℕ) → Type 0
Under above (footnote_definition _ _) lower = lower < above
Under above _ lower = lower ≤ above

abbrev Rises : (ℕ → ℕ) → Type 0
Rises f = (m n : ℕ) → m ≤ n → f m ≤ f n

counted_rises : (label : Label) (inner : ℕ → ℕ) → Rises inner → Rises (counted label inner)
counted_rises (footnote_definition _ _) inner rises zero n le = omega arith
counted_rises (footnote_definition _ _) inner rises (suc m) zero le = absurd (omega (arith, le))
counted_rises (footnote_definition _ _) inner rises (suc m) (suc n) le = rises m n (omega (arith, le))
counted_rises _ inner rises m n le = rises m n le

shown_rises : (prefix : List ℕ) (nodes : Trees) → Rises (shown prefix nodes)
shown_rises prefix nothing m n le = omega arith
shown_rises prefix (node label children _ rest) m n le =
    let first = counted_rises label (shown prefix children) (shown_rises prefix children) m n le in
    let later = shown_rises prefix rest m n le in
    omega (arith, first, later)

counted_under : (label : Label) (inner : ℕ → ℕ) (above lower : ℕ) → Rises inner → Under above label lower → inner lower ≤ counted label inner above
counted_under (footnote_definition _ _) inner zero lower rises under = absurd (omega (arith, under))
counted_under (footnote_definition _ _) inner (suc above) lower rises under = rises lower above (omega (arith, under))
counted_under _ inner above lower rises under = rises lower above under

-- the children of a node are hidden, or at a level under that of the node
abbrev pub IsInner : ℕ → Label → Place → Type 0
IsInner above label at = (at ≡ place Hidden) ⊎ (Ordinary at.kind × Under above label (level at.kind))

text_inner : (linked : Bool) (above : ℕ) (label : Label) → IsInner above label (in_text (elim linked [ true ↦ Linked | false ↦ Text ]) label)
text_inner linked above (link _ _) = inr (tt, omega arith)
text_inner linked above (link_reference _ _ _) = inr (tt, omega arith)
text_inner linked above (footnote_definition _ _) = inl refl
text_inner true above _ = inr (tt, omega arith)
text_inner false above _ = inr (tt, omega arith)

list_inner : (spread : Bool) → Ordinary (in_list spread).kind × (level (in_list spread).kind ≤ 2)
list_inner true = (tt, omega arith)
list_inner false = (tt, omega arith)

pub flow_inner : (kind : Kind) → Ordinary (in_item kind).kind × (level (in_item kind).kind ≤ 2) → in_footnote kind ≡ place Hidden → (label : Label) (children : Trees) → IsInner 2 label (below kind label children)
flow_inner kind item none root children = inr (tt, omega arith)
flow_inner kind item none blockquote children = inr (tt, omega arith)
flow_inner kind item none (list _ _ spread) children = inr (list_inner (spread || any_spread children))
flow_inner kind item none (list_item _ _) children = inr item
flow_inner kind item none (table _) children = inr (tt, omega arith)
flow_inner kind item none (footnote_definition _ _) children = inl none
flow_inner kind item none label children = text_inner false 2 label

listed_inner : (tight : Bool) (label : Label) (children : Trees) → IsInner 2 label (in_listed tight (checked_of label) label children)
listed_inner true (list_item spread None) children = flow_inner Tight (tt, omega arith) refl (list_item spread None) children
listed_inner false (list_item spread None) children = flow_inner Flow (tt, omega arith) refl (list_item spread None) children
listed_inner true (list_item spread (Some checked)) children = inr (tt, omega arith)
listed_inner false (list_item spread (Some checked)) children = inr (tt, omega arith)
listed_inner true label children = flow_inner Tight (tt, omega arith) refl label children
listed_inner false label children = flow_inner Flow (tt, omega arith) refl label children

row_under : (label : Label) → Under 2 label 1
row_under (footnote_definition _ _) = omega arith
row_under _ = omega arith

cell_under : (label : Label) → Under 1 label 0
cell_under (footnote_definition _ _) = omega arith
cell_under _ = omega arith

cell_inner : (columns : Option (List AlignKind)) (label : Label) → IsInner 1 label (in_cell columns)
cell_inner None label = inr (tt, cell_under label)
cell_inner (Some []) label = inl refl
cell_inner (Some (_ ∷ _)) label = inr (tt, cell_under label)

inner_place : (at : Place) (label : Label) (children : Trees) → Ordinary at.kind → IsInner (level at.kind) label (inside at label children)
inner_place at label children ordinary =
    let columns = at.columns in
    let bare = at.is_bare in
    by_kind (λ k. Ordinary k → IsInner (level k) label (inside (record { kind = k; columns = columns; is_bare = bare }) label children))
    (λ _. text_inner false 0 label) (λ _. text_inner true 0 label)
    (λ _. flow_inner Flow (tt, omega arith) refl label children)
    (λ _. flow_inner Tight (tt, omega arith) refl label children)
    (λ _. listed_inner false label children) (λ _. listed_inner true label children)
    (λ _. inl refl)
    (λ _. inr (tt, row_under label)) (λ _. inr (tt, row_under label)) (λ _. inr (tt, row_under label))
    (λ _. cell_inner columns label) (λ _. cell_inner columns label)
    (λ _. λ none. absurd none) (λ _. λ none. absurd none)
    (λ c. λ _. flow_inner (Task c) (tt, omega arith) refl label children)
    at.kind ordinary

-- the next sibling, and a node before others
after_same : (at : Place) → Ordinary at.kind → Ordinary (after at).kind × (level (after at).kind ≡ level at.kind)
after_same at ordinary =
    let columns = at.columns in
    let bare = at.is_bare in
    by_kind (λ k. Ordinary k → Ordinary (after (record { kind = k; columns = columns; is_bare = bare })).kind × (level (after (record { kind = k; columns = columns; is_bare = bare })).kind ≡ level k))
    (λ _. (tt, refl)) (λ _. (tt, refl)) (λ _. (tt, refl)) (λ _. (tt, refl)) (λ _. (tt, refl)) (λ _. (tt, refl)) (λ _. (tt, refl)) (λ _. (tt, refl)) (λ _. (tt, refl)) (λ _. (tt, refl)) (λ _. (tt, refl)) (λ _. (tt, refl))
    (λ _. λ none. absurd none) (λ _. λ none. absurd none) (λ _. λ _. (tt, refl)) at.kind ordinary

unended_same : (at : Place) → Ordinary at.kind → (unended at).kind ≡ at.kind
unended_same at ordinary =
    let columns = at.columns in
    let bare = at.is_bare in
    by_kind (λ k. Ordinary k → (unended (record { kind = k; columns = columns; is_bare = bare })).kind ≡ k) (λ _. refl) (λ _. refl) (λ _. refl) (λ _. refl) (λ _. refl) (λ _. refl) (λ _. refl) (λ _. refl) (λ _. refl) (λ _. refl) (λ _. refl) (λ _. refl) (λ _. λ none. absurd none) (λ _. λ none. absurd none) (λ _. λ _. refl) at.kind ordinary

followed_same : (at : Place) (rest : Trees) → Ordinary at.kind → (followed at rest).kind ≡ at.kind
followed_same at nothing ordinary = refl
followed_same at (node _ _ _ _) ordinary = unended_same at ordinary

-- nothing is written of what is hidden
pub hidden_same : (it : Source) (nodes : Trees) (page : Page) → nodes_page it (place Hidden) nodes page ≡ page
hidden_same it nothing page = refl
hidden_same it (node label children _ nothing) page = hidden_same it children page
hidden_same it (node label children _ (node next inner here rest)) page =
    ap (λ (p : Page). nodes_page it (place Hidden) (node next inner here rest) p) (hidden_same it children page)
    ∙ hidden_same it (node next inner here rest) page

module _ (it : Source) (w : List Call → ℕ) (fair : (identifier : List ℕ) (calls : List Call) → w (with_call identifier calls) ≤ w calls + call_most it.id_prefix identifier) where
  abbrev Gains : Page → Page → ℕ → Type 0
  Gains from to most = Goes w w from to most

  abbrev pub whole : Place → Label → Trees → Page → Page
  whole at label children page = left it at label children (nodes_page it (inside at label children) children (entered it at label children page))

  -- what the children of a node add, once it is known what they add at their level
  pub inner_goes : (above : ℕ) (at : Place) (label : Label) (children : Trees) (page : Page) → IsInner above label at → ((p : Page) → Ordinary at.kind → Gains p (nodes_page it at children p) (shown it.id_prefix children (level at.kind))) → Gains page (nodes_page it at children page) (counted label (shown it.id_prefix children) above)
  inner_goes above at label children page (inl hidden) goes =
      subst (λ (p : Page). Gains page p (counted label (shown it.id_prefix children) above)) (sym (ap (λ (a : Place). nodes_page it a children page) hidden ∙ hidden_same it children page)) (within (stays w page) (omega arith))
  inner_goes above at label children page (inr (ordinary, under)) goes =
      within (goes page ordinary) (counted_under label (shown it.id_prefix children) above (level at.kind) (shown_rises it.id_prefix children) under)

  pub node_goes : (at : Place) (label : Label) (children : Trees) (page : Page) → Ordinary at.kind → Affordable it at.is_bare label page → ((p : Page) → Ordinary (inside at label children).kind → Gains p (nodes_page it (inside at label children) children p) (shown it.id_prefix children (level (inside at label children).kind))) → Gains page (whole at label children page) (most_of it.id_prefix label + counted label (shown it.id_prefix children) (level at.kind))
  node_goes at label children page ordinary fits goes =
      let begun = entered it at label children page in
      let filled = nodes_page it (inside at label children) children begun in
      let all = node_most it w fair label in
      within
      (goes_on
      (goes_on
      (enters it w fair at label children page ordinary fits)
      (inner_goes (level at.kind) (inside at label children) label children begun (inner_place at label children ordinary) goes))
      (leaves it w fair at label children filled ordinary))
      (omega (arith, all))

  pub nodes_go : (at : Place) (nodes : Trees) (page : Page) → Ordinary at.kind → Gains page (nodes_page it at nodes page) (shown it.id_prefix nodes (level at.kind))
  nodes_go at nothing page ordinary = stays w page
  nodes_go at (node label children _ rest) page ordinary =
      let before = followed at rest in
      let here = settled it before label page in
      let kind_is = followed_same at rest ordinary in
      let next = after_same at ordinary in
      let first = node_goes here label children page (subst Ordinary (sym kind_is) ordinary) (settled_affordable it before label page) (λ p o. nodes_go (inside here label children) children p o) in
      let later = nodes_go (after at) rest (whole here label children page) next.0 in
      let first_level = ap (λ (k : Kind). counted label (shown it.id_prefix children) (level k)) kind_is in
      let later_level = ap (λ (n : ℕ). shown it.id_prefix rest n) next.1 in
      within (goes_on first later) (omega (arith, first_level, later_level))
