-- What the levels on a stack read as, and how many nodes there are in them.
use Rattle.std.proofs.Common.{◌≡◌, ◌≤◌, ◌<◌, ℕ, ◌+◌, ◌*◌, List, [], ◌∷◌, ◌++◌, length, Bor, Some, None, Vec, Global, string_bytes, slice_index_or, refl, sym, ap, ◌∙◌, append_assoc, append-nil, arith}
use Rattle.std.proofs.lemmas.List.{length-append}
use Rattle.markdown_nodes.specs.declared.mdast.Node.{Node}
use Rattle.markdown_nodes.specs.declared.mdast.Node.TheVariants as nodes
use Rattle.markdown_kinds.specs.declared.Text.{Text}
use Rattle.markdown_nodes.specs.Access.{children_of, items_in, label_of, nodes_in}
use Rattle.markdown_nodes.specs.Tree.{Tree, Trees, before, nothing, plain_text}
use Rattle.markdown_nodes.specs.View.{view, views}
use Rattle.markdown_nodes.proofs.Views.{view-is}
use Rattle.markdown_grammar.specs.Buffers.{node_count}
use Rattle.markdown_parts.specs.Readings.{own_text, reading}
use Rattle.markdown_parts.specs.declared.buffer.Form.{Form}
use Rattle.markdown_parts.specs.declared.buffer.Form.TheVariants as forms

reading-before : (form : Form) (tree : Tree) (rest : Trees) → reading form (before tree rest) ≡ (own_text form tree.label ++ reading form tree.children) ++ reading form rest
reading-before forms.Values tree rest = refl
reading-before forms.Label tree rest = refl

reading-nothing : (form : Form) → reading form nothing ≡ []
reading-nothing forms.Values = refl
reading-nothing forms.Label = refl

-- a node's own text, that of the nodes in it, and that of the nodes after it
reading-cons : (form : Form) (x : Node) (xs : List Node) → reading form (views (x ∷ xs)) ≡ (own_text form (label_of x) ++ reading form (views (nodes_in x))) ++ reading form (views xs)
reading-cons form x xs = reading-before form (view x) (views xs) ∙ ap (λ (t : Tree). (own_text form t.label ++ reading form t.children) ++ reading form (views xs)) (view-is x)

count-cons : (x : Node) (xs : List Node) → node_count (views (x ∷ xs)) ≡ 1 + node_count (views (nodes_in x)) + node_count (views xs)
count-cons x xs = ap (λ (t : Tree). 1 + node_count t.children + node_count (views xs)) (view-is x)

-- the nodes in a parent, and in a node that is none
pub in_parent : (node : Node) (children : Vec Node Global) (items : List Node) → Some children ≡ children_of node → items ≡ children.items → items ≡ nodes_in node
in_parent node children items some same = same ∙ ap items_in some

pub in_none : (node : Node) → None ≡ children_of node → [] ≡ nodes_in node
in_none node none = ap items_in none

-- the text of the levels on a stack
abbrev pub text_left : Form → List (Bor (List Node)) → List ℕ
text_left form [] = []
text_left form (x ∷ xs) = text_left form xs ++ reading form (views x.now)

text_left-snoc : (form : Form) (xs : List (Bor (List Node))) (y : Bor (List Node)) → text_left form (xs ++ y ∷ []) ≡ reading form (views y.now) ++ text_left form xs
text_left-snoc form [] y = sym (append-nil (reading form (views y.now)))
text_left-snoc form (x ∷ xs) y = ap (λ (s : List ℕ). s ++ reading form (views x.now)) (text_left-snoc form xs y) ∙ append_assoc (reading form (views y.now)) (text_left form xs) (reading form (views x.now))

-- the nodes in the levels on a stack
abbrev pub count_left : List (Bor (List Node)) → ℕ
count_left [] = 0
count_left (x ∷ xs) = count_left xs + node_count (views x.now)

count_left-snoc : (xs : List (Bor (List Node))) (y : Bor (List Node)) → count_left (xs ++ y ∷ []) ≡ count_left xs + node_count (views y.now)
count_left-snoc [] y = refl
count_left-snoc (x ∷ xs) y = omega (arith, count_left-snoc xs y)

-- the whole text, as a walk has written a part of it
abbrev pub Reads : Form → List ℕ → List Node → List (Bor (List Node)) → List ℕ → Type 0
Reads form text level levels whole = text ++ (reading form (views level) ++ text_left form levels) ≡ whole

-- the nodes that are left
abbrev pub left : List Node → List (Bor (List Node)) → ℕ
left level levels = node_count (views level) + count_left levels

-- the steps that are left: two for each node, and one for each level
abbrev pub to_walk : List Node → List (Bor (List Node)) → ℕ
to_walk level levels = 2 * left level levels + length levels

pub reads_first : (form : Form) (text : List ℕ) (level : List Node) (levels : List (Bor (List Node))) → levels ≡ [] → Reads form text level levels (text ++ reading form (views level))
reads_first form text level levels none =
    ap (λ (l : List (Bor (List Node))). text ++ (reading form (views level) ++ text_left form l)) none
    ∙ ap (λ (s : List ℕ). text ++ s) (append-nil (reading form (views level)))

-- into the first node
pub reads_down : (form : Form) (text new own : List ℕ) (here rest inner : List Node) (first : Node) (levels after : List (Bor (List Node))) (top : Bor (List Node)) (whole : List ℕ)
    → Reads form text here levels whole → here ≡ first ∷ rest → new ≡ text ++ own → own ≡ own_text form (label_of first) → inner ≡ nodes_in first → after ≡ levels ++ top ∷ [] → top.now ≡ rest → Reads form new inner after whole
reads_down form text new own here rest inner first levels after top whole so_far is wrote says within pushed holds =
    let inside = reading form (views (nodes_in first)) in
    let past = reading form (views rest) in
    let said = own_text form (label_of first) in
    let below = text_left form levels in
    let begun : new ≡ text ++ said = wrote ∙ ap (λ (v : List ℕ). text ++ v) says in
    let stacked : text_left form after ≡ past ++ below = ap (λ (l : List (Bor (List Node))). text_left form l) pushed ∙ text_left-snoc form levels top ∙ ap (λ (l : List Node). reading form (views l) ++ below) holds in
    let all : reading form (views here) ≡ (said ++ inside) ++ past = ap (λ (l : List Node). reading form (views l)) is ∙ reading-cons form first rest in
    ap (λ (s : List ℕ). new ++ (reading form (views inner) ++ s)) stacked
    ∙ ap (λ (l : List Node). new ++ (reading form (views l) ++ (past ++ below))) within
    ∙ ap (λ (s : List ℕ). s ++ (inside ++ (past ++ below))) begun
    ∙ append_assoc text said (inside ++ (past ++ below))
    ∙ ap (λ (s : List ℕ). text ++ s) (sym (append_assoc said inside (past ++ below)) ∙ sym (append_assoc (said ++ inside) past below))
    ∙ ap (λ (s : List ℕ). text ++ (s ++ below)) (sym all)
    ∙ so_far

-- past a first node that holds none
pub reads_past : (form : Form) (text new own : List ℕ) (here rest : List Node) (first : Node) (levels : List (Bor (List Node))) (whole : List ℕ)
    → Reads form text here levels whole → here ≡ first ∷ rest → new ≡ text ++ own → own ≡ own_text form (label_of first) → [] ≡ nodes_in first → Reads form new rest levels whole
reads_past form text new own here rest first levels whole so_far is wrote says bare =
    let past = reading form (views rest) in
    let said = own_text form (label_of first) in
    let below = text_left form levels in
    let all : reading form (views here) ≡ said ++ past =
    ap (λ (l : List Node). reading form (views l)) is ∙ reading-cons form first rest
    ∙ ap (λ (l : List Node). (said ++ reading form (views l)) ++ past) (sym bare)
    ∙ ap (λ (s : List ℕ). (said ++ s) ++ past) (reading-nothing form)
    ∙ ap (λ (s : List ℕ). s ++ past) (append-nil said) in
    ap (λ (s : List ℕ). s ++ (past ++ below)) (wrote ∙ ap (λ (v : List ℕ). text ++ v) says)
    ∙ append_assoc text said (past ++ below)
    ∙ ap (λ (s : List ℕ). text ++ s) (sym (append_assoc said past below))
    ∙ ap (λ (s : List ℕ). text ++ (s ++ below)) (sym all)
    ∙ so_far

-- back to the level on top
pub reads_up : (form : Form) (text : List ℕ) (here rest : List Node) (levels after : List (Bor (List Node))) (top : Bor (List Node)) (whole : List ℕ)
    → Reads form text here levels whole → here ≡ [] → levels ≡ after ++ top ∷ [] → top.now ≡ rest → Reads form text rest after whole
reads_up form text here rest levels after top whole so_far empty popped holds =
    ap (λ (l : List Node). text ++ (reading form (views l) ++ text_left form after)) (sym holds)
    ∙ ap (λ (s : List ℕ). text ++ s) (sym (text_left-snoc form after top))
    ∙ ap (λ (l : List (Bor (List Node))). text ++ text_left form l) (sym popped)
    ∙ ap (λ (s : List ℕ). text ++ (s ++ text_left form levels)) (sym (reading-nothing form))
    ∙ ap (λ (l : List Node). text ++ (reading form (views l) ++ text_left form levels)) (sym empty)
    ∙ so_far

pub reads_all : (form : Form) (text : List ℕ) (here : List Node) (levels : List (Bor (List Node))) (whole : List ℕ) → Reads form text here levels whole → here ≡ [] → levels ≡ [] → text ≡ whole
reads_all form text here levels whole so_far empty none =
    sym (append-nil text)
    ∙ ap (λ (l : List (Bor (List Node))). text ++ text_left form l) (sym none)
    ∙ ap (λ (s : List ℕ). text ++ (s ++ text_left form levels)) (sym (reading-nothing form))
    ∙ ap (λ (l : List Node). text ++ (reading form (views l) ++ text_left form levels)) (sym empty)
    ∙ so_far

pub left_first : (level : List Node) (levels : List (Bor (List Node))) → levels ≡ [] → left level levels ≡ node_count (views level)
left_first level levels none =
    let b : count_left levels ≡ 0 = ap (λ (l : List (Bor (List Node))). count_left l) none in
    omega (arith, b)

-- a node less is left, inside of it or behind it
pub left_down : (here rest inner : List Node) (first : Node) (levels after : List (Bor (List Node))) (top : Bor (List Node)) → here ≡ first ∷ rest → inner ≡ nodes_in first → after ≡ levels ++ top ∷ [] → top.now ≡ rest → left here levels ≡ left inner after + 1
left_down here rest inner first levels after top is within pushed holds =
    let a : node_count (views here) ≡ 1 + node_count (views (nodes_in first)) + node_count (views rest) = ap (λ (l : List Node). node_count (views l)) is ∙ count-cons first rest in
    let b : node_count (views inner) ≡ node_count (views (nodes_in first)) = ap (λ (l : List Node). node_count (views l)) within in
    let c : count_left after ≡ count_left levels + node_count (views top.now) = ap (λ (l : List (Bor (List Node))). count_left l) pushed ∙ count_left-snoc levels top in
    let d : node_count (views top.now) ≡ node_count (views rest) = ap (λ (l : List Node). node_count (views l)) holds in
    omega (arith, a, b, c, d)

pub left_past : (here rest : List Node) (first : Node) (levels : List (Bor (List Node))) → here ≡ first ∷ rest → [] ≡ nodes_in first → left here levels ≡ left rest levels + 1
left_past here rest first levels is bare =
    let a : node_count (views here) ≡ 1 + node_count (views (nodes_in first)) + node_count (views rest) = ap (λ (l : List Node). node_count (views l)) is ∙ count-cons first rest in
    let b : 0 ≡ node_count (views (nodes_in first)) = ap (λ (l : List Node). node_count (views l)) bare in
    omega (arith, a, b)

-- so a walk that stops at a node has counted no more than all
pub within : (here rest : List Node) (first : Node) (levels : List (Bor (List Node))) (now ticked total : ℕ) → here ≡ first ∷ rest → ticked ≡ now + 1 → now + left here levels ≡ total → ticked ≤ total
within here rest first levels now ticked total is one so_far =
    let a : node_count (views here) ≡ 1 + node_count (views (nodes_in first)) + node_count (views rest) = ap (λ (l : List Node). node_count (views l)) is ∙ count-cons first rest in
    omega (arith, a, one, so_far)

pub left_up : (here rest : List Node) (levels after : List (Bor (List Node))) (top : Bor (List Node)) → here ≡ [] → levels ≡ after ++ top ∷ [] → top.now ≡ rest → left here levels ≡ left rest after
left_up here rest levels after top empty popped holds =
    let a : node_count (views here) ≡ 0 = ap (λ (l : List Node). node_count (views l)) empty in
    let c : count_left levels ≡ count_left after + node_count (views top.now) = ap (λ (l : List (Bor (List Node))). count_left l) popped ∙ count_left-snoc after top in
    let d : node_count (views top.now) ≡ node_count (views rest) = ap (λ (l : List Node). node_count (views l)) holds in
    omega (arith, a, c, d)

pub left_none : (here : List Node) (levels : List (Bor (List Node))) → here ≡ [] → levels ≡ [] → left here levels ≡ 0
left_none here levels empty none = left_first here levels none ∙ ap (λ (l : List Node). node_count (views l)) empty

pub walks_down : (here rest inner : List Node) (first : Node) (levels after : List (Bor (List Node))) (top : Bor (List Node)) → here ≡ first ∷ rest → inner ≡ nodes_in first → after ≡ levels ++ top ∷ [] → top.now ≡ rest → to_walk inner after < to_walk here levels
walks_down here rest inner first levels after top is within pushed holds =
    let more : length after ≡ length levels + 1 = ap (λ (l : List (Bor (List Node))). length l) pushed ∙ length-append levels (top ∷ []) in
    omega (arith, left_down here rest inner first levels after top is within pushed holds, more)

pub walks_past : (here rest : List Node) (first : Node) (levels : List (Bor (List Node))) → here ≡ first ∷ rest → [] ≡ nodes_in first → to_walk rest levels < to_walk here levels
walks_past here rest first levels is bare = omega (arith, left_past here rest first levels is bare)

pub walks_up : (here rest : List Node) (levels after : List (Bor (List Node))) (top : Bor (List Node)) → here ≡ [] → levels ≡ after ++ top ∷ [] → top.now ≡ rest → to_walk rest after < to_walk here levels
walks_up here rest levels after top empty popped holds =
    let more : length levels ≡ length after + 1 = ap (λ (l : List (Bor (List Node))). length l) popped ∙ length-append after (top ∷ []) in
    omega (arith, left_up here rest levels after top empty popped holds, more)

-- a text alone reads as its value, in one step
pub alone_reads : (items : List Node) (node : Text) → length items ≡ 1 → nodes.Text node ≡ slice_index_or items 0 (nodes.Text node) → string_bytes node.value ≡ plain_text (views items)
unfolding view
alone_reads [] node one is = absurd (omega (arith, one))
alone_reads (x ∷ []) node one is = sym (append-nil (string_bytes node.value ++ []) ∙ append-nil (string_bytes node.value)) ∙ ap (λ (n : Node). plain_text (views (n ∷ []))) is
alone_reads (x ∷ y ∷ rest) node one is = absurd (omega (arith, one))

pub alone_counts : (items : List Node) (node : Text) → length items ≡ 1 → nodes.Text node ≡ slice_index_or items 0 (nodes.Text node) → node_count (views items) ≡ 1
unfolding view
alone_counts [] node one is = absurd (omega (arith, one))
alone_counts (x ∷ []) node one is = ap (λ (n : Node). node_count (views (n ∷ []))) (sym is)
alone_counts (x ∷ y ∷ rest) node one is = absurd (omega (arith, one))
