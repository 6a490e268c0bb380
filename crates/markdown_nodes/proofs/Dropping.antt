-- A node that is freed in a loop: each step leaves less to do.
use Rattle.std.proofs.Common.{◌≡◌, ℕ, ◌+◌, ◌*◌, ◌≤◌, ◌<◌, ◌==◌, Bool, true, false, IsTrue, IsFalse, List, [], ◌∷◌, ◌++◌, length, get_or, slice_set, vec_len, Vec, Global, refl, sym, ap, ◌∙◌, arith}
use Rattle.std.proofs.lemmas.Bool.{eqb-true}
use Rattle.std.proofs.lemmas.List.{append-nil}
use Rattle.markdown_nodes.specs.declared.mdast.Node.{Node}
use Rattle.markdown_nodes.specs.Access.{nodes_in}
use Rattle.markdown_nodes.specs.Freeing.{WithoutLast}
use Rattle.markdown_nodes.proofs.Sizes.{size, steps}
use Rattle.markdown_nodes.specs.Tree.{Tree, Trees}
use Rattle.markdown_nodes.specs.View.{view, views}
use Rattle.markdown_nodes.proofs.Views.{view-is}

-- what is left to do at a node, with a level beside it
abbrev pub weight : Node → List Node → ℕ
weight node level = 2 * size (views (nodes_in node)) + steps (views level) + 2

children-is : (x : Node) → (view x).children ≡ views (nodes_in x)
children-is x = ap (λ (t : Tree). t.children) (view-is x)

pub size-cons : (x : Node) (xs : List Node) → size (views (x ∷ xs)) ≡ size (views (nodes_in x)) + size (views xs) + 1
size-cons x xs = ap (λ (ts : Trees). size ts + size (views xs) + 1) (children-is x)

steps-cons : (x : Node) (xs : List Node) → steps (views (x ∷ xs)) ≡ steps (views (nodes_in x)) + 2 * size (views xs) + 1
steps-cons x xs = ap (λ (ts : Trees). steps ts + 2 * size (views xs) + 1) (children-is x)

size-snoc : (xs : List Node) (y : Node) → size (views (xs ++ y ∷ [])) ≡ size (views xs) + size (views (nodes_in y)) + 1
size-snoc [] y = omega (arith, size-cons y [])
size-snoc (x ∷ xs) y = omega (arith, size-snoc xs y)

steps-snoc : (x : Node) (xs : List Node) (y : Node) → steps (views ((x ∷ xs) ++ y ∷ [])) ≡ steps (views (x ∷ xs)) + 2 * size (views (nodes_in y)) + 2
steps-snoc x xs y = omega (arith, size-snoc xs y)

size-append : (xs ys : List Node) → size (views (xs ++ ys)) ≡ size (views xs) + size (views ys)
size-append [] ys = omega arith
size-append (x ∷ xs) ys = omega (arith, size-append xs ys)

size-without : (before after : List Node) → WithoutLast before after → size (views after) ≤ size (views before)
size-without before after w = omega (arith, ap (λ (l : List Node). size (views l)) w.1, size-append after w.0)

steps-append : (xs ys : List Node) → steps (views xs) ≤ steps (views (xs ++ ys))
steps-append [] ys = omega arith
steps-append (x ∷ xs) ys = omega (arith, size-append xs ys)

steps-without : (before after : List Node) → WithoutLast before after → steps (views after) ≤ steps (views before)
steps-without before after w = omega (arith, ap (λ (l : List Node). steps (views l)) w.1, steps-append after w.0)

pub whole : (level : List Node) → WithoutLast level level
whole level = ([], sym (append-nil level))

-- leaves are freed in the node and beside it
pub lighter : (node left : Node) (level rest : List Node) → WithoutLast (nodes_in node) (nodes_in left) → WithoutLast level rest → weight left rest ≤ weight node level
lighter node left level rest inner outer = omega (arith, size-without (nodes_in node) (nodes_in left) inner, steps-without level rest outer)

-- down: the level hangs in the node, which is the first of what was in it
pub descends : (node hung new next d : Node) (inner outer : List Node) → 0 < length (nodes_in node) → inner ≡ nodes_in node → nodes_in hung ≡ outer → new ≡ hung → next ≡ get_or inner 0 d → weight next (slice_set inner 0 new) < weight node outer
descends node hung new next d [] outer some in_node in_hung same first = absurd (omega (arith, ap (λ (l : List Node). length l) in_node))
descends node hung new next d (x ∷ xs) outer some in_node in_hung same first =
    let before : size (views (nodes_in node)) ≡ size (views (nodes_in x)) + size (views xs) + 1 = ap (λ (l : List Node). size (views l)) (sym in_node) ∙ size-cons x xs in
    let here : size (views (nodes_in next)) ≡ size (views (nodes_in x)) = ap (λ (n : Node). size (views (nodes_in n))) first in
    let after : steps (views (new ∷ xs)) ≡ steps (views (nodes_in new)) + 2 * size (views xs) + 1 = steps-cons new xs in
    let hangs : steps (views (nodes_in new)) ≡ steps (views outer) = ap (λ (n : Node). steps (views (nodes_in n))) same ∙ ap (λ (l : List Node). steps (views l)) in_hung in
    omega (arith, before, here, after, hangs)

-- a vector that is not empty holds a node
pub occupied : (v : Vec Node Global) → false ≡ (vec_len v == 0) → 0 < length v.items
occupied v some = long v.items refl where
  long : (items : List Node) → v.items ≡ items → 0 < length v.items
  long [] none = absurd (let w : false ≡ true = some ∙ ap (λ (k : ℕ). k == 0) (v.ok.0 ∙ ap (λ (l : List Node). length l) none) in cc)
  long (x ∷ xs) more = let n : length v.items ≡ length xs + 1 = ap (λ (l : List Node). length l) more ∙ omega arith in omega (arith, n)

-- aside: the node is freed, and the last of its level is next
pub goes_aside : (node next : Node) (level : List Node) (rest : Vec Node Global) → nodes_in node ≡ [] → level ≡ rest.items ++ next ∷ [] → false ≡ (vec_len rest == 0) → weight next rest.items < weight node level
goes_aside node next level rest bare is some = aside rest.items refl where
  aside : (items : List Node) → rest.items ≡ items → weight next rest.items < weight node level
  aside [] none = absurd (let w : false ≡ true = some ∙ ap (λ (k : ℕ). k == 0) (rest.ok.0 ∙ ap (λ (l : List Node). length l) none) in cc)
  aside (x ∷ xs) more =
      let all : steps (views level) ≡ steps (views rest.items) + 2 * size (views (nodes_in next)) + 2 = ap (λ (l : List Node). steps (views l)) (is ∙ ap (λ (l : List Node). l ++ next ∷ []) more) ∙ steps-snoc x xs next ∙ ap (λ (l : List Node). steps (views l) + 2 * size (views (nodes_in next)) + 2) (sym more) in
      let none : size (views (nodes_in node)) ≡ 0 = ap (λ (l : List Node). size (views l)) bare in
      omega (arith, all, none)

-- up: the node is freed, and the only one left is the way up
pub goes_up : (node next new : Node) (level after : List Node) (rest : Vec Node Global) (moved : Bool) → nodes_in node ≡ [] → level ≡ rest.items ++ next ∷ [] → true ≡ (vec_len rest == 0) → (IsTrue moved → (0 < length (nodes_in next)) × (after ≡ nodes_in next) × (nodes_in new ≡ rest.items)) → (IsFalse moved → (nodes_in next ≡ []) × (new ≡ next) × (after ≡ rest.items)) → weight new after < weight node level
goes_up node next new level after rest moved bare is some moves stays = up rest.items refl where
  up : (items : List Node) → rest.items ≡ items → weight new after < weight node level
  up (x ∷ xs) more =
      let n : vec_len rest ≡ length xs + 1 = rest.ok.0 ∙ ap (λ (l : List Node). length l) more ∙ omega arith in
      absurd (omega (arith, n, eqb-true _ 0 (sym some)))
  up [] none =
      let whole : steps (views level) ≡ steps (views (next ∷ [])) = ap (λ (l : List Node). steps (views l)) (is ∙ ap (λ (l : List Node). l ++ next ∷ []) none) in
      let all : steps (views level) ≡ steps (views (nodes_in next)) + 1 = omega (arith, whole, steps-cons next []) in
      goes moved moves stays all where
        goes : (b : Bool) → (IsTrue b → (0 < length (nodes_in next)) × (after ≡ nodes_in next) × (nodes_in new ≡ rest.items)) → (IsFalse b → (nodes_in next ≡ []) × (new ≡ next) × (after ≡ rest.items)) → steps (views level) ≡ steps (views (nodes_in next)) + 1 → weight new after < weight node level
        goes true m s all =
            let t = m refl in
            let a : steps (views after) ≡ steps (views (nodes_in next)) = ap (λ (l : List Node). steps (views l)) t.1 in
            let b : size (views (nodes_in new)) ≡ 0 = ap (λ (l : List Node). size (views l)) (t.2 ∙ none) in
            omega (arith, a, b, all)
        goes false m s all =
            let t = s refl in
            let a : steps (views after) ≡ 0 = ap (λ (l : List Node). steps (views l)) (t.2 ∙ none) in
            let b : size (views (nodes_in new)) ≡ 0 = ap (λ (n : Node). size (views (nodes_in n))) t.1 ∙ ap (λ (l : List Node). size (views l)) t.0 in
            omega (arith, a, b, all)
