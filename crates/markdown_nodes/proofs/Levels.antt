-- What is left of a walk over a tree with a stack of levels.
use Rattle.std.proofs.Common.{◌≡◌, ℕ, ◌+◌, ◌*◌, ◌<◌, ◌≤◌, List, [], ◌∷◌, ◌++◌, refl, ap, ◌∙◌, arith}
use Rattle.markdown_nodes.specs.declared.mdast.Node.{Node}
use Rattle.markdown_nodes.specs.Access.{nodes_in}
use Rattle.markdown_nodes.proofs.Sizes.{size}
use Rattle.markdown_nodes.specs.View.{views}
use Rattle.markdown_nodes.proofs.Dropping.{size-cons}

-- the nodes of the levels on a stack, with a step more for each level
abbrev pub waiting : {X : Type 0} → (X → List Node) → List X → ℕ
waiting level [] = 0
waiting level (x ∷ xs) = waiting level xs + 2 * size (views (level x)) + 1

waiting-snoc : {X : Type 0} (level : X → List Node) (xs : List X) (y : X) → waiting level (xs ++ y ∷ []) ≡ waiting level xs + 2 * size (views (level y)) + 1
waiting-snoc level [] y = refl
waiting-snoc level (x ∷ xs) y = omega (arith, waiting-snoc level xs y)

-- the steps that are left
abbrev pub to_walk : {X : Type 0} → (X → List Node) → List Node → List X → ℕ
to_walk level here stack = 2 * size (views here) + waiting level stack

-- into the first node
pub walks_down : {X : Type 0} (level : X → List Node) (here rest inner : List Node) (first : Node) (stack after : List X) (top : X) → here ≡ first ∷ rest → inner ≡ nodes_in first → after ≡ stack ++ top ∷ [] → level top ≡ rest → to_walk level inner after < to_walk level here stack
walks_down level here rest inner first stack after top is within pushed holds =
    let a : size (views here) ≡ size (views (nodes_in first)) + size (views rest) + 1 = ap (λ (l : List Node). size (views l)) is ∙ size-cons first rest in
    let b : size (views inner) ≡ size (views (nodes_in first)) = ap (λ (l : List Node). size (views l)) within in
    let c : waiting level after ≡ waiting level stack + 2 * size (views (level top)) + 1 = ap (λ (l : List _). waiting level l) pushed ∙ waiting-snoc level stack top in
    let d : size (views (level top)) ≡ size (views rest) = ap (λ (l : List Node). size (views l)) holds in
    omega (arith, a, b, c, d)

-- past the first node
pub walks_past : {X : Type 0} (level : X → List Node) (here rest : List Node) (first : Node) (stack : List X) → here ≡ first ∷ rest → to_walk level rest stack < to_walk level here stack
walks_past level here rest first stack is =
    let a : size (views here) ≡ size (views (nodes_in first)) + size (views rest) + 1 = ap (λ (l : List Node). size (views l)) is ∙ size-cons first rest in
    omega (arith, a)

-- back to the level on top
pub walks_up : {X : Type 0} (level : X → List Node) (here rest : List Node) (stack after : List X) (top : X) → stack ≡ after ++ top ∷ [] → level top ≡ rest → to_walk level rest after < to_walk level here stack
walks_up level here rest stack after top popped holds =
    let c : waiting level stack ≡ waiting level after + 2 * size (views (level top)) + 1 = ap (λ (l : List _). waiting level l) popped ∙ waiting-snoc level after top in
    let d : size (views (level top)) ≡ size (views rest) = ap (λ (l : List Node). size (views l)) holds in
    omega (arith, c, d)

-- into the first node, where what comes after it is left out
pub walks_into : {X : Type 0} (level : X → List Node) (here rest inner : List Node) (first : Node) (stack : List X) → here ≡ first ∷ rest → inner ≡ nodes_in first → to_walk level inner stack < to_walk level here stack
walks_into level here rest inner first stack is within =
    let a : size (views here) ≡ size (views (nodes_in first)) + size (views rest) + 1 = ap (λ (l : List Node). size (views l)) is ∙ size-cons first rest in
    let b : size (views inner) ≡ size (views (nodes_in first)) = ap (λ (l : List Node). size (views l)) within in
    omega (arith, a, b)

-- what is in the first node is less than any number that the walk is within
pub walks_call : {X : Type 0} (level : X → List Node) (here rest inner : List Node) (first : Node) (stack : List X) (all : ℕ) → here ≡ first ∷ rest → inner ≡ nodes_in first → to_walk level here stack ≤ all → to_walk level inner [] < all
walks_call level here rest inner first stack all is within bound = omega (arith, walks_into level here rest inner first stack is within, bound)
