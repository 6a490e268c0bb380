-- The bytes of the texts in a tree, node by node.
use Rattle.std.proofs.Common.{◌≡◌, ℕ, ◌+◌, ◌-◌, ◌^◌, ◌≤◌, max, min, List, [], ◌∷◌, ◌++◌, refl, sym, ap, ◌∙◌, add_assoc, arith}
use Rattle.std.proofs.Math.Nat.{zero-add}
use Rattle.markdown_nodes.specs.declared.mdast.Node.{Node}
use Rattle.markdown_nodes.specs.Access.{label_of}
use Rattle.markdown_nodes.specs.Tree.{Label, Tree, Trees, nothing, node}
use Rattle.markdown_nodes.specs.View.{view}
use Rattle.markdown_nodes.specs.Walk.{walk, walks}
use Rattle.markdown_nodes.proofs.WalkSteps.{label-is}
use Rattle.markdown_html.specs.Texts.{budget_of, label_texts, texts, tree_texts}

-- the bytes of the texts of each of these nodes, without those of their children
abbrev pub texts_of_all : List Tree → ℕ
texts_of_all [] = 0
texts_of_all (tree ∷ rest) = label_texts tree.label + texts_of_all rest

texts_of_all-append : (first second : List Tree) → texts_of_all (first ++ second) ≡ texts_of_all first + texts_of_all second
texts_of_all-append [] second = sym (zero-add (texts_of_all second))
texts_of_all-append (tree ∷ first) second = ap (λ (n : ℕ). label_texts tree.label + n) (texts_of_all-append first second) ∙ sym (add_assoc (label_texts tree.label) (texts_of_all first) (texts_of_all second))

texts_of_walks : (nodes : Trees) → texts_of_all (walks nodes) ≡ texts nodes
texts_of_walks nothing = refl
texts_of_walks (node label children here rest) =
    ap (λ (n : ℕ). label_texts label + n) (texts_of_all-append (walks children) (walks rest)
    ∙ ap (λ (n : ℕ). n + texts_of_all (walks rest)) (texts_of_walks children)
    ∙ ap (λ (n : ℕ). texts children + n) (texts_of_walks rest))

pub texts_of_walk : (tree : Tree) → texts_of_all (walk tree) ≡ tree_texts tree
texts_of_walk tree = ap (λ (n : ℕ). label_texts tree.label + n) (texts_of_walks tree.children)

-- the texts so far, with those to come, are all
abbrev pub Sums : ℕ → List Tree → Tree → Type 0
Sums so_far coming tree = min (so_far + texts_of_all coming) (2 ^ 64 - 1) ≡ min (tree_texts tree) (2 ^ 64 - 1)

pub sums_none : (tree : Tree) (coming : List Tree) → coming ≡ walk tree → Sums 0 coming tree
sums_none tree coming is = ap (λ (n : ℕ). min n (2 ^ 64 - 1)) (zero-add (texts_of_all coming) ∙ ap texts_of_all is ∙ texts_of_walk tree)

saturates : (sum so_far size rest : ℕ) → sum ≡ min (so_far + min size (2 ^ 64 - 1)) (2 ^ 64 - 1) → min (sum + rest) (2 ^ 64 - 1) ≡ min (so_far + (size + rest)) (2 ^ 64 - 1)
saturates sum so_far size rest is = omega (arith, is)

pub sums_more : (tree : Tree) (first : Node) (before after : List Tree) (so_far size sum : ℕ) → before ≡ view first ∷ after → size ≡ min (label_texts (label_of first)) (2 ^ 64 - 1) → sum ≡ min (so_far + size) (2 ^ 64 - 1) → Sums so_far before tree → Sums sum after tree
sums_more tree first before after so_far size sum next sized added sums =
    saturates sum so_far (label_texts (label_of first)) (texts_of_all after) (added ∙ ap (λ (n : ℕ). min (so_far + n) (2 ^ 64 - 1)) sized)
    ∙ ap (λ (l : Label). min (so_far + (label_texts l + texts_of_all after)) (2 ^ 64 - 1)) (sym (label-is first))
    ∙ ap (λ (l : List Tree). min (so_far + texts_of_all l) (2 ^ 64 - 1)) (sym next)
    ∙ sums

largest : (so_far all budget : ℕ) → so_far ≤ 2 ^ 64 - 1 → min (so_far + 0) (2 ^ 64 - 1) ≡ all → budget ≡ max 100_000 so_far → budget ≡ max 100_000 all
largest so_far all budget fits is larger = omega (arith, fits, is, larger)

pub sums_all : (tree : Tree) (coming : List Tree) (so_far budget : ℕ) → coming ≡ [] → so_far ≤ 2 ^ 64 - 1 → Sums so_far coming tree → budget ≡ max 100_000 so_far → budget ≡ budget_of tree
unfolding budget_of
sums_all tree coming so_far budget none fits sums larger = largest so_far (min (tree_texts tree) (2 ^ 64 - 1)) budget fits (ap (λ (l : List Tree). min (so_far + texts_of_all l) (2 ^ 64 - 1)) (sym none) ∙ sums) larger
