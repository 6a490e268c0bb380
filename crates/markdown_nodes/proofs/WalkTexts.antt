-- The plain text of a tree is the values of its nodes in order.
use Rattle.std.proofs.Common.{◌≡◌, ℕ, List, [], ◌∷◌, ◌++◌, refl, sym, ap, ◌∙◌, append-nil, append_assoc}
use Rattle.markdown_nodes.specs.declared.mdast.Node.{Node}
use Rattle.markdown_nodes.specs.Access.{label_of}
use Rattle.markdown_nodes.specs.Tree.{Label, Tree, Trees, node, nothing, only, plain_text, value_of}
use Rattle.markdown_nodes.specs.View.{view}
use Rattle.markdown_nodes.specs.Walk.{walk, walks}
use Rattle.markdown_nodes.proofs.WalkSteps.{label-is}

-- the values of nodes, joined
abbrev pub values : List Tree → List ℕ
values [] = []
values (tree ∷ trees) = value_of tree.label ++ values trees

values-append : (first last : List Tree) → values (first ++ last) ≡ values first ++ values last
values-append [] last = refl
values-append (tree ∷ first) last =
    ap (λ (s : List ℕ). value_of tree.label ++ s) (values-append first last)
    ∙ sym (append_assoc (value_of tree.label) (values first) (values last))

values-walks : (trees : Trees) → values (walks trees) ≡ plain_text trees
values-walks nothing = refl
values-walks (node label children position rest) =
    ap (λ (s : List ℕ). value_of label ++ s) (values-append (walks children) (walks rest))
    ∙ sym (append_assoc (value_of label) (values (walks children)) (values (walks rest)))
    ∙ (λ i. (value_of label ++ values-walks children i) ++ values-walks rest i)

-- what a walk over a node has to read
pub values-walk : (tree : Tree) → values (walk tree) ≡ plain_text (only tree)
values-walk tree =
    ap (λ (s : List ℕ). value_of tree.label ++ s) (values-walks tree.children)
    ∙ sym (append-nil (value_of tree.label ++ plain_text tree.children))

-- the value of one node is read
pub value_read : (old new value whole : List ℕ) (here : Node) (before after : List Tree) → old ++ values before ≡ whole → before ≡ view here ∷ after → value ≡ value_of (label_of here) → new ≡ old ++ value → new ++ values after ≡ whole
value_read old new value whole here before after so_far next is wrote =
    ap (λ (s : List ℕ). s ++ values after) (wrote ∙ ap (λ (v : List ℕ). old ++ v) (is ∙ sym (ap (λ (l : Label). value_of l) (label-is here))))
    ∙ append_assoc old (value_of (view here).label) (values after)
    ∙ ap (λ (l : List Tree). old ++ values l) (sym next)
    ∙ so_far
