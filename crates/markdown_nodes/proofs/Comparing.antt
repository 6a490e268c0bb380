-- Nodes are the same where their labels, their positions and the nodes in them are.
use Rattle.std.proofs.Common.{◌≡◌, ℕ, ◌+◌, ◌<◌, ◌↔◌, IsTrue, Bool, List, [], ◌∷◌, ◌++◌, length, take, get_or, refl, sym, ap, ◌∙◌, add-one, arith}
use Prim.Native.Nat.{zero, suc}
use Rattle.std.specs.Bool.{one_answer}
use Rattle.std.proofs.Math.Seq.{take-suc}
use Rattle.markdown_nodes.specs.declared.mdast.Node.{Node}
use Rattle.markdown_nodes.specs.Access.{label_of, nodes_in, position_of}
use Rattle.markdown_nodes.specs.Equality.{same_tree}
use Rattle.markdown_nodes.specs.Tree.{Tree}
use Rattle.markdown_nodes.specs.View.{view, views}
use Rattle.markdown_nodes.proofs.Copying.{one_more}
use Rattle.markdown_nodes.specs.EqualityLaws.{tree_decides, tree_is}
use Rattle.markdown_nodes.proofs.Views.{view-is}

-- an answer that tells equality is the test's
pub answers : (r : Bool) (a b : Tree) → (IsTrue r ↔ (a ≡ b)) → r ≡ same_tree a b
answers r a b tells = one_answer r (same_tree a b) (tells.0, tells.1) (tree_decides a b)

-- lists that are the same are as long as one another
pub same_length : (xs ys : List Node) → views xs ≡ views ys → length xs ≡ length ys
same_length [] [] e = refl
same_length [] (y ∷ ys) e = cc
same_length (x ∷ xs) [] e = cc
same_length (x ∷ xs) (y ∷ ys) e =
    let after : views xs ≡ views ys = cc in
    let next : length xs ≡ length ys = same_length xs ys after in
    grind arith

-- lists that are the same have the same node at each index
pub same_at : (xs ys : List Node) (i : ℕ) (d e : Node) → views xs ≡ views ys → i < length xs → view (get_or xs i d) ≡ view (get_or ys i e)
same_at [] ys i d e same lt = absurd (omega arith)
same_at (x ∷ xs) [] i d e same lt = cc
same_at (x ∷ xs) (y ∷ ys) zero d e same lt =
    let label : (view x).label ≡ (view y).label = cc in
    let children : (view x).children ≡ (view y).children = cc in
    let position : (view x).position ≡ (view y).position = cc in
    tree_is _ _ _ _ _ _ label children position
same_at (x ∷ xs) (y ∷ ys) (suc i) d e same lt =
    let after : views xs ≡ views ys = cc in
    let below : i < length xs = omega arith in
    same_at xs ys i d e after below

-- one node more
pub same_so_far : (xs ys : List Node) (i : ℕ) (d e : Node) → i < length xs → i < length ys → views (take i xs) ≡ views (take i ys) → view (get_or xs i d) ≡ view (get_or ys i e) → views (take (i + 1) xs) ≡ views (take (i + 1) ys)
same_so_far xs ys i d e lt lt' so_far same =
    let next : take (i + 1) xs ≡ take i xs ++ get_or xs i d ∷ [] = rw add-one (take-suc xs i d lt) in
    ap views next ∙ one_more ys (take i xs) i e (get_or xs i d) lt' so_far same

-- nodes are the same where their parts are
pub same_parts : (a b : Node) → label_of a ≡ label_of b → position_of a ≡ position_of b → views (nodes_in a) ≡ views (nodes_in b) → view a ≡ view b
same_parts a b label position below = view-is a ∙ tree_is _ _ _ _ _ _ label below position ∙ sym (view-is b)

label-same : (a b : Node) → view a ≡ view b → label_of a ≡ label_of b
label-same a b e = ap (λ (t : Tree). t.label) (sym (view-is a) ∙ e ∙ view-is b)

position-same : (a b : Node) → view a ≡ view b → position_of a ≡ position_of b
position-same a b e = ap (λ (t : Tree). t.position) (sym (view-is a) ∙ e ∙ view-is b)

-- the same nodes are the same but for their children
pub same_but_children-from_views : (a b : Node) → view a ≡ view b → (label_of a ≡ label_of b) × (position_of a ≡ position_of b)
same_but_children-from_views a b e = (label-same a b e, position-same a b e)

pub nodes-same : (a b : Node) → view a ≡ view b → views (nodes_in a) ≡ views (nodes_in b)
nodes-same a b e = ap (λ (t : Tree). t.children) (sym (view-is a) ∙ e ∙ view-is b)
