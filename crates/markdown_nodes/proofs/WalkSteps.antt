-- What one step of a walk leaves to come.
use Rattle.std.proofs.Common.{◌≡◌, List, [], ◌∷◌, ◌++◌, Option, None, Some, Bor, sym, ap, subst, ◌∙◌, append-nil, append_assoc}
use Rattle.markdown_nodes.specs.declared.mdast.Node.{Node}
use Rattle.markdown_nodes.specs.Access.{label_of, nodes_in}
use Rattle.markdown_nodes.specs.Tree.{Tree, Trees}
use Rattle.markdown_nodes.specs.View.{view, views}
use Rattle.markdown_nodes.proofs.Views.{view-is}
use Rattle.markdown_nodes.specs.WalkLevels.{ahead, to_come}
use Rattle.markdown_nodes.specs.Walk.{Yields, walks}

-- the level on top comes first
pub to_come-snoc : (levels : List (Bor (List Node))) (level : Bor (List Node)) → to_come (levels ++ level ∷ []) ≡ walks (views level.now) ++ to_come levels
to_come-snoc [] level = sym (append-nil (walks (views level.now)))
to_come-snoc (first ∷ levels) level =
    ap (λ (s : List Tree). s ++ walks (views first.now)) (to_come-snoc levels level)
    ∙ append_assoc (walks (views level.now)) (to_come levels) (walks (views first.now))

-- the label of a node is that of its kind and fields
pub label-is : (node : Node) → (view node).label ≡ label_of node
label-is node = ap (λ (t : Tree). t.label) (view-is node)

-- the children of a node are the nodes in it
pub children-are : (node : Node) → (view node).children ≡ views (nodes_in node)
children-are node = ap (λ (t : Tree). t.children) (view-is node)

-- a node is taken: what is in it comes before the nodes after it
pub takes : (outer pushed : List (Bor (List Node))) (level rest inner : Bor (List Node)) (first : Node) (others : List Node) → level.now ≡ first ∷ others → rest.now ≡ others → pushed ≡ outer ++ rest ∷ [] → inner.now ≡ nodes_in first → ahead level outer ≡ view first ∷ ahead inner pushed
takes outer pushed level rest inner first others holds after pushes within =
    let inside = walks (views (nodes_in first)) in
    let past = walks (views others) in
    let below = to_come outer in
    let left : ahead inner pushed ≡ inside ++ (past ++ below) =
    ap (λ (l : List Node). walks (views l) ++ to_come pushed) within
    ∙ ap (λ (s : List Tree). inside ++ s) (ap to_come pushes ∙ to_come-snoc outer rest ∙ ap (λ (l : List Node). walks (views l) ++ below) after) in
    ap (λ (l : List Node). walks (views l) ++ below) holds
    ∙ ap (λ (t : Trees). (view first ∷ (walks t ++ past)) ++ below) (children-are first)
    ∙ ap (λ (s : List Tree). view first ∷ s) (append_assoc inside past below ∙ sym left)

-- a level with no nodes left gives way to the one around it
pub lets_go : (outer popped : List (Bor (List Node))) (level next : Bor (List Node)) → level.now ≡ [] → outer ≡ popped ++ next ∷ [] → ahead next popped ≡ ahead level outer
lets_go outer popped level next empty is =
    sym (ap (λ (l : List Node). walks (views l) ++ to_come outer) empty ∙ ap to_come is ∙ to_come-snoc popped next)

-- what the next node leaves to come
pub next_is : (next : Option (Bor Node)) (node : Bor Node) (old new : List Tree) → Yields old new next → next ≡ Some node → old ≡ view node.now ∷ new
next_is next node old new says is =
    let P : Option (Bor Node) → Type 0 = λ o. Yields old new o in
    subst P is says

-- nothing is to come after the last
pub none_is : (next : Option (Bor Node)) (old new : List Tree) → Yields old new next → next ≡ None → old ≡ []
none_is next old new says is =
    let P : Option (Bor Node) → Type 0 = λ o. Yields old new o in
    (subst P is says).0
