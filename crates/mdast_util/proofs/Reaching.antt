-- How the walk down to a node stands: by which node it has come to.
use Rattle.std.proofs.Common.{◌≡◌, ◌<◌, ◌∷◌, ℕ, suc, zero, Bool, true, false, cond, List, [], Option, None, Some, Contains, length, length-append, refl, sym, ap, subst, ◌∙◌, inl, inr, arith}
use Rattle.std.specs.Prelude.{option_map, unwrap_or}
use Rattle.std.specs.List.{find}
use Rattle.std.proofs.lemmas.List.Elements.{Contains-append_cases, Contains-append_left, Contains-append_right}
use Rattle.markdown_events.specs.declared.unist.Position.{Position}
use Rattle.markdown_nodes.specs.declared.mdast.Node.{Node}
use Rattle.markdown_nodes.specs.Access.{nodes_in}
use Rattle.markdown_nodes.specs.Tree.{Label, Tree, Trees, node, nothing, only}
use Rattle.markdown_nodes.specs.View.{view, views}
use Rattle.markdown_nodes.proofs.Views.{view-is}
use Rattle.markdown_grammar.specs.Ordered.{InOrder, IsOrdered, Standing, elsewhere}
use Rattle.markdown_nodes.specs.Walk.{walk, walks}
use Rattle.mdast_util.specs.Places.{deepest, holds}
use Rattle.mdast_util.proofs.Children.{held}

-- ---- Nodes of a tree

Contains-cons : {X : Type 0} (xs : List X) (y x : X) → Contains xs x → Contains (y ∷ xs) x
Contains-cons xs y x (k, lt, is) = (suc k, omega arith, is)

pub in_walks : (xs : List Node) (x : Node) → Contains xs x → Contains (walks (views xs)) (view x)
in_walks [] x (k, lt, is) = absurd (omega arith)
in_walks (y ∷ xs) x (zero, lt, is) = (0, omega arith, ap view is)
in_walks (y ∷ xs) x (suc k, lt, is) =
    Contains-cons _ (view y) (view x) (Contains-append_right (walks (view y).children) (walks (views xs)) (view x) (in_walks xs x (k, omega arith, is)))

-- what is in a node of a list is in the list
within : (nodes : Trees) (found inner : Tree) → Contains (walks nodes) found → Contains (walks found.children) inner → Contains (walks nodes) inner
within nothing found inner (k, lt, is) below = absurd (omega arith)
within (node label children place rest) found inner (zero, lt, is) below =
    let inside : Contains (walks children) inner = subst (λ (t : Tree). Contains (walks t.children) inner) (sym is) below in
    Contains-cons _ _ inner (Contains-append_left (walks children) (walks rest) inner inside)
within (node label children place rest) found inner (suc k, lt, is) below =
    elim (Contains-append_cases (walks children) (walks rest) found (k, omega arith, is)) [
      | inl inside ↦ Contains-cons _ _ inner (Contains-append_left (walks children) (walks rest) inner (within children found inner inside below))
      | inr after ↦ Contains-cons _ _ inner (Contains-append_right (walks children) (walks rest) inner (within rest found inner after below))
    ]

within_tree : (tree found inner : Tree) → Contains (walk tree) found → Contains (walks found.children) inner → Contains (walk tree) inner
within_tree tree found inner (zero, lt, is) below = Contains-cons _ tree inner (subst (λ (t : Tree). Contains (walks t.children) inner) (sym is) below)
within_tree tree found inner (suc k, lt, is) below = Contains-cons _ tree inner (within tree.children found inner (k, omega arith, is) below)

-- fewer nodes are in a child than in its parent
smaller : (xs : List Node) (x : Node) → Contains xs x → length (walks (view x).children) < length (walks (views xs))
smaller [] x (k, lt, is) = absurd (omega arith)
smaller (y ∷ xs) x (zero, lt, is) =
    let same : length (walks (view y).children) ≡ length (walks (view x).children) = ap (λ (z : Node). length (walks (view z).children)) is in
    omega (arith, same, length-append (walks (view y).children) (walks (views xs)))
smaller (y ∷ xs) x (suc k, lt, is) =
    omega (arith, smaller xs x (k, omega arith, is), length-append (walks (view y).children) (walks (views xs)))

-- ---- Order

-- nodes are in order, between some offsets
pub record AreInOrder (nodes : Trees) : Type 0 where
  pub standing : Standing
  pub free : Bool
  pub low : ℕ
  pub high : ℕ
  pub holds : InOrder standing free low high nodes

first_order : (place : Option Position) (label : Label) (children rest : Trees) → AreInOrder (node label children place rest) → AreInOrder children
first_order None label children rest h = absurd h.holds
first_order (Some here) label children rest h = record { standing = _; free = _; low = _; high = _; holds = h.holds.2 }

rest_order : (place : Option Position) (label : Label) (children rest : Trees) → AreInOrder (node label children place rest) → AreInOrder rest
rest_order None label children rest h = absurd h.holds
rest_order (Some here) label children rest h = record { standing = elsewhere; free = h.free; low = h.low; high = h.high; holds = h.holds.3 }

child_order : (xs : List Node) (x : Node) → AreInOrder (views xs) → Contains xs x → AreInOrder (view x).children
child_order [] x h (k, lt, is) = absurd (omega arith)
child_order (y ∷ xs) x h (zero, lt, is) = subst (λ (z : Node). AreInOrder (view z).children) is (first_order (view y).position _ _ (views xs) h)
child_order (y ∷ xs) x h (suc k, lt, is) = child_order xs x (rest_order (view y).position _ _ (views xs) h) (k, omega arith, is)

-- ---- The deepest node

-- what is deepest in a tree that holds the byte
abbrev pub deepest_in : ℕ → Tree → Tree
deepest_in offset tree = unwrap_or (deepest offset tree.children) tree

first_is : (x : Tree) (f : Node → Tree) (y : Node) (b : Bool) (rest : Option Tree) (others : Option Node) → f y ≡ x → rest ≡ option_map f others → cond b (Some x) rest ≡ option_map f (cond b (Some y) others)
first_is x f y true rest others is same = ap (λ (t : Tree). Some t) (sym is)
first_is x f y false rest others is same = same

deepest-views : (offset : ℕ) (xs : List Node) → deepest offset (views xs) ≡ option_map (λ (x : Node). deepest_in offset (view x)) (find (held offset) xs)
deepest-views offset [] = refl
deepest-views offset (x ∷ xs) =
    first_is (deepest_in offset (view x)) (λ (y : Node). deepest_in offset (view y)) x (held offset x) (deepest offset (views xs)) (find (held offset) xs) refl (deepest-views offset xs)

children-are : (x : Node) → (view x).children ≡ views (nodes_in x)
children-are x = ap (λ (t : Tree). t.children) (view-is x)

-- ---- The walk down

-- a node that the walk has come to
pub record Reaches (offset : ℕ) (tree here : Node) : Type 0 where
  pub inside : Contains (walk (view tree)) (view here)
  pub held : holds offset (view here).position ≡ true
  pub in_order : IsOrdered (only (view tree)) → AreInOrder (view here).children
  pub answers : IsOrdered (only (view tree)) → deepest offset (only (view tree)) ≡ Some (deepest_in offset (view here))

-- what the nodes in a node say of one of them, if they are in order
abbrev pub FindsIn : ℕ → List Node → Option Node → Type 0
FindsIn offset nodes found = (standing : Standing) (free : Bool) (low high : ℕ) → InOrder standing free low high (views nodes) → found ≡ find (λ (x : Node). holds offset (view x).position) nodes

finds : (offset : ℕ) (tree here : Node) (nodes : List Node) (found : Option Node) → Reaches offset tree here → nodes ≡ nodes_in here → FindsIn offset nodes found → IsOrdered (only (view tree)) → deepest_in offset (view here) ≡ unwrap_or (option_map (λ (x : Node). deepest_in offset (view x)) found) (view here)
finds offset tree here nodes found so_far are says ordered =
    let children : (view here).children ≡ views nodes = children-are here ∙ sym (ap views are) in
    let order : AreInOrder (views nodes) = subst AreInOrder children (so_far.in_order ordered) in
    let in_code = says order.standing order.free order.low order.high order.holds in
    ap (λ (o : Option Tree). unwrap_or o (view here)) (
    ap (λ (ts : Trees). deepest offset ts) children
    ∙ deepest-views offset nodes
    ∙ ap (λ (o : Option Node). option_map (λ (x : Node). deepest_in offset (view x)) o) (sym in_code)
    )

-- down to a child
pub reaches_child : (offset : ℕ) (tree here child : Node) (nodes : List Node) → Reaches offset tree here → nodes ≡ nodes_in here → FindsIn offset nodes (Some child) → Contains nodes child → holds offset (view child).position ≡ true → Reaches offset tree child
reaches_child offset tree here child nodes so_far are says one is =
    let children : (view here).children ≡ views nodes = children-are here ∙ sym (ap views are) in
    record {
      inside = within_tree (view tree) (view here) (view child) so_far.inside (subst (λ (ts : Trees). Contains (walks ts) (view child)) (sym children) (in_walks nodes child one));
      held = is;
      in_order = λ ordered. child_order nodes child (subst AreInOrder children (so_far.in_order ordered)) one;
      answers = λ ordered. so_far.answers ordered ∙ ap (λ (t : Tree). Some t) (finds offset tree here nodes (Some child) so_far are says ordered);
    }

-- no child holds the byte
pub reaches_last : (offset : ℕ) (tree here : Node) (nodes : List Node) → Reaches offset tree here → nodes ≡ nodes_in here → FindsIn offset nodes None → IsOrdered (only (view tree)) → Some (view here) ≡ deepest offset (only (view tree))
reaches_last offset tree here nodes so_far are says ordered =
    sym (so_far.answers ordered ∙ ap (λ (t : Tree). Some t) (finds offset tree here nodes None so_far are says ordered))
