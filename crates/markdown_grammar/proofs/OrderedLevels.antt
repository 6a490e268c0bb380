-- What is asked of the levels on a stack, one node after the other.
use Rattle.std.proofs.Common.{◌≡◌, Bool, List, None, Some, [], arith, max, refl, sym, ap, subst, ℕ, ◌++◌, ◌∙◌, ◌∷◌}
use Rattle.std.proofs.Math.Nat.{le-max_left, le-max_right, max-le}
use Rattle.markdown_events.specs.declared.unist.Position.{Position}
use Rattle.markdown_nodes.specs.declared.mdast.Node.{Node}
use Rattle.markdown_nodes.specs.Access.{label_of, nodes_in, position_of}
use Rattle.markdown_nodes.specs.Tree.{Label, Tree, Trees, before, node, nothing, only}
use Rattle.markdown_nodes.specs.View.{view, views}
use Rattle.markdown_nodes.proofs.Views.{view-is}
use Rattle.markdown_grammar.specs.declared.ordered.Level.{Level}
use Rattle.markdown_grammar.specs.Levels.{Admits, AllAsAsked, AsAsked, Bounds, bounds_after, bounds_in, bounds_of}
use Rattle.markdown_grammar.specs.Ordered.{InOrder, IsBefore, IsOrdered, Standing, elsewhere}

-- ---- Of trees

from_zero : (s : Standing) (f : Bool) (l h : ℕ) (t : Trees) → InOrder s f l h t → IsBefore 0 t
from_zero s f l h nothing k = tt
from_zero s f l h (node label c None rest) k = absurd k
from_zero s f l h (node label c (Some here) rest) k = (omega arith, from_zero elsewhere f l h rest k.3)

before_both : (a b : ℕ) (t : Trees) → IsBefore a t → IsBefore b t → IsBefore (max a b) t
before_both a b nothing h k = tt
before_both a b (node label c None rest) h k = absurd h
before_both a b (node label c (Some here) rest) h k = (max-le h.0 k.0, before_both a b rest h.1 k.1)

before_left : (a b : ℕ) (t : Trees) → IsBefore (max a b) t → IsBefore a t
before_left a b nothing h = tt
before_left a b (node label c None rest) h = absurd h
before_left a b (node label c (Some here) rest) h = (omega (arith, h.0, le-max_left a b), before_left a b rest h.1)

before_right : (a b : ℕ) (t : Trees) → IsBefore (max a b) t → IsBefore b t
before_right a b nothing h = tt
before_right a b (node label c None rest) h = absurd h
before_right a b (node label c (Some here) rest) h = (omega (arith, h.0, le-max_right a b), before_right a b rest h.1)

-- what is asked of nodes is asked of the first, of those in it, and of those after it
pub record Parts (b : Bounds) (label : Label) (children rest : Trees) (here : Position) : Type 0 where
  pub first : Admits b label here
  pub below : AsAsked (bounds_in b.standing label here) children
  pub after : AsAsked (bounds_after b here) rest

in_parts : (b : Bounds) (label : Label) (children rest : Trees) (here : Position) → AsAsked b (node label children (Some here) rest) → Parts b label children rest here
in_parts b label children rest here k = record {
  first = (k.0.0, k.1.0);
  below = (from_zero _ _ _ _ children k.1.2, k.1.2);
  after = (before_both b.reached here.end.offset rest k.0.1 k.1.1, k.1.3);
}

of_parts : (b : Bounds) (label : Label) (children rest : Trees) (here : Position) → Parts b label children rest here → AsAsked b (node label children (Some here) rest)
of_parts b label children rest here p = (
  (p.first.0, before_left b.reached here.end.offset rest p.after.0),
  (p.first.1, before_right b.reached here.end.offset rest p.after.0, p.below.1, p.after.1),
)

-- ---- Of nodes

split : (x : Node) (rest : List Node) (here : Position) → position_of x ≡ Some here → views (x ∷ rest) ≡ node (label_of x) (views (nodes_in x)) (Some here) (views rest)
split x rest here at = ap (λ (t : Tree). before t (views rest)) (view-is x) ∙ ap (λ p. node (label_of x) (views (nodes_in x)) p (views rest)) at

-- what is asked of a first node that has a position
pub record Asked (b : Bounds) (x : Node) (rest : List Node) (here : Position) : Type 0 where
  pub first : Admits b (label_of x) here
  pub below : AsAsked (bounds_in b.standing (label_of x) here) (views (nodes_in x))
  pub after : AsAsked (bounds_after b here) (views rest)

asked : (b : Bounds) (left rest : List Node) (x : Node) (here : Position) → left ≡ x ∷ rest → position_of x ≡ Some here → AsAsked b (views left) → Asked b x rest here
asked b left rest x here is at k =
    let p = in_parts b (label_of x) (views (nodes_in x)) (views rest) here (subst (AsAsked b) (ap views is ∙ split x rest here at) k) in
    record { first = p.first; below = p.below; after = p.after }

answered : (b : Bounds) (left rest : List Node) (x : Node) (here : Position) → left ≡ x ∷ rest → position_of x ≡ Some here → Asked b x rest here → AsAsked b (views left)
answered b left rest x here is at a =
    subst (AsAsked b) (sym (ap views is ∙ split x rest here at))
    (of_parts b (label_of x) (views (nodes_in x)) (views rest) here (record { first = a.first; below = a.below; after = a.after }))

-- a first node without a position is not as asked
pub placeless : (b : Bounds) (left rest : List Node) (x : Node) → left ≡ x ∷ rest → position_of x ≡ None → AsAsked b (views left) → ⊥
placeless b left rest x is at k =
    let is_none : views left ≡ node (label_of x) (views (nodes_in x)) None (views rest) = ap views is ∙ ap (λ (t : Tree). before t (views rest)) (view-is x) ∙ ap (λ p. node (label_of x) (views (nodes_in x)) p (views rest)) at in
    (subst (AsAsked b) is_none k).0

-- ---- Of the levels on a stack

keep_push : (levels : List Level) (level : Level) → AllAsAsked levels → AsAsked (bounds_of level.limits) (views level.nodes.now) → AllAsAsked (levels ++ level ∷ [])
keep_push [] level a k = (k, tt)
keep_push (l ∷ levels) level (first, a) k = (first, keep_push levels level a k)

keep_pop : (levels : List Level) (level : Level) → AllAsAsked (levels ++ level ∷ []) → AsAsked (bounds_of level.limits) (views level.nodes.now) × AllAsAsked levels
keep_pop [] level (k, _) = (k, tt)
keep_pop (l ∷ levels) level (first, a) = let r = keep_pop levels level a in (r.0, (first, r.1))

-- what is asked of nodes is asked of those that are left in the level in hand, and in the levels around it
pub record Walks (whole : Bounds) (nodes : List Node) (b : Bounds) (left : List Node) (levels : List Level) : Type 0 where
  pub tells : AsAsked b (views left) → AllAsAsked levels → AsAsked whole (views nodes)
  pub asks_level : AsAsked whole (views nodes) → AsAsked b (views left)
  pub asks_levels : AsAsked whole (views nodes) → AllAsAsked levels

-- into the first node
pub asks_down : (whole b b_below : Bounds) (nodes left rest below : List Node) (x : Node) (here : Position) (levels after : List Level) (top : Level) → Walks whole nodes b left levels → left ≡ x ∷ rest → position_of x ≡ Some here → Admits b (label_of x) here → below ≡ nodes_in x → b_below ≡ bounds_in b.standing (label_of x) here → after ≡ levels ++ top ∷ [] → bounds_of top.limits ≡ bounds_after b here → top.nodes.now ≡ rest → Walks whole nodes b_below below after
asks_down whole b b_below nodes left rest below x here levels after top so_far is at first within same_below pushed same_after holds =
    let in_below : AsAsked b_below (views below) ≡ AsAsked (bounds_in b.standing (label_of x) here) (views (nodes_in x)) = ap (λ y. AsAsked y (views below)) same_below ∙ ap (λ (l : List Node). AsAsked (bounds_in b.standing (label_of x) here) (views l)) within in
    let in_after : AsAsked (bounds_of top.limits) (views top.nodes.now) ≡ AsAsked (bounds_after b here) (views rest) = ap (λ y. AsAsked y (views top.nodes.now)) same_after ∙ ap (λ (l : List Node). AsAsked (bounds_after b here) (views l)) holds in
    record {
      tells = λ k a.
          let r = keep_pop levels top (subst AllAsAsked pushed a) in
          so_far.tells (answered b left rest x here is at (record { first = first; below = subst (λ t. t) in_below k; after = subst (λ t. t) in_after r.0 })) r.1;
      asks_level = λ k. subst (λ t. t) (sym in_below) (asked b left rest x here is at (so_far.asks_level k)).below;
      asks_levels = λ k. subst AllAsAsked (sym pushed) (keep_push levels top (so_far.asks_levels k) (subst (λ t. t) (sym in_after) (asked b left rest x here is at (so_far.asks_level k)).after));
    }

-- into the first node, when no node comes after it
pub asks_into : (whole b b_below : Bounds) (nodes left rest below : List Node) (x : Node) (here : Position) (levels : List Level) → Walks whole nodes b left levels → left ≡ x ∷ rest → rest ≡ [] → position_of x ≡ Some here → Admits b (label_of x) here → below ≡ nodes_in x → b_below ≡ bounds_in b.standing (label_of x) here → Walks whole nodes b_below below levels
asks_into whole b b_below nodes left rest below x here levels so_far is last at first within same_below =
    let in_below : AsAsked b_below (views below) ≡ AsAsked (bounds_in b.standing (label_of x) here) (views (nodes_in x)) = ap (λ y. AsAsked y (views below)) same_below ∙ ap (λ (l : List Node). AsAsked (bounds_in b.standing (label_of x) here) (views l)) within in
    record {
      tells = λ k a. so_far.tells (answered b left rest x here is at (record { first = first; below = subst (λ t. t) in_below k; after = subst (λ (l : List Node). AsAsked (bounds_after b here) (views l)) (sym last) (tt, tt) })) a;
      asks_level = λ k. subst (λ t. t) (sym in_below) (asked b left rest x here is at (so_far.asks_level k)).below;
      asks_levels = so_far.asks_levels;
    }

-- past the first node, when the nodes in it were found to be as asked
pub asks_past : (whole b b_below b_after : Bounds) (nodes left rest below : List Node) (x : Node) (here : Position) (levels : List Level) → Walks whole nodes b left levels → left ≡ x ∷ rest → position_of x ≡ Some here → Admits b (label_of x) here → below ≡ nodes_in x → b_below ≡ bounds_in b.standing (label_of x) here → AsAsked b_below (views below) → b_after ≡ bounds_after b here → Walks whole nodes b_after rest levels
asks_past whole b b_below b_after nodes left rest below x here levels so_far is at first within same_below kept same_after =
    let kept_in : AsAsked (bounds_in b.standing (label_of x) here) (views (nodes_in x)) = subst (λ (l : List Node). AsAsked (bounds_in b.standing (label_of x) here) (views l)) within (subst (λ y. AsAsked y (views below)) same_below kept) in
    record {
      tells = λ k a. so_far.tells (answered b left rest x here is at (record { first = first; below = kept_in; after = subst (λ y. AsAsked y (views rest)) same_after k })) a;
      asks_level = λ k. subst (λ y. AsAsked y (views rest)) (sym same_after) (asked b left rest x here is at (so_far.asks_level k)).after;
      asks_levels = so_far.asks_levels;
    }

-- back to the level on top
pub asks_up : (whole b : Bounds) (nodes left : List Node) (levels after : List Level) (top : Level) → Walks whole nodes b left levels → left ≡ [] → levels ≡ after ++ top ∷ [] → Walks whole nodes (bounds_of top.limits) top.nodes.now after
asks_up whole b nodes left levels after top so_far none popped =
    record {
      tells = λ k a. so_far.tells (subst (λ (l : List Node). AsAsked b (views l)) (sym none) (tt, tt)) (subst AllAsAsked (sym popped) (keep_push after top a k));
      asks_level = λ k. (keep_pop after top (subst AllAsAsked popped (so_far.asks_levels k))).0;
      asks_levels = λ k. (keep_pop after top (subst AllAsAsked popped (so_far.asks_levels k))).1;
    }

-- what is asked of the first of the nodes that are left
pub asks_first_node : (whole b : Bounds) (nodes left rest : List Node) (x : Node) (here : Position) (levels : List Level) → Walks whole nodes b left levels → left ≡ x ∷ rest → position_of x ≡ Some here → AsAsked whole (views nodes) → Admits b (label_of x) here
asks_first_node whole b nodes left rest x here levels so_far is at k = (asked b left rest x here is at (so_far.asks_level k)).first

-- what is asked of the nodes in it
pub asks_below : (whole b b_below : Bounds) (nodes left rest below : List Node) (x : Node) (here : Position) (levels : List Level) → Walks whole nodes b left levels → left ≡ x ∷ rest → position_of x ≡ Some here → below ≡ nodes_in x → b_below ≡ bounds_in b.standing (label_of x) here → AsAsked whole (views nodes) → AsAsked b_below (views below)
asks_below whole b b_below nodes left rest below x here levels so_far is at within same_below k =
    subst (λ y. AsAsked y (views below)) (sym same_below) (subst (λ (l : List Node). AsAsked (bounds_in b.standing (label_of x) here) (views l)) (sym within) (asked b left rest x here is at (so_far.asks_level k)).below)

-- it has a position
pub asks_place : (whole b : Bounds) (nodes left rest : List Node) (x : Node) (levels : List Level) → Walks whole nodes b left levels → left ≡ x ∷ rest → position_of x ≡ None → AsAsked whole (views nodes) → ⊥
asks_place whole b nodes left rest x levels so_far is at k = placeless b left rest x is at (so_far.asks_level k)

-- ---- Of a tree

tree-is : (x : Node) (place : _) → position_of x ≡ place → only (view x) ≡ node (label_of x) (views (nodes_in x)) place nothing
tree-is x place at = ap only (view-is x) ∙ ap (λ p. node (label_of x) (views (nodes_in x)) p nothing) at

-- a tree is ordered where the nodes in it are as asked
pub tree_tells : (x : Node) (here : Position) (b : Bounds) (below : List Node) → position_of x ≡ Some here → below ≡ nodes_in x → b ≡ bounds_in elsewhere (label_of x) here → AsAsked b (views below) → IsOrdered (only (view x))
tree_tells x here b below at within bounds k =
    subst IsOrdered (sym (tree-is x (Some here) at)) (subst (λ (l : List Node). AsAsked (bounds_in elsewhere (label_of x) here) (views l)) within (subst (λ y. AsAsked y (views below)) bounds k)).1

pub tree_asks : (x : Node) (here : Position) (b : Bounds) (below : List Node) → position_of x ≡ Some here → below ≡ nodes_in x → b ≡ bounds_in elsewhere (label_of x) here → IsOrdered (only (view x)) → AsAsked b (views below)
tree_asks x here b below at within bounds o =
    let k = subst IsOrdered (tree-is x (Some here) at) o in
    subst (λ y. AsAsked y (views below)) (sym bounds) (subst (λ (l : List Node). AsAsked (bounds_in elsewhere (label_of x) here) (views l)) (sym within) (from_zero _ _ _ _ (views (nodes_in x)) k, k))

-- a tree without a position is not ordered
pub tree_placeless : (x : Node) → position_of x ≡ None → IsOrdered (only (view x)) → ⊥
tree_placeless x at o = subst IsOrdered (tree-is x None at) o

-- a node alone is
pub tree_alone : (x : Node) (here : Position) → position_of x ≡ Some here → [] ≡ nodes_in x → IsOrdered (only (view x))
tree_alone x here at bare = tree_tells x here (bounds_in elsewhere (label_of x) here) [] at bare refl (tt, tt)
