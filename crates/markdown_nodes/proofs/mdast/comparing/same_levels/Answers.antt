use Rattle.std.proofs.Common.{true≢false, refl, sym, ap, ◌∙◌, arith}
use Rattle.std.proofs.lemmas.Bool.{eqb-true, eq-eqb}
use Rattle.std.proofs.lemmas.List.{nil_from_length}
use Rattle.markdown_nodes.specs.View.{views}
use Rattle.markdown_nodes.proofs.Comparing.{same_but_children-from_views, nodes-same, same_length}
use Rattle.markdown_nodes.proofs.ComparingLevels.{compares_down, compares_past, compares_up, heads_same}
use Rattle.markdown_nodes.proofs.Levels.{walks_down, walks_up}
use Rattle.markdown_nodes.proofs.mdast.comparing.same_levels.Goals as goal

pub returns-then-not-same_but_children : goal.returns-then-not-same_but_children
returns-then-not-same_but_children c = (λ e. absurd (true≢false (sym e)), λ e. c.if-not-same_but_children.ensures.1 (same_but_children-from_views _ _ (heads_same c.args.xs.now c.args.ys.now c.walk.left.now c.walk.right.now c.in-Some.rest_x.now c.in-Some-split_first.rest_y.now c.in-Some.x.now c.in-Some-split_first.y.now c.walk.pairs.items c.walk.invariant c.in-Some.ensures.cases.0 c.in-Some-split_first.ensures.cases.0 e)))

pub returns-then-not-same_nodes : goal.returns-then-not-same_nodes
returns-then-not-same_nodes c = (λ e. absurd (true≢false (sym e)), λ e. c.if-not-same_nodes.ensures.1 (ap views c.child_nodes.ensures ∙ nodes-same c.in-Some.x.now c.in-Some-split_first.y.now (heads_same c.args.xs.now c.args.ys.now c.walk.left.now c.walk.right.now c.in-Some.rest_x.now c.in-Some-split_first.rest_y.now c.in-Some.x.now c.in-Some-split_first.y.now c.walk.pairs.items c.walk.invariant c.in-Some.ensures.cases.0 c.in-Some-split_first.ensures.cases.0 e) ∙ ap views (sym c.child_nodes-in-Err.ensures)))

pub returns-then-not-is_empty : goal.returns-then-not-is_empty
returns-then-not-is_empty c = (
  λ e. absurd (true≢false (sym e)),
  λ e. c.if-not-is_empty.ensures ∙ eq-eqb _ 0 (sym (same_length c.walk.left.now c.walk.right.now (c.walk.invariant.asks_level e)) ∙ c.in_default.ensures.cases),
)

pub walk-smaller-in-Ok : goal.walk-smaller-in-Ok
walk-smaller-in-Ok c = walks_down (λ x. x.xs.now) c.walk.left.now c.in-Some.rest_x.now c.child_nodes-left.result.now c.in-Some.x.now c.walk.pairs.items c.push.new.self.items _ c.in-Some.ensures.cases.0 c.child_nodes-left.ensures c.in-Ok.ensures.items refl

pub walk-preserved-in-Ok : goal.walk-preserved-in-Ok
walk-preserved-in-Ok c = compares_down c.args.xs.now c.args.ys.now c.walk.left.now c.walk.right.now c.in-Some.rest_x.now c.in-Some-split_first.rest_y.now _ _ c.in-Some.x.now c.in-Some-split_first.y.now c.walk.pairs.items _ _ c.walk.invariant c.in-Some.ensures.cases.0 c.in-Some-split_first.ensures.cases.0 (c.if-not-same_but_children.ensures.0 refl).0 (c.if-not-same_but_children.ensures.0 refl).1 c.child_nodes-left.ensures c.child_nodes-right.ensures c.in-Ok.ensures.items refl refl

pub walk-preserved-in-Err : goal.walk-preserved-in-Err
walk-preserved-in-Err c = rw c.in-Err.ensures.items (compares_past c.args.xs.now c.args.ys.now c.walk.left.now c.walk.right.now c.in-Some.rest_x.now c.in-Some-split_first.rest_y.now _ _ c.in-Some.x.now c.in-Some-split_first.y.now c.walk.pairs.items c.walk.invariant c.in-Some.ensures.cases.0 c.in-Some-split_first.ensures.cases.0 (c.if-not-same_but_children.ensures.0 refl).0 (c.if-not-same_but_children.ensures.0 refl).1 c.child_nodes.ensures c.child_nodes-in-Err.ensures (c.if-not-same_nodes.ensures.0 refl))

pub walk-smaller : goal.walk-smaller
walk-smaller c = walks_up (λ x. x.xs.now) c.walk.left.now c.in-Some-pop.pair.xs.now c.walk.pairs.items c.pop.new.self.items c.in-Some-pop.pair c.in-Some-pop.ensures.items refl

pub walk-preserved : goal.walk-preserved
walk-preserved c = compares_up c.args.xs.now c.args.ys.now c.walk.left.now c.walk.right.now c.walk.pairs.items _ c.in-Some-pop.pair c.walk.invariant (nil_from_length _ c.in_default.ensures.cases) (nil_from_length _ (eqb-true _ 0 (sym c.if-not-is_empty.ensures))) c.in-Some-pop.ensures.items
