use Rattle.std.proofs.Common.{arith, refl, sym, true≢false}
use Rattle.std.proofs.lemmas.Bool.{eqb-true}
use Rattle.std.proofs.lemmas.List.{nil_from_length}
use Rattle.markdown_nodes.proofs.Levels.{walks_call, walks_down, walks_into, walks_past, walks_up}
use Rattle.markdown_grammar.specs.declared.ordered.Level.{Level}
use Rattle.markdown_grammar.specs.Levels.{bounds_of}
use Rattle.markdown_grammar.proofs.OrderedLevels.{asks_below, asks_down, asks_first_node, asks_into, asks_past, asks_place, asks_up}
use Rattle.markdown_grammar.proofs.ordered.+in_order.Goals as goal

pub walk-smaller-in_default : goal.walk-smaller-in_default
walk-smaller-in_default t c = walks_up (λ (level : Level). level.nodes.now) c.walk.level.nodes.now c.in-Some-pop.outer.nodes.now c.walk.levels.items c.pop.new.self.items c.in-Some-pop.outer c.in-Some-pop.ensures.items refl

pub walk-preserved-in_default : goal.walk-preserved-in_default
walk-preserved-in_default t c = record {
  walks = asks_up (bounds_of c.args.whole.limits) (bounds_of c.walk.level.limits) c.args.whole.nodes.now c.walk.level.nodes.now c.walk.levels.items c.pop.new.self.items c.in-Some-pop.outer c.walk.invariant.walks (nil_from_length _ c.in_default.ensures.cases) c.in-Some-pop.ensures.items;
  fewer = omega (arith, c.walk.invariant.fewer, walks_up (λ (level : Level). level.nodes.now) c.walk.level.nodes.now c.in-Some-pop.outer.nodes.now c.walk.levels.items c.pop.new.self.items c.in-Some-pop.outer c.in-Some-pop.ensures.items refl);
}

pub returns-in_default-position : goal.returns-in_default-position
returns-in_default-position t c = (λ e. absurd (true≢false (sym e)), λ k. absurd (asks_place (bounds_of c.args.whole.limits) (bounds_of c.walk.level.limits) c.args.whole.nodes.now c.walk.level.nodes.now c.in-Some.rest.now c.in-Some.first.now c.walk.levels.items c.walk.invariant.walks c.in-Some.ensures.cases.0 (sym c.in_default-position.ensures) k))

pub returns-then-not-admit : goal.returns-then-not-admit
returns-then-not-admit t c = (λ e. absurd (true≢false (sym e)), λ k. c.if-not-admit.ensures.1 (asks_first_node (bounds_of c.args.whole.limits) (bounds_of c.walk.level.limits) c.args.whole.nodes.now c.walk.level.nodes.now c.in-Some.rest.now c.in-Some.first.now c.in-Some-position.here.now c.walk.levels.items c.walk.invariant.walks c.in-Some.ensures.cases.0 (sym c.in-Some-position.ensures) k))

pub walk-smaller-then-is_empty : goal.walk-smaller-then-is_empty
walk-smaller-then-is_empty t c = walks_into (λ (level : Level). level.nodes.now) c.walk.level.nodes.now c.in-Some.rest.now c.level_in-inner.result.nodes.now c.in-Some.first.now c.walk.levels.items c.in-Some.ensures.cases.0 c.level_in-inner.ensures.nodes

pub walk-preserved-then-is_empty : goal.walk-preserved-then-is_empty
walk-preserved-then-is_empty t c = record {
  walks = asks_into (bounds_of c.args.whole.limits) (bounds_of c.walk.level.limits) (bounds_of c.level_in-inner.result.limits) c.args.whole.nodes.now c.walk.level.nodes.now c.in-Some.rest.now c.level_in-inner.result.nodes.now c.in-Some.first.now c.in-Some-position.here.now c.walk.levels.items c.walk.invariant.walks c.in-Some.ensures.cases.0 (nil_from_length _ (eqb-true _ 0 (sym c.if-is_empty.ensures))) (sym c.in-Some-position.ensures) (c.if-not-admit.ensures.0 refl) c.level_in-inner.ensures.nodes c.level_in-inner.ensures.limits;
  fewer = omega (arith, c.walk.invariant.fewer, walks_into (λ (level : Level). level.nodes.now) c.walk.level.nodes.now c.in-Some.rest.now c.level_in-inner.result.nodes.now c.in-Some.first.now c.walk.levels.items c.in-Some.ensures.cases.0 c.level_in-inner.ensures.nodes);
}

pub walk-smaller-in-Ok : goal.walk-smaller-in-Ok
walk-smaller-in-Ok t c = walks_down (λ (level : Level). level.nodes.now) c.walk.level.nodes.now c.in-Some.rest.now c.level_in-inner.result.nodes.now c.in-Some.first.now c.walk.levels.items c.push.new.self.items _ c.in-Some.ensures.cases.0 c.level_in-inner.ensures.nodes c.in-Ok.ensures.items refl

pub walk-preserved-in-Ok : goal.walk-preserved-in-Ok
walk-preserved-in-Ok t c = record {
  walks = asks_down (bounds_of c.args.whole.limits) (bounds_of c.walk.level.limits) (bounds_of c.level_in-inner.result.limits) c.args.whole.nodes.now c.walk.level.nodes.now c.in-Some.rest.now c.level_in-inner.result.nodes.now c.in-Some.first.now c.in-Some-position.here.now c.walk.levels.items c.push.new.self.items _ c.walk.invariant.walks c.in-Some.ensures.cases.0 (sym c.in-Some-position.ensures) (c.if-not-admit.ensures.0 refl) c.level_in-inner.ensures.nodes c.level_in-inner.ensures.limits c.in-Ok.ensures.items c.after-next.ensures refl;
  fewer = omega (arith, c.walk.invariant.fewer, walks_down (λ (level : Level). level.nodes.now) c.walk.level.nodes.now c.in-Some.rest.now c.level_in-inner.result.nodes.now c.in-Some.first.now c.walk.levels.items c.push.new.self.items _ c.in-Some.ensures.cases.0 c.level_in-inner.ensures.nodes c.in-Ok.ensures.items refl);
}

pub in_order-requires : goal.in_order-requires
in_order-requires t c = (walks_call (λ (level : Level). level.nodes.now) c.walk.level.nodes.now c.in-Some.rest.now c.level_in-inner.result.nodes.now c.in-Some.first.now c.walk.levels.items _ c.in-Some.ensures.cases.0 c.level_in-inner.ensures.nodes (omega (arith, c.walk.invariant.fewer, c.decreases)), tt)

pub returns-then-not-in_order : goal.returns-then-not-in_order
returns-then-not-in_order t c = (λ e. absurd (true≢false (sym e)), λ k. c.if-not-in_order.ensures.1 (asks_below (bounds_of c.args.whole.limits) (bounds_of c.walk.level.limits) (bounds_of c.level_in-inner.result.limits) c.args.whole.nodes.now c.walk.level.nodes.now c.in-Some.rest.now c.level_in-inner.result.nodes.now c.in-Some.first.now c.in-Some-position.here.now c.walk.levels.items c.walk.invariant.walks c.in-Some.ensures.cases.0 (sym c.in-Some-position.ensures) c.level_in-inner.ensures.nodes c.level_in-inner.ensures.limits k))

pub walk-preserved : goal.walk-preserved
walk-preserved t c = record {
  walks = rw c.in-Err.ensures.items (asks_past (bounds_of c.args.whole.limits) (bounds_of c.walk.level.limits) (bounds_of c.level_in-inner.result.limits) (bounds_of c.after-next.result) c.args.whole.nodes.now c.walk.level.nodes.now c.in-Some.rest.now c.level_in-inner.result.nodes.now c.in-Some.first.now c.in-Some-position.here.now c.walk.levels.items c.walk.invariant.walks c.in-Some.ensures.cases.0 (sym c.in-Some-position.ensures) (c.if-not-admit.ensures.0 refl) c.level_in-inner.ensures.nodes c.level_in-inner.ensures.limits (c.if-not-in_order.ensures.0 refl) c.after-next.ensures);
  fewer = rw c.in-Err.ensures.items (omega (arith, c.walk.invariant.fewer, walks_past (λ (level : Level). level.nodes.now) c.walk.level.nodes.now c.in-Some.rest.now c.in-Some.first.now c.walk.levels.items c.in-Some.ensures.cases.0));
}
