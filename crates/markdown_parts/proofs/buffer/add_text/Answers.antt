use Rattle.std.proofs.Common.{arith, refl, sym, ◌∙◌}
use Rattle.std.proofs.lemmas.List.{nil_from_length}
use Rattle.markdown_parts.proofs.Readings.{in_none, in_parent, left_down, left_first, left_none, left_past, left_up, reads_all, reads_down, reads_first, reads_past, reads_up, walks_down, walks_past, walks_up, within}
use Rattle.markdown_parts.proofs.buffer.add_text.Goals as goal

pub walk-init : goal.walk-init
walk-init c = record {
  list = refl;
  text = reads_first c.args.form _ c.args.nodes.now c.new-levels.result.items c.new-levels.ensures.items;
  count = omega (arith, left_first c.args.nodes.now c.new-levels.result.items c.new-levels.ensures.items);
}

pub returns-in_err-push_str-clause-bound : goal.returns-in_err-push_str-clause-bound
returns-in_err-push_str-clause-bound c = within c.walk.level.now c.in-Some.rest.now c.in-Some.first.now c.walk.levels.items _ _ _ c.in-Some.ensures.cases.0 c.tick.ensures.count c.walk.invariant.count

pub returns-in_err-push-clause-bound : goal.returns-in_err-push-clause-bound
returns-in_err-push-clause-bound c = within c.walk.level.now c.in-Some.rest.now c.in-Some.first.now c.walk.levels.items _ _ _ c.in-Some.ensures.cases.0 c.tick.ensures.count c.walk.invariant.count

pub walk-smaller-in-Some-children : goal.walk-smaller-in-Some-children
walk-smaller-in-Some-children c =
    let inner = in_parent c.in-Some.first.now c.in-Some-children.children.now c.as_slice-level.result.now c.in-Some-children.ensures c.as_slice-level.ensures.value in
    walks_down c.walk.level.now c.in-Some.rest.now c.as_slice-level.result.now c.in-Some.first.now c.walk.levels.items c.push.new.self.items c.in-Some.rest c.in-Some.ensures.cases.0 inner c.in_ok-push.ensures.items refl

pub walk-preserved-in-Some-children : goal.walk-preserved-in-Some-children
walk-preserved-in-Some-children c =
    let inner = in_parent c.in-Some.first.now c.in-Some-children.children.now c.as_slice-level.result.now c.in-Some-children.ensures c.as_slice-level.ensures.value in
    record {
      text = reads_down c.args.form _ _ c.own_text.result.now c.walk.level.now c.in-Some.rest.now c.as_slice-level.result.now c.in-Some.first.now c.walk.levels.items c.push.new.self.items c.in-Some.rest _ c.walk.invariant.text c.in-Some.ensures.cases.0 c.in_ok-push_str.ensures.bytes c.own_text.ensures inner c.in_ok-push.ensures.items refl;
      list = c.tick.ensures.list ∙ c.walk.invariant.list;
      count = omega (arith, c.tick.ensures.count, c.walk.invariant.count, left_down c.walk.level.now c.in-Some.rest.now c.as_slice-level.result.now c.in-Some.first.now c.walk.levels.items c.push.new.self.items c.in-Some.rest c.in-Some.ensures.cases.0 inner c.in_ok-push.ensures.items refl);
    }

pub walk-smaller-in_default-children : goal.walk-smaller-in_default-children
walk-smaller-in_default-children c = walks_past c.walk.level.now c.in-Some.rest.now c.in-Some.first.now c.walk.levels.items c.in-Some.ensures.cases.0 (in_none c.in-Some.first.now c.in_default-children.ensures)

pub walk-preserved-in_default-children : goal.walk-preserved-in_default-children
walk-preserved-in_default-children c =
    let bare = in_none c.in-Some.first.now c.in_default-children.ensures in
    record {
      text = reads_past c.args.form _ _ c.own_text.result.now c.walk.level.now c.in-Some.rest.now c.in-Some.first.now c.walk.levels.items _ c.walk.invariant.text c.in-Some.ensures.cases.0 c.in_ok-push_str.ensures.bytes c.own_text.ensures bare;
      list = c.tick.ensures.list ∙ c.walk.invariant.list;
      count = omega (arith, c.tick.ensures.count, c.walk.invariant.count, left_past c.walk.level.now c.in-Some.rest.now c.in-Some.first.now c.walk.levels.items c.in-Some.ensures.cases.0 bare);
    }

pub returns-in_default-pop-clause-text : goal.returns-in_default-pop-clause-text
returns-in_default-pop-clause-text c = reads_all c.args.form _ c.walk.level.now c.walk.levels.items _ c.walk.invariant.text (nil_from_length _ c.in_default.ensures.cases) (nil_from_length _ (sym c.walk.levels.ok.0 ∙ c.in_default-pop.ensures.cases.0))

pub returns-in_default-pop-clause-count : goal.returns-in_default-pop-clause-count
returns-in_default-pop-clause-count c = omega (arith, c.walk.invariant.count, left_none c.walk.level.now c.walk.levels.items (nil_from_length _ c.in_default.ensures.cases) (nil_from_length _ (sym c.walk.levels.ok.0 ∙ c.in_default-pop.ensures.cases.0)))

pub walk-smaller : goal.walk-smaller
walk-smaller c = walks_up c.walk.level.now c.in-Some-pop.rest.now c.walk.levels.items c.pop.new.self.items c.in-Some-pop.rest (nil_from_length _ c.in_default.ensures.cases) c.in-Some-pop.ensures.items refl

pub walk-preserved : goal.walk-preserved
walk-preserved c =
    let empty = nil_from_length _ c.in_default.ensures.cases in
    record {
      list = c.walk.invariant.list;
      text = reads_up c.args.form _ c.walk.level.now c.in-Some-pop.rest.now c.walk.levels.items c.pop.new.self.items c.in-Some-pop.rest _ c.walk.invariant.text empty c.in-Some-pop.ensures.items refl;
      count = omega (arith, c.walk.invariant.count, left_up c.walk.level.now c.in-Some-pop.rest.now c.walk.levels.items c.pop.new.self.items c.in-Some-pop.rest empty c.in-Some-pop.ensures.items refl);
    }
