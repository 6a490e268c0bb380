use Rattle.std.proofs.Common.{refl, sym, ◌∙◌}
use Rattle.std.proofs.lemmas.List.{nil_from_length}
use Rattle.markdown_nodes.proofs.CopyingLevels.{copies_all, copies_down, copies_first, copies_like, copies_up}
use Rattle.markdown_nodes.proofs.Levels.{walks_down, walks_up}
use Rattle.markdown_nodes.proofs.mdast.copying.copy.Goals as goal

pub walk-init : goal.walk-init
walk-init c = copies_first c.args.node.now _ _ _ c.child_nodes-level.ensures c.new-copies.ensures.items c.new-frames.ensures.items

pub walk-smaller-in-Some : goal.walk-smaller-in-Some
walk-smaller-in-Some c = walks_down (λ x. x.rest.now) c.walk.level.now c.in-Some.rest.now c.child_nodes-level-in-Some.result.now c.in-Some.first.now c.walk.frames.items c.push.new.self.items _ c.in-Some.ensures.cases.0 c.child_nodes-level-in-Some.ensures c.in_ok-push.ensures.items refl

pub walk-preserved-in-Some : goal.walk-preserved-in-Some
walk-preserved-in-Some c = copies_down c.args.node.now c.walk.parent.now c.in-Some.first.now c.walk.level.now c.in-Some.rest.now _ c.walk.copies.items _ c.walk.frames.items _ _ c.walk.invariant c.in-Some.ensures.cases.0 c.child_nodes-level-in-Some.ensures c.new-copies-in-Some.ensures.items c.in_ok-push.ensures.items refl refl refl

pub walk-smaller : goal.walk-smaller
walk-smaller c = walks_up (λ x. x.rest.now) c.walk.level.now _ c.walk.frames.items c.pop.new.self.items c.in-Some-pop.frame c.in-Some-pop.ensures.items refl

pub walk-preserved : goal.walk-preserved
walk-preserved c = copies_up c.args.node.now c.walk.parent.now _ c.walk.level.now c.walk.copies.items _ c.walk.frames.items _ c.in-Some-pop.frame c.walk.invariant c.in-Some-pop.ensures.items (c.in_ok-copy.ensures (copies_like _ _ _ _ _ c.walk.invariant (nil_from_length _ c.in_default.ensures.cases))) c.in_ok-push-2.ensures.items

pub returns-in_default-pop : goal.returns-in_default-pop
returns-in_default-pop c = copies_all c.args.node.now c.walk.parent.now _ c.walk.level.now c.walk.copies.items c.walk.frames.items c.walk.invariant (nil_from_length _ (sym c.walk.frames.ok.0 ∙ c.in_default-pop.ensures.cases.0)) (c.in_ok-copy.ensures (copies_like _ _ _ _ _ c.walk.invariant (nil_from_length _ c.in_default.ensures.cases)))
