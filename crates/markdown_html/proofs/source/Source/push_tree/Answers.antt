use Rattle.std.proofs.Common.{ap, refl, sym, ◌∙◌}
use Rattle.std.proofs.lemmas.List.{nil_from_length}
use Rattle.markdown_nodes.specs.Access.{label_of}
use Rattle.markdown_nodes.proofs.Levels.{walks_down, walks_up}
use Rattle.markdown_html.specs.Given.{source_of}
use Rattle.markdown_html.specs.Pages.{page_of}
use Rattle.markdown_html.specs.Html.{settled}
use Rattle.markdown_html.specs.Places.{Place, place_of}
use Rattle.markdown_html.proofs.Levels.{writes_all, writes_down, writes_first, writes_up}
use Rattle.markdown_html.proofs.source.Source.push_tree.Goals as goal

pub walk-init : goal.walk-init
walk-init c = writes_first (source_of c.args.self.now) (place_of c.args.place) c.args.tree.now (page_of c.args.page.now) _ _ _ _ _ c.in_ok-enter.ensures c.settled-around.ensures c.inside-at.ensures c.child_nodes-level.ensures c.new-frames.ensures.items

pub walk-smaller-in-Some : goal.walk-smaller-in-Some
walk-smaller-in-Some c = walks_down (λ x. x.rest.now) c.walk.level.now c.in-Some.rest.now c.child_nodes-level-in-Some.result.now c.in-Some.first.now c.walk.frames.items c.push.new.self.items _ c.in-Some.ensures.cases.0 c.child_nodes-level-in-Some.ensures c.in_ok-push.ensures.items refl

pub walk-preserved-in-Some : goal.walk-preserved-in-Some
walk-preserved-in-Some c = writes_down (source_of c.args.self.now) (page_of c.walk.page) _ _ (place_of c.walk.at) (place_of c.walk.around) _ (place_of c.after.result) _ c.walk.level.now c.in-Some.rest.now _ c.walk.parent.now c.in-Some.first.now c.walk.frames.items _ _ c.walk.invariant c.in-Some.ensures.cases.0 (c.settled-here.ensures ∙ ap (λ (p : Place). settled (source_of c.args.self.now) p (label_of c.in-Some.first.now) (page_of c.walk.page)) c.followed.ensures) c.child_nodes-level-in-Some.ensures c.inside-at-in-Some.ensures c.after.ensures c.in_ok-push.ensures.items refl refl refl refl c.in_ok-enter-2.ensures

pub walk-smaller : goal.walk-smaller
walk-smaller c = walks_up (λ x. x.rest.now) c.walk.level.now _ c.walk.frames.items c.pop.new.self.items c.in-Some-pop.frame c.in-Some-pop.ensures.items refl

pub walk-preserved : goal.walk-preserved
walk-preserved c = writes_up (source_of c.args.self.now) (page_of c.walk.page) _ _ (place_of c.walk.at) (place_of c.walk.around) c.walk.level.now c.walk.parent.now c.walk.frames.items _ c.in-Some-pop.frame c.walk.invariant (nil_from_length _ c.in_default.ensures.cases) c.in-Some-pop.ensures.items c.in_ok-leave.ensures

pub returns-in_default-pop : goal.returns-in_default-pop
returns-in_default-pop c = writes_all (source_of c.args.self.now) (page_of c.walk.page) _ _ (place_of c.walk.at) (place_of c.walk.around) c.walk.level.now c.walk.parent.now c.walk.frames.items c.walk.invariant (nil_from_length _ c.in_default.ensures.cases) (nil_from_length _ (sym c.walk.frames.ok.0 ∙ c.in_default-pop.ensures.cases.0)) c.in_ok-leave.ensures
