use Rattle.std.proofs.Common.{sym, ◌∙◌, refl}
use Rattle.std.proofs.lemmas.List.{nil_from_length}
use Rattle.markdown_nodes.proofs.WalkSteps.{lets_go, takes}
use Rattle.markdown_nodes.proofs.walk.Walk.next.Goals as goal

pub returns-in-Some-clause-next : goal.returns-in-Some-clause-next
returns-in-Some-clause-next c =
    sym c.levels.invariant
    ∙ takes c.levels.self.outer.items c.push.new.self.items c.levels.self.level c.in-Some.rest c.child_nodes-self.result c.in-Some.first.now c.in-Some.rest.now c.in-Some.ensures.cases.0 refl c.in_ok-push.ensures.items c.child_nodes-self.ensures

pub levels-preserved : goal.levels-preserved
levels-preserved c =
    lets_go c.levels.self.outer.items c.pop.new.self.items c.levels.self.level c.in-Some-pop.level (nil_from_length _ c.in_default.ensures.cases) c.in-Some-pop.ensures.items ∙ c.levels.invariant
