use Rattle.std.proofs.Common.{Ok, ap, ◌∙◌}
use Rattle.markdown_events.specs.declared.role.Role.{Role}
use Rattle.markdown_steps.specs.Compiler.{State, enter_as}
use Rattle.markdown_tree.specs.States.{state_of}
use Rattle.markdown_tree.proofs.Beginnings.{enter_free, enter_held}
use Rattle.markdown_containers.proofs.Stopping.{gives_same}
use Rattle.markdown_tree.proofs.context.Context.enter.Goals as goal

pub returns-then-not-allows : goal.returns-then-not-allows
returns-then-not-allows c s same = enter_held s c.args.name c.role-role.result c.args.point.now c.allows.result c.args.self.now c.role-role.ensures c.allows.ensures c.if-not-allows.true

pub returns-in_ok-enter_transparent-in-Transparent : goal.returns-in_ok-enter_transparent-in-Transparent
returns-in_ok-enter_transparent-in-Transparent c s same =
    enter_free s c.args.name c.role-role.result c.args.point.now c.allows.result c.args.self.now c.role-role.ensures c.allows.ensures c.if-not-allows.false
    ∙ ap (λ (r : Role). enter_as s r c.args.name c.args.point.now (state_of c.args.self.now)) c.in-Transparent.is
    ∙ ap (λ (st : State). Ok st) c.in_ok-enter_transparent-in-Transparent.ensures

pub returns-in-Significant : goal.returns-in-Significant
returns-in-Significant c s same =
    gives_same _ c.args.point.now c.enter_significant.result _ _
    (enter_free s c.args.name c.role-role.result c.args.point.now c.allows.result c.args.self.now c.role-role.ensures c.allows.ensures c.if-not-allows.false
    ∙ ap (λ (r : Role). enter_as s r c.args.name c.args.point.now (state_of c.args.self.now)) c.in-Significant.is)
    (c.enter_significant.ensures s same)
