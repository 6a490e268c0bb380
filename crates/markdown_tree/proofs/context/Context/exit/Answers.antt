use Rattle.std.proofs.Common.{List, ap, arith, get_or, refl, subst, sym, ◌-◌, ◌∙◌}
use Rattle.std.specs.Prelude.{vec_len}
use Rattle.markdown_grammar.specs.Document.{source_of}
use Rattle.markdown_steps.specs.Compiler.{exit_step}
use Rattle.markdown_steps.specs.Well.{Well}
use Rattle.markdown_events.specs.Names.{role_of}
use Rattle.markdown_tree.specs.States.{state_in}
use Rattle.markdown_tree.specs.declared.context.Frame.{Frame}
use Rattle.markdown_tree.proofs.Endings.{exit_none, exit_other, exit_visits_left, none_left}
use Rattle.markdown_containers.proofs.Stopping.{gives_same}
use Rattle.markdown_tree.proofs.context.Context.exit.Goals as goal

pub returns-in_default-clause-gives : goal.returns-in_default-clause-gives
returns-in_default-clause-gives g c = exit_none (source_of c.args.document.now (g.R.References.text c.args.references.now)) c.args.name c.args.point.now c.args.self.now
    (none_left c.args.self.now.frames.items (vec_len c.args.self.now.frames) (λ d. get_or c.args.self.now.frames.items (vec_len c.args.self.now.frames - 1) d) c.args.self.now.frames.ok.0 (λ d more. c.in_default.ensures.value d more))

pub returns-then-not-is-clause-gives : goal.returns-then-not-is-clause-gives
returns-then-not-is-clause-gives g c =
    exit_other (source_of c.args.document.now (g.R.References.text c.args.references.now)) c.args.name c.args.point.now c.args.self.now c.in-Some.frame c.pop.new.self.items c.in-Some.ensures.items
    (sym c.is.ensures.value ∙ c.if-not-is.true)

pub end-requires : goal.end-requires
end-requires g c =
    let s = source_of c.args.document.now (g.R.References.text c.args.references.now) in
    subst (λ (fs : List Frame). Well s (state_in fs c.args.self.now)) c.in-Some.ensures.items c.requires

pub returns-clause-gives : goal.returns-clause-gives
returns-clause-gives g c =
    let s = source_of c.args.document.now (g.R.References.text c.args.references.now) in
    gives_same _ c.args.point.now c.«end».result _ _ (ap (λ (fs : List Frame). exit_step s c.args.name c.args.point.now (state_in fs c.args.self.now)) c.in-Some.ensures.items)
    (c.«end».ensures.gives c.args.name (sym c.is.ensures.value ∙ c.if-not-is.false))

pub returns-clause-bound : goal.returns-clause-bound
returns-clause-bound g c =
    let same = exit_visits_left c.args.name c.args.self.now c.pop.new.self c.in-Some.frame (role_of c.in-Some.frame.name) c.in-Some.ensures.items refl (sym c.is.ensures.value ∙ c.if-not-is.false) in
    let visits_at_end = c.«end».ensures.bound in
    omega (arith, same, visits_at_end)
