use Rattle.std.proofs.Common.{ap, sym, ◌∙◌, arith}
use Rattle.std.specs.Prelude.{slice_get}
use Rattle.std.proofs.lemmas.Option.{slice_get_within}
use Rattle.markdown_grammar.specs.Document.{source_of}
use Rattle.markdown_tree.specs.States.{state_of}
use Rattle.markdown_tree.proofs.Loop.{goes_on, stops_here, stops_within, is_done, past_end}
use Rattle.markdown_tree.proofs.to_mdast.take_all.Goals as goal

pub returns-in-Err-clause-gives : goal.returns-in-Err-clause-gives
returns-in-Err-clause-gives g c =
    let at = c.in-Some.ensures.event ∙ ap (λ es. slice_get es c.loop-event.index) c.loop-event.invariant.1 in
    stops_here c.in-Err.stop c.at.result c.in-Some.event.point (source_of c.args.document.now (g.R.References.text c.args.references.now)) c.args.steps.now.events _ _ c.loop-event.index c.in-Some.event (state_of c.loop-event.context) at c.in-Err.ensures.gives c.at.ensures c.loop-event.invariant.0

pub returns-in-Err-clause-bound : goal.returns-in-Err-clause-bound
returns-in-Err-clause-bound g c =
    let at = c.in-Some.ensures.event ∙ ap (λ es. slice_get es c.loop-event.index) c.loop-event.invariant.1 in
    stops_within (source_of c.args.document.now (g.R.References.text c.args.references.now)) c.args.steps.now.events _ _ _ _ c.loop-event.index c.in-Some.event (state_of c.loop-event.context) at c.in-Some.ensures.count c.step.ensures.bound c.loop-event.invariant.0

pub loop-event-smaller : goal.loop-event-smaller
loop-event-smaller g c =
    let at = c.in-Some.ensures.event ∙ ap (λ es. slice_get es c.loop-event.index) c.loop-event.invariant.1 in
    let in_list = slice_get_within c.args.steps.now.events c.loop-event.index c.in-Some.event (sym at) in
    omega (arith, in_list)

pub loop-event-preserved : goal.loop-event-preserved
loop-event-preserved g c =
    let at = c.in-Some.ensures.event ∙ ap (λ es. slice_get es c.loop-event.index) c.loop-event.invariant.1 in (
      goes_on (source_of c.args.document.now (g.R.References.text c.args.references.now)) c.args.steps.now.events _ _ _ _ c.loop-event.index c.in-Some.event (state_of c.loop-event.context) (state_of c.step.new.self) at c.in_default-step.ensures.gives c.in-Some.ensures.count c.step.ensures.bound c.loop-event.invariant.0,
      c.step.ensures.list ∙ c.in-Some.ensures.list ∙ c.loop-event.invariant.1,
    )

pub returns-clause-gives : goal.returns-clause-gives
returns-clause-gives g c =
    let at = c.in_default.ensures.event ∙ ap (λ es. slice_get es c.loop-event.index) c.loop-event.invariant.1 in
    is_done (source_of c.args.document.now (g.R.References.text c.args.references.now)) c.args.steps.now.events _ _ c.loop-event.index (state_of c.loop-event.context) at c.loop-event.invariant.0

pub returns-clause-length : goal.returns-clause-length
returns-clause-length g c =
    let at = c.in_default.ensures.event ∙ ap (λ es. slice_get es c.loop-event.index) c.loop-event.invariant.1 in
    let past = past_end c.args.steps.now.events c.loop-event.index at in
    let within = c.loop-event.invariant.0.within in
    omega (arith, past, within)
