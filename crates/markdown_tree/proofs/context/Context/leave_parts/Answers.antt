use Rattle.std.proofs.Common.{arith, None, Ok, refl, sym, ap, ◌∙◌}
use Rattle.markdown_steps.specs.ChildFacts.{ChildFacts}
use Rattle.markdown_parts.specs.declared.nest.Nest.{Nest}
use Rattle.markdown_containers.specs.declared.open_container.OpenContainer.{OpenContainer}
use Rattle.markdown_grammar.specs.Grammar.{model_of}
use Rattle.markdown_containers.specs.Containers.{current_model_of, initial_model_of, misfit_of}
use Rattle.markdown_tree.specs.declared.context.Context.{Context}
use Rattle.markdown_steps.specs.Columns.{child_facts}
use Rattle.markdown_steps.specs.Compiler.{leave}
use Rattle.markdown_parts.specs.Nest.{with_innermost}
use Rattle.markdown_containers.specs.ContainerStates.{container_state_of, place_of, summary_of_container}
use Rattle.markdown_blocks.specs.Columns.{columns_of}
use Rattle.markdown_parts.specs.Marks.{marks_of}
use Rattle.markdown_steps.specs.Visits.{visits_at_end}
use Rattle.markdown_nodes.specs.View.{views}
use Rattle.markdown_parts.proofs.Nesting.{taken_out}
use Rattle.markdown_tree.proofs.Endings.{closed_gives, closed_own, closed_so, closed_walks, columns_kept, content_row, part_row, parts_no_table}
use Rattle.markdown_containers.proofs.Stopping.{always, gives_same, on_ok}
use Rattle.markdown_tree.proofs.context.Context.leave_parts.Goals as goal

pub take_content-requires-clause-initial_model : goal.take_content-requires-clause-initial_model
take_content-requires-clause-initial_model c =
    let same = closed_own c.args.what c.args.self.now (record c.args.self.now.containers { inner = c.pop.new.self }) c.in-Some.own c.innermost_mut-top.result.now c.requires.ends (taken_out _ _ _ c.in-Some.ensures.items) c.innermost_mut-top.ensures.value in
    ap (λ (h : OpenContainer). initial_model_of h.container) (sym same.0) ∙ c.requires.ends.initial_model ∙ (λ t. model_of (current_model_of (same.1 t).container) (c.in-Content.is t))

pub take_content-requires-clause-such : goal.take_content-requires-clause-such
take_content-requires-clause-such c = content_row c.in-Some.own.container (current_model_of c.innermost_mut-top.result.now.container) c.in-Content.content (take_content-requires-clause-initial_model c)

pub take_parts-requires-clause-model : goal.take_parts-requires-clause-model
take_parts-requires-clause-model c =
    let same = closed_own c.args.what c.args.self.now (record c.args.self.now.containers { inner = c.pop.new.self }) c.in-Some.own c.innermost_mut-top.result.now c.requires.ends (taken_out _ _ _ c.in-Some.ensures.items) c.innermost_mut-top.ensures.value in
    ap (λ (h : OpenContainer). initial_model_of h.container) (sym same.0) ∙ c.requires.ends.initial_model ∙ (λ t. model_of (current_model_of (same.1 t).container) (c.in-Part.is t))

pub take_parts-requires-clause-such : goal.take_parts-requires-clause-such
take_parts-requires-clause-such c = part_row c.in-Some.own.container (current_model_of c.innermost_mut-top.result.now.container) c.in-Part.part (take_parts-requires-clause-model c)

pub take_parts-requires-clause-fits : goal.take_parts-requires-clause-fits
take_parts-requires-clause-fits c =
    let same = closed_own c.args.what c.args.self.now (record c.args.self.now.containers { inner = c.pop.new.self }) c.in-Some.own c.innermost_mut-top.result.now c.requires.ends (taken_out _ _ _ c.in-Some.ensures.items) c.innermost_mut-top.ensures.value in
    (λ t. misfit_of (sym same.1 t).container (sym c.in-Part.is t)) ∙ c.requires.ends.fits

pub take_content-requires-clause-other : goal.take_content-requires-clause-other
take_content-requires-clause-other c is =
    let same = closed_own c.args.what c.args.self.now (record c.args.self.now.containers { inner = c.pop.new.self }) c.in-Some.own c.innermost_mut-top.result.now c.requires.ends (taken_out _ _ _ c.in-Some.ensures.items) c.innermost_mut-top.ensures.value in
    c.requires.container (ap (λ (h : OpenContainer). h.container) same.0 ∙ is)

pub take_parts-requires-clause-other : goal.take_parts-requires-clause-other
take_parts-requires-clause-other c is =
    let same = closed_own c.args.what c.args.self.now (record c.args.self.now.containers { inner = c.pop.new.self }) c.in-Some.own c.innermost_mut-top.result.now c.requires.ends (taken_out _ _ _ c.in-Some.ensures.items) c.innermost_mut-top.ensures.value in
    c.requires.container (ap (λ (h : OpenContainer). h.container) same.0 ∙ is)

pub returns-in-Content-clause-closed : goal.returns-in-Content-clause-closed
returns-in-Content-clause-closed c =
    let rest : Nest OpenContainer = record c.args.self.now.containers { inner = c.pop.new.self } in
    let new : Context = record c.args.self.now { containers = with_innermost rest c.take_content.new.self; in_table = c.args.frame.in_table } in
    on_ok c.take_content.result (Unit {0}) _
    (λ taken. closed_so c.args.what c.args.self.now new rest c.in-Some.own c.take_content.new.self c.requires.«open» (taken_out _ _ _ c.in-Some.ensures.items) refl refl refl refl
    (columns_kept c.args.what c.args.self.now new (parts_no_table c.args.what _ _ c.requires.ends.initial_model c.requires.container) refl))
    (always c.take_content.result)

pub returns-in-Part-clause-closed : goal.returns-in-Part-clause-closed
returns-in-Part-clause-closed c =
    let rest : Nest OpenContainer = record c.args.self.now.containers { inner = c.pop.new.self } in
    let new : Context = record c.args.self.now { containers = with_innermost rest c.take_parts.new.self; in_table = c.args.frame.in_table } in
    closed_so c.args.what c.args.self.now new rest c.in-Some.own c.take_parts.new.self c.requires.«open» (taken_out _ _ _ c.in-Some.ensures.items) refl refl refl refl
    (columns_kept c.args.what c.args.self.now new (parts_no_table c.args.what _ _ c.requires.ends.initial_model c.requires.container) refl)

pub returns-in-Part-clause-gives : goal.returns-in-Part-clause-gives
unfolding leave
returns-in-Part-clause-gives c s same =
    let children : ChildFacts = child_facts (marks_of c.args.self.now.interior.marks) (columns_of c.args.self.now.columns) in
    let rest : Nest OpenContainer = record c.args.self.now.containers { inner = c.pop.new.self } in
    let own : OpenContainer = c.in-Some.own in
    closed_gives s c.args.what c.args.frame c.args.end.now c.args.self.now
    (record c.args.self.now { containers = with_innermost rest c.take_parts.new.self; in_table = c.args.frame.in_table })
    rest own c.innermost_mut-top.result.now c.take_parts.new.self (Ok tt) c.requires.«open» c.requires.settled (taken_out _ _ _ c.in-Some.ensures.items) c.innermost_mut-top.ensures.value refl refl refl refl
    ((λ t. leave s (c.in-Part.is t) c.args.frame.start c.args.end.now children (container_state_of c.args.self.now.in_table None own) (container_state_of c.args.frame.in_table None c.innermost_mut-top.result.now))
    ∙ c.take_parts.ensures (views own.nodes.items) s c.args.frame.start c.args.end.now c.args.frame.in_table (place_of c.args.self.now.in_table own) children)

pub returns-in-Content-clause-gives : goal.returns-in-Content-clause-gives
returns-in-Content-clause-gives c s same =
    let children : ChildFacts = child_facts (marks_of c.args.self.now.interior.marks) (columns_of c.args.self.now.columns) in
    let rest : Nest OpenContainer = record c.args.self.now.containers { inner = c.pop.new.self } in
    closed_gives s c.args.what c.args.frame c.args.end.now c.args.self.now
    (record c.args.self.now { containers = with_innermost rest c.take_content.new.self; in_table = c.args.frame.in_table })
    rest c.in-Some.own c.innermost_mut-top.result.now c.take_content.new.self c.take_content.result c.requires.«open» c.requires.settled (taken_out _ _ _ c.in-Some.ensures.items) c.innermost_mut-top.ensures.value refl refl refl refl
    (gives_same (λ x. container_state_of c.args.frame.in_table None c.take_content.new.self) c.args.end.now c.take_content.result _ _
    (λ t. leave s (c.in-Content.is t) c.args.frame.start c.args.end.now children (container_state_of c.args.self.now.in_table None c.in-Some.own) (container_state_of c.args.frame.in_table None c.innermost_mut-top.result.now))
    (c.take_content.ensures.left (columns_of c.args.self.now.columns) s c.args.self.now.in_table same))

pub returns-in-Content-clause-bound : goal.returns-in-Content-clause-bound
returns-in-Content-clause-bound c =
    let rest : Nest OpenContainer = record c.args.self.now.containers { inner = c.pop.new.self } in
    let same = closed_walks c.args.what c.args.frame c.args.self.now rest c.in-Some.own c.requires.«open» c.requires.settled (taken_out _ _ _ c.in-Some.ensures.items)
    ∙ (λ t. visits_at_end (c.in-Content.is t) (summary_of_container c.in-Some.own)) in
    let bound = c.take_content.ensures.bound in
    omega (arith, same, bound)
