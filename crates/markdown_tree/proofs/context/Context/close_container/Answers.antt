use Rattle.std.proofs.Common.{arith, None, refl, sym, ap, ◌∙◌}
use Rattle.markdown_steps.specs.ChildFacts.{ChildFacts}
use Rattle.markdown_parts.specs.declared.nest.Nest.{Nest}
use Rattle.markdown_containers.specs.declared.open_container.OpenContainer.{OpenContainer}
use Rattle.markdown_events.specs.declared.role.Role.TheVariants.{Significant as significant}
use Rattle.markdown_grammar.specs.Grammar.{model_of}
use Rattle.markdown_grammar.specs.Items.{is_table}
use Rattle.markdown_containers.specs.Containers.{current_model_of, initial_model_of, is_model_of, is_part_model, misfit_of}
use Rattle.markdown_containers.specs.declared.container.Container.{Container}
use Rattle.markdown_tree.specs.declared.context.Context.{Context}
use Rattle.markdown_steps.specs.Columns.{child_facts, columns_left}
use Rattle.markdown_steps.specs.Compiler.{leave}
use Rattle.markdown_parts.specs.Nest.{with_innermost}
use Rattle.markdown_containers.specs.ContainerStates.{container_state_of, summary_of_container}
use Rattle.markdown_blocks.specs.Columns.{columns_of}
use Rattle.markdown_parts.specs.Marks.{marks_of}
use Rattle.markdown_parts.specs.PartsSoFar.{place_with}
use Rattle.markdown_steps.specs.Visits.{visits_at_end}
use Rattle.markdown_parts.proofs.Nesting.{taken_out}
use Rattle.markdown_tree.proofs.Endings.{closed_gives, any_kept, closed_own, closed_so, closed_walks, columns_kept, content_row, part_row}
use Rattle.markdown_containers.proofs.Stopping.{always, gives_same, on_ok}
use Rattle.markdown_tree.proofs.context.Context.close_container.Goals as goal

pub take_any_content-taken-requires-clause-such : goal.take_any_content-taken-requires-clause-such
take_any_content-taken-requires-clause-such c =
    let own : OpenContainer = c.remove_last-nodes.ensures.0 in
    let top : OpenContainer = c.innermost_mut-top.result.now in
    let same = closed_own c.args.what c.args.self.now (record c.args.self.now.containers { inner = c.remove_last-nodes.new.containers }) c.remove_last-nodes.ensures.0 c.innermost_mut-top.result.now c.requires.ends (taken_out _ _ _ c.remove_last-nodes.ensures.1) c.innermost_mut-top.ensures.value in
    let row = content_row own.container (current_model_of top.container) c.in-Content.content
    (ap (λ (h : OpenContainer). initial_model_of h.container) (sym same.0) ∙ c.requires.ends.initial_model ∙ (λ t. model_of (current_model_of (same.1 t).container) (c.in-Content.is t))) in
    ap (λ (h : Container). is_model_of c.in-Content.content (initial_model_of h)) (sym (any_kept c.args.self.now (record c.args.self.now.containers { inner = c.remove_last-nodes.new.containers }) c.remove_last-nodes.ensures.0 c.requires.container (taken_out _ _ _ c.remove_last-nodes.ensures.1))) ∙ row

pub take_any_part-taken-requires-clause-such : goal.take_any_part-taken-requires-clause-such
take_any_part-taken-requires-clause-such c =
    let own : OpenContainer = c.remove_last-nodes.ensures.0 in
    let top : OpenContainer = c.innermost_mut-top.result.now in
    let same = closed_own c.args.what c.args.self.now (record c.args.self.now.containers { inner = c.remove_last-nodes.new.containers }) c.remove_last-nodes.ensures.0 c.innermost_mut-top.result.now c.requires.ends (taken_out _ _ _ c.remove_last-nodes.ensures.1) c.innermost_mut-top.ensures.value in
    let row = part_row own.container (current_model_of top.container) c.in-Part.part
    (ap (λ (h : OpenContainer). initial_model_of h.container) (sym same.0) ∙ c.requires.ends.initial_model ∙ (λ t. model_of (current_model_of (same.1 t).container) (c.in-Part.is t))) in
    ap (λ (h : Container). is_part_model c.in-Part.part (initial_model_of h)) (sym (any_kept c.args.self.now (record c.args.self.now.containers { inner = c.remove_last-nodes.new.containers }) c.remove_last-nodes.ensures.0 c.requires.container (taken_out _ _ _ c.remove_last-nodes.ensures.1))) ∙ row

pub take_any_part-taken-requires-clause-fits : goal.take_any_part-taken-requires-clause-fits
take_any_part-taken-requires-clause-fits c =
    let same = closed_own c.args.what c.args.self.now (record c.args.self.now.containers { inner = c.remove_last-nodes.new.containers }) c.remove_last-nodes.ensures.0 c.innermost_mut-top.result.now c.requires.ends (taken_out _ _ _ c.remove_last-nodes.ensures.1) c.innermost_mut-top.ensures.value in
    (λ t. misfit_of (sym same.1 t).container (sym c.in-Part.is t)) ∙ c.requires.ends.fits

pub returns-in-Content-clause-closed : goal.returns-in-Content-clause-closed
returns-in-Content-clause-closed c =
    let rest : Nest OpenContainer = record c.args.self.now.containers { inner = c.remove_last-nodes.new.containers } in
    let own : OpenContainer = c.remove_last-nodes.ensures.0 in
    on_ok c.take_any_content-taken.result _ _
    (λ left. closed_so c.args.what c.args.self.now (record c.args.self.now { containers = with_innermost rest c.take_any_content-taken.new.self; in_table = c.args.frame.in_table; columns = c.take_any_content-taken.new.columns })
    rest own c.take_any_content-taken.new.self c.requires.«open» (taken_out _ _ _ c.remove_last-nodes.ensures.1) refl refl refl refl
    (left ∙ (λ t. columns_left (significant (sym c.in-Content.is t)) (marks_of c.args.self.now.interior.marks) (columns_of c.args.self.now.columns))))
    c.take_any_content-taken.ensures.columns

pub returns-in-Part-clause-closed : goal.returns-in-Part-clause-closed
returns-in-Part-clause-closed c =
    let rest : Nest OpenContainer = record c.args.self.now.containers { inner = c.remove_last-nodes.new.containers } in
    let own : OpenContainer = c.remove_last-nodes.ensures.0 in
    let new : Context = record c.args.self.now { containers = with_innermost rest c.take_any_part-taken.new.self; in_table = c.args.frame.in_table } in
    on_ok c.take_any_part-taken.result (Unit {0}) _
    (λ taken. closed_so c.args.what c.args.self.now new rest own c.take_any_part-taken.new.self c.requires.«open» (taken_out _ _ _ c.remove_last-nodes.ensures.1) refl refl refl refl
    (columns_kept c.args.what c.args.self.now new (ap is_table c.in-Part.is) refl))
    (always c.take_any_part-taken.result)

pub returns-in-Content-clause-gives : goal.returns-in-Content-clause-gives
returns-in-Content-clause-gives c s same =
    let children : ChildFacts = child_facts (marks_of c.args.self.now.interior.marks) (columns_of c.args.self.now.columns) in
    let rest : Nest OpenContainer = record c.args.self.now.containers { inner = c.remove_last-nodes.new.containers } in
    let own : OpenContainer = c.remove_last-nodes.ensures.0 in
    let any = any_kept c.args.self.now (record c.args.self.now.containers { inner = c.remove_last-nodes.new.containers }) c.remove_last-nodes.ensures.0 c.requires.container (taken_out _ _ _ c.remove_last-nodes.ensures.1) in
    closed_gives s c.args.what c.args.frame c.args.end.now c.args.self.now
    (record c.args.self.now { containers = with_innermost rest c.take_any_content-taken.new.self; in_table = c.args.frame.in_table; columns = c.take_any_content-taken.new.columns })
    rest own c.innermost_mut-top.result.now c.take_any_content-taken.new.self c.take_any_content-taken.result c.requires.«open» c.requires.settled (taken_out _ _ _ c.remove_last-nodes.ensures.1) c.innermost_mut-top.ensures.value refl refl refl refl
    (gives_same (λ x. container_state_of c.args.frame.in_table None c.take_any_content-taken.new.self) c.args.end.now c.take_any_content-taken.result _ _
    (λ t. leave s (c.in-Content.is t) c.args.frame.start c.args.end.now children (container_state_of c.args.self.now.in_table None (record own { container = any t; nodes = sym c.remove_last-nodes.ensures.2 t })) (container_state_of c.args.frame.in_table None c.innermost_mut-top.result.now))
    (c.take_any_content-taken.ensures.left own.line_endings s c.args.self.now.in_table same))

pub returns-in-Part-clause-gives : goal.returns-in-Part-clause-gives
returns-in-Part-clause-gives c s same =
    let children : ChildFacts = child_facts (marks_of c.args.self.now.interior.marks) (columns_of c.args.self.now.columns) in
    let rest : Nest OpenContainer = record c.args.self.now.containers { inner = c.remove_last-nodes.new.containers } in
    let own : OpenContainer = c.remove_last-nodes.ensures.0 in
    let any = any_kept c.args.self.now (record c.args.self.now.containers { inner = c.remove_last-nodes.new.containers }) c.remove_last-nodes.ensures.0 c.requires.container (taken_out _ _ _ c.remove_last-nodes.ensures.1) in
    closed_gives s c.args.what c.args.frame c.args.end.now c.args.self.now
    (record c.args.self.now { containers = with_innermost rest c.take_any_part-taken.new.self; in_table = c.args.frame.in_table })
    rest own c.innermost_mut-top.result.now c.take_any_part-taken.new.self c.take_any_part-taken.result c.requires.«open» c.requires.settled (taken_out _ _ _ c.remove_last-nodes.ensures.1) c.innermost_mut-top.ensures.value refl refl refl refl
    (gives_same (λ x. container_state_of c.args.frame.in_table None c.take_any_part-taken.new.self) c.args.end.now c.take_any_part-taken.result _ _
    (λ t. leave s (c.in-Part.is t) c.args.frame.start c.args.end.now children (container_state_of c.args.self.now.in_table None (record own { container = any t; nodes = sym c.remove_last-nodes.ensures.2 t })) (container_state_of c.args.frame.in_table None c.innermost_mut-top.result.now))
    (c.take_any_part-taken.ensures.left s (place_with own.line_endings c.args.self.now.in_table None) children same))

pub returns-in-Content-clause-bound : goal.returns-in-Content-clause-bound
returns-in-Content-clause-bound c =
    let rest : Nest OpenContainer = record c.args.self.now.containers { inner = c.remove_last-nodes.new.containers } in
    let own : OpenContainer = c.remove_last-nodes.ensures.0 in
    let any = any_kept c.args.self.now (record c.args.self.now.containers { inner = c.remove_last-nodes.new.containers }) c.remove_last-nodes.ensures.0 c.requires.container (taken_out _ _ _ c.remove_last-nodes.ensures.1) in
    let same = closed_walks c.args.what c.args.frame c.args.self.now rest own c.requires.«open» c.requires.settled (taken_out _ _ _ c.remove_last-nodes.ensures.1)
    ∙ (λ t. visits_at_end (c.in-Content.is t) (summary_of_container (record own { container = any t; nodes = sym c.remove_last-nodes.ensures.2 t }))) in
    let bound = c.take_any_content-taken.ensures.bound in
    omega (arith, same, bound)

pub returns-in-Part-clause-bound : goal.returns-in-Part-clause-bound
returns-in-Part-clause-bound c =
    let rest : Nest OpenContainer = record c.args.self.now.containers { inner = c.remove_last-nodes.new.containers } in
    let own : OpenContainer = c.remove_last-nodes.ensures.0 in
    let any = any_kept c.args.self.now (record c.args.self.now.containers { inner = c.remove_last-nodes.new.containers }) c.remove_last-nodes.ensures.0 c.requires.container (taken_out _ _ _ c.remove_last-nodes.ensures.1) in
    let same = closed_walks c.args.what c.args.frame c.args.self.now rest own c.requires.«open» c.requires.settled (taken_out _ _ _ c.remove_last-nodes.ensures.1)
    ∙ (λ t. visits_at_end (c.in-Part.is t) (summary_of_container (record own { container = any t; nodes = sym c.remove_last-nodes.ensures.2 t }))) in
    let bound = c.take_any_part-taken.ensures.bound in
    omega (arith, same, bound)
