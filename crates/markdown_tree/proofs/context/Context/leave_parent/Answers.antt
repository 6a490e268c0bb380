use Rattle.std.proofs.Common.{refl, sym, ◌∙◌, ap}
use Rattle.markdown_events.specs.declared.role.ItemKind.TheVariants.{Content as content}
use Rattle.markdown_parts.specs.Nest.{with_innermost}
use Rattle.markdown_tree.specs.declared.context.Context.{Context}
use Rattle.markdown_parts.specs.declared.nest.Nest.{Nest}
use Rattle.markdown_containers.specs.declared.open_container.OpenContainer.{OpenContainer}
use Rattle.markdown_parts.proofs.Nesting.{taken_out}
use Rattle.markdown_tree.proofs.Endings.{closed_so, columns_kept, parent_no_table, parent_taken, same_nodes}
use Rattle.markdown_containers.proofs.Stopping.{on_ok}
use Rattle.markdown_tree.proofs.context.Context.leave_parent.Goals as goal

pub returns-clause-gives : goal.returns-clause-gives
returns-clause-gives c =
    let own : OpenContainer = c.remove_last-nodes.ensures.0 in
    let rest : Nest OpenContainer = record c.args.self.now.containers { inner = c.remove_last-nodes.new.containers } in
    let new : Context = record c.args.self.now { containers = with_innermost rest c.take_parent.new.self; in_table = c.args.frame.in_table } in
    on_ok c.take_parent.result _ _
    (λ takes s. parent_taken s c.args.content c.args.frame c.args.end.now c.args.self.now new rest own c.innermost_mut.result.now c.take_parent.new.self
    c.requires.«open» c.requires.settled c.requires.container (taken_out _ _ _ c.remove_last-nodes.ensures.1) c.innermost_mut.ensures.value refl refl refl refl
    (same_nodes c.args.content c.args.frame.start c.args.end.now c.in_ok-children.children own.nodes c.innermost_mut.result.now c.take_parent.new.self
    (sym (c.in_ok-children.ensures ∙ ap (λ ns. ns.items) c.remove_last-nodes.ensures.2)) takes))
    c.take_parent.ensures

pub returns-clause-closed : goal.returns-clause-closed
returns-clause-closed c =
    let own : OpenContainer = c.remove_last-nodes.ensures.0 in
    let rest : Nest OpenContainer = record c.args.self.now.containers { inner = c.remove_last-nodes.new.containers } in
    let new : Context = record c.args.self.now { containers = with_innermost rest c.take_parent.new.self; in_table = c.args.frame.in_table } in
    on_ok c.take_parent.result _ _
    (λ takes. closed_so (content c.args.content) c.args.self.now new rest own c.take_parent.new.self c.requires.«open» (taken_out _ _ _ c.remove_last-nodes.ensures.1) refl refl refl refl
    (columns_kept (content c.args.content) c.args.self.now new (parent_no_table c.args.content c.requires.such) refl))
    c.take_parent.ensures
