use Rattle.markdown_grammar.specs.Document.{source_of}
use Rattle.markdown_tree.proofs.Endings.{ends, exit_done, exit_stops}
use Rattle.markdown_containers.proofs.Stopping.{passed_on}
use Rattle.markdown_tree.proofs.context.Context.end.Goals as goal

pub leave-requires : goal.leave-requires
leave-requires g c = ends (source_of c.args.document.now (g.R.References.text c.args.references.now)) c.args.self.now c.args.frame c.role-role.result c.requires c.role-role.ensures

pub returns-in_err-leave-clause-gives : goal.returns-in_err-leave-clause-gives
returns-in_err-leave-clause-gives g c name same =
    passed_on _ c.args.point.now c.from_residual.result _ _ c.from_residual.ensures
    (exit_stops (source_of c.args.document.now (g.R.References.text c.args.references.now)) name c.args.point.now c.args.self.now c.args.frame c.role-role.result c.in_err-leave.field-0.0
    c.role-role.ensures same c.in_err-leave.ensures.gives)

pub returns-clause-gives : goal.returns-clause-gives
returns-clause-gives g c name same =
    exit_done (source_of c.args.document.now (g.R.References.text c.args.references.now)) name c.args.point.now c.args.self.now c.leave.new.self c.args.frame c.role-role.result c.add.new.self
    c.role-role.ensures same c.in_ok-leave.ensures.gives c.in_ok-leave.ensures.closed c.add.ensures
