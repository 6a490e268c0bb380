use Rattle.std.proofs.Common.{Ok, false, refl}
use Rattle.markdown_grammar.specs.Document.{source_of}
use Rattle.markdown_steps.specs.Columns.{child_facts}
use Rattle.markdown_blocks.specs.Columns.{columns_of}
use Rattle.markdown_parts.specs.Marks.{marks_of}
use Rattle.markdown_parts.specs.Nest.{with_innermost}
use Rattle.markdown_tree.specs.States.{leaf_place}
use Rattle.markdown_tree.proofs.Beginnings.{leaf_no_table}
use Rattle.markdown_tree.proofs.Endings.{columns_kept, leaf_closed, leaf_gives}
use Rattle.markdown_tree.proofs.context.Context.leave_leaf.Goals as goal

pub returns-clause-gives : goal.returns-clause-gives
returns-clause-gives g c =
    leaf_gives (source_of c.args.document.now (g.R.References.text c.args.references.now)) c.args.what c.args.frame c.args.end.now c.args.self.now
    (record c.args.self.now { containers = with_innermost c.args.self.now.containers c.take_leaf.new.self; is_leaf = false; pending = c.take_leaf.new.pending })
    c.innermost_mut.result.now c.take_leaf.new.self (Ok tt) c.requires.«open» c.innermost_mut.ensures.value refl refl refl
    (c.in_ok-take_leaf.ensures c.args.self.now.in_table (child_facts (marks_of c.args.self.now.interior.marks) (columns_of c.args.self.now.columns)) (leaf_place c.args.self.now.in_table))

pub returns-clause-closed : goal.returns-clause-closed
returns-clause-closed g c =
    let new = record c.args.self.now { containers = with_innermost c.args.self.now.containers c.take_leaf.new.self; is_leaf = false; pending = c.take_leaf.new.pending } in
    leaf_closed c.args.what c.args.self.now new c.take_leaf.new.self c.requires.«open» refl refl refl refl
    (columns_kept c.args.what c.args.self.now new (leaf_no_table _ c.args.what c.requires.ends.initial_model) refl)
