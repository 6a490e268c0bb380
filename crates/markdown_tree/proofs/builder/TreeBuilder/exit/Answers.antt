use Rattle.std.proofs.Common.{[], sym, ◌∙◌, ◌∷◌}
use Rattle.markdown_events.specs.Forest.{exit}
use Rattle.markdown_grammar.specs.Document.{source_of}
use Rattle.markdown_steps.proofs.WellKept.{well-opening, well-run}
use Rattle.markdown_steps.specs.Compiler.{opening}
use Rattle.markdown_tree.proofs.Building.{built-on, built-state, built-still}
use Rattle.markdown_tree.specs.States.{state_of}
use Rattle.markdown_tree.proofs.builder.TreeBuilder.exit.Goals as goal

pub invariant_of-self : goal.invariant_of-self
invariant_of-self g c =
    let s = source_of c.self.inside.document (g.R.References.text c.self.inside.references.now) in
    built-still s c.self.inside.passed (exit c.args.name c.args.at ∷ []) c.add_exit.new.self c.self.inside.context c.self.inside.fault c.add_exit.ensures (sym c.is_some.ensures ∙ c.if-is_some.true) c.self.invariant

pub close_span-requires-clause-well : goal.close_span-requires-clause-well
close_span-requires-clause-well g c =
    let s = source_of c.self.inside.document (g.R.References.text c.self.inside.references.now) in
    let ran = built-state s c.self.inside.passed c.self.inside.context c.self.inside.fault (sym c.is_some.ensures ∙ c.if-is_some.false) c.self.invariant in
    well-run s c.self.inside.passed opening (state_of c.self.inside.context) ran (well-opening s)

pub invariant_of-self-2 : goal.invariant_of-self-2
invariant_of-self-2 g c =
    let s = source_of c.self.inside.document (g.R.References.text c.self.inside.references.now) in
    let ran = built-state s c.self.inside.passed c.self.inside.context c.self.inside.fault (sym c.is_some.ensures ∙ c.if-is_some.false) c.self.invariant in
    built-on s c.self.inside.passed c.add_exit-2.new.self (exit c.args.name c.args.at) c.self.inside.context c.close_span.new.context c.close_span.new.fault c.add_exit-2.ensures ran c.close_span.ensures
