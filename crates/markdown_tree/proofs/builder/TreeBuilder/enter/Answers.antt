use Rattle.std.proofs.Common.{[], refl, sym, ◌∙◌, ◌∷◌}
use Rattle.markdown_events.specs.Forest.{enter}
use Rattle.markdown_grammar.specs.Document.{source_of}
use Rattle.markdown_tree.proofs.Building.{built-on, built-state, built-still}
use Rattle.markdown_tree.proofs.builder.TreeBuilder.enter.Goals as goal

pub invariant_of-self : goal.invariant_of-self
invariant_of-self g c =
    let s = source_of c.self.inside.document (g.R.References.text c.self.inside.references.now) in
    built-still s c.self.inside.passed (enter c.args.name c.args.at ∷ []) c.add_enter.new.self c.self.inside.context c.self.inside.fault c.add_enter.ensures (sym c.is_some.ensures ∙ c.if-is_some.true) c.self.invariant

pub invariant_of-self-2 : goal.invariant_of-self-2
invariant_of-self-2 g c =
    let s = source_of c.self.inside.document (g.R.References.text c.self.inside.references.now) in
    let ran = built-state s c.self.inside.passed c.self.inside.context c.self.inside.fault (sym c.is_some.ensures ∙ c.if-is_some.false) c.self.invariant in
    built-on s c.self.inside.passed c.add_enter-2.new.self (enter c.args.name c.args.at) c.self.inside.context c.open_span.new.context c.open_span.new.fault c.add_enter-2.ensures ran (c.open_span.ensures s refl)
