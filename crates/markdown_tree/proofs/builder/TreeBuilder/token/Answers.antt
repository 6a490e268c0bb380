use Rattle.std.proofs.Common.{[], sym, ◌∙◌, ◌∷◌}
use Rattle.markdown_grammar.specs.Document.{source_of}
use Rattle.markdown_steps.proofs.WellKept.{well-opening, well-run}
use Rattle.markdown_steps.specs.Compiler.{opening}
use Rattle.markdown_events.specs.Forest.{enter, exit}
use Rattle.markdown_tree.proofs.Building.{built-state, built-still, built-with}
use Rattle.markdown_tree.specs.States.{state_of}
use Rattle.markdown_tree.proofs.builder.TreeBuilder.token.Goals as goal

pub invariant_of-self : goal.invariant_of-self
invariant_of-self g c =
    let more = enter c.args.name c.args.start ∷ exit c.args.name c.args.end ∷ [] in
    let s = source_of c.self.inside.document (g.R.References.text c.self.inside.references.now) in
    built-still s c.self.inside.passed more c.add_token.new.self c.self.inside.context c.self.inside.fault c.add_token.ensures (sym c.is_some.ensures ∙ c.if-is_some.true) c.self.invariant

pub advance_token-requires-clause-well : goal.advance_token-requires-clause-well
advance_token-requires-clause-well g c =
    let s = source_of c.self.inside.document (g.R.References.text c.self.inside.references.now) in
    let ran = built-state s c.self.inside.passed c.self.inside.context c.self.inside.fault (sym c.is_some.ensures ∙ c.if-is_some.false) c.self.invariant in
    well-run s c.self.inside.passed opening (state_of c.self.inside.context) ran (well-opening s)

pub invariant_of-self-2 : goal.invariant_of-self-2
invariant_of-self-2 g c =
    let more = enter c.args.name c.args.start ∷ exit c.args.name c.args.end ∷ [] in
    let s = source_of c.self.inside.document (g.R.References.text c.self.inside.references.now) in
    let ran = built-state s c.self.inside.passed c.self.inside.context c.self.inside.fault (sym c.is_some.ensures ∙ c.if-is_some.false) c.self.invariant in
    built-with s c.self.inside.passed more c.add_token-2.new.self c.self.inside.context c.advance_token.new.context c.advance_token.new.fault c.add_token-2.ensures ran c.advance_token.ensures
