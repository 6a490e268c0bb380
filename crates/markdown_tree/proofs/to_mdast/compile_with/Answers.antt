use Rattle.std.proofs.Common.{List, subst}
use Rattle.std.specs.Prelude.{IfErr, IfOk}
use Rattle.markdown_grammar.specs.Correct.{FailsRightly, IsMeaning}
use Rattle.markdown_events.specs.declared.event.Event.{Event}
use Rattle.markdown_grammar.specs.Document.{Given, source_of, source_with}
use Rattle.markdown_tree.proofs.to_mdast.compile_with.Goals as goal

pub returns-clause-found : goal.returns-clause-found
returns-clause-found g c =
    subst (λ (events : List Event). IfOk c.compile_document.result (λ tree. IsMeaning tree events (source_with c.args.values c.args.bytes.now (g.R.References.text c.args.references.now)))) c.new.ensures.list
    (subst (λ (given : Given). IfOk c.compile_document.result (λ tree. IsMeaning tree c.new.result.events (source_of given (g.R.References.text c.args.references.now)))) c.new-document.ensures c.compile_document.ensures.found)

pub returns-clause-refused : goal.returns-clause-refused
returns-clause-refused g c =
    subst (λ (events : List Event). IfErr c.compile_document.result (λ fault. FailsRightly fault events (source_with c.args.values c.args.bytes.now (g.R.References.text c.args.references.now)))) c.new.ensures.list
    (subst (λ (given : Given). IfErr c.compile_document.result (λ fault. FailsRightly fault c.new.result.events (source_of given (g.R.References.text c.args.references.now)))) c.new-document.ensures c.compile_document.ensures.refused)
