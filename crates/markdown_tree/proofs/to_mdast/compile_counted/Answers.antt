use Rattle.std.proofs.Common.{length, subst, ◌+◌, ◌*◌, ◌≡◌, ◌≤◌}
use Rattle.std.specs.Prelude.{IfErr, IfOk}
use Rattle.markdown_events.specs.Forest.{Forest, events_of}
use Rattle.markdown_grammar.specs.Buffers.{buffered_nodes}
use Rattle.markdown_grammar.specs.Correct.{FailsRightly, IsMeaning}
use Rattle.markdown_grammar.specs.Document.{Given, source_of}
use Rattle.markdown_tree.proofs.to_mdast.compile_counted.Goals as goal

pub returns-clause-found : goal.returns-clause-found
returns-clause-found g c =
    subst (λ (given : Given). IfOk c.compile_document.result (λ tree. IsMeaning tree c.args.steps.now.events (source_of given (g.R.References.text c.args.references.now)))) c.new-document.ensures c.compile_document.ensures.found

pub returns-clause-refused : goal.returns-clause-refused
returns-clause-refused g c =
    subst (λ (given : Given). IfErr c.compile_document.result (λ fault. FailsRightly fault c.args.steps.now.events (source_of given (g.R.References.text c.args.references.now)))) c.new-document.ensures c.compile_document.ensures.refused

pub returns-clause-bound : goal.returns-clause-bound
returns-clause-bound g c =
    subst (λ (given : Given). IfOk c.compile_document.result (λ tree. (forest : Forest) → events_of forest ≡ c.args.steps.now.events
    → c.compile_document.new.steps.count ≤ c.args.steps.now.count + 4 * length c.args.steps.now.events + buffered_nodes (source_of given (g.R.References.text c.args.references.now)) forest)) c.new-document.ensures c.compile_document.ensures.bound
