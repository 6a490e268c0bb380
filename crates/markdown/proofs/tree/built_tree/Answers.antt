use Rattle.std.proofs.Common.{Bool, List, subst}
use Rattle.character_references.specs.Html.{html}
use Rattle.markdown_events.specs.declared.message.Fault.{Fault}
use Rattle.markdown_grammar.specs.Correct.{FailsRightly, IsMeaning}
use Rattle.markdown_grammar.specs.Document.{source, source_hiding}
use Rattle.markdown.proofs.Readings.{finished_hiding}
use Rattle.markdown.proofs.Roots.{root_reaches}
use Rattle.markdown.proofs.tree.built_tree.Goals as goal

pub returns-in-Ok-clause-tree : goal.returns-in-Ok-clause-tree
returns-in-Ok-clause-tree c =
    let bytes = c.args.sink.document in
    subst (λ (flags : List Bool). IsMeaning c.in-Ok.tree c.args.sink.events (source_hiding flags bytes html)) c.requires.hidden c.in-Ok.ensures.found

pub returns-in-Ok-clause-root : goal.returns-in-Ok-clause-root
returns-in-Ok-clause-root c =
    let bytes = c.args.sink.document in
    root_reaches (source bytes html) c.args.sink.events c.in-Ok.tree (source_hiding c.args.sink.hidden bytes html) c.requires.finished c.in-Ok.ensures.found

pub memory_error-requires : goal.memory_error-requires
memory_error-requires c = λ message is.
    let bytes = c.args.sink.document in
    let events = c.args.sink.events in
    let whole = source_hiding c.args.sink.hidden bytes html in
    c.no_message_comes.ensures whole events message (finished_hiding c.args.sink.hidden bytes html events c.requires.finished)
    (subst (λ (fault : Fault). FailsRightly fault events whole) is c.in-Err.ensures.refused)

pub returns-in-Ok-clause-ordered : goal.returns-in-Ok-clause-ordered
returns-in-Ok-clause-ordered c = c.in-Ok.ensures.ordered (c.offsets_never_go_back.ensures (source c.args.sink.document html) c.args.sink.events c.requires.finished)
