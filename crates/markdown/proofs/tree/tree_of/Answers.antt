use Rattle.std.proofs.Common.{subst}
use Rattle.character_references.specs.Html.{html}
use Rattle.markdown_events.specs.declared.message.Fault.{Fault}
use Rattle.markdown_grammar.specs.Correct.{FailsRightly}
use Rattle.markdown_grammar.specs.Document.{source, source_hiding}
use Rattle.markdown.specs.Hidden.{hidden}
use Rattle.markdown.proofs.Readings.{finished_hiding}
use Rattle.markdown.proofs.Roots.{root_reaches}
use Rattle.markdown.proofs.tree.tree_of.Goals as goal

pub returns-in-Ok-clause-root : goal.returns-in-Ok-clause-root
returns-in-Ok-clause-root c =
    let bytes = c.args.value.now in
    let events = c.args.events.now in
    root_reaches (source bytes html) events c.in-Ok.tree (source_hiding (hidden bytes events) bytes html) c.requires c.in-Ok.ensures.found

pub memory_error-requires : goal.memory_error-requires
memory_error-requires c = λ message is.
    let bytes = c.args.value.now in
    let events = c.args.events.now in
    let whole = source_hiding (hidden bytes events) bytes html in
    c.no_message_comes.ensures whole events message (finished_hiding (hidden bytes events) bytes html events c.requires)
    (subst (λ (fault : Fault). FailsRightly fault events whole) is c.in-Err.ensures.refused)

pub returns-in-Ok-clause-ordered : goal.returns-in-Ok-clause-ordered
returns-in-Ok-clause-ordered c = c.in-Ok.ensures.ordered (c.offsets_never_go_back.ensures (source c.args.value.now html) c.args.events.now c.requires)
