use Rattle.std.proofs.Common.{Bool, IfOk, List, subst, ◌≡◌}
use Rattle.std.proofs.lemmas.Result.{IfOk-weaker}
use Rattle.std.specs.Prelude.{string_bytes}
use Rattle.character_references.specs.Html.{html}
use Rattle.markdown_events.specs.declared.message.Fault.{Fault}
use Rattle.markdown_grammar.specs.Correct.{FailsRightly}
use Rattle.markdown_grammar.specs.Document.{source_hiding}
use Rattle.markdown_nodes.specs.View.{view}
use Rattle.markdown_outline.specs.HeadingFilter.{filtered, outside}
use Rattle.markdown_outline.specs.Outlines.{HasOutline}
use Rattle.mdast_util.specs.Outline.{outline_of}
use Rattle.markdown.proofs.Readings.{finished_hiding}
use Rattle.markdown.proofs.OutlineTaking.{has-outline, not-refused}
use Rattle.markdown.proofs.outline.built_outline.Goals as goal

pub returns-in-Ok : goal.returns-in-Ok
returns-in-Ok c =
    let bytes = c.args.sink.document in
    let events = c.args.sink.events in
    let tree = c.in-Ok.tree in
    let whole = source_hiding c.args.sink.hidden bytes html in
    let shown = IfOk-weaker c.outline.result (λ text. string_bytes text ≡ outline_of (view tree)) (λ text. HasOutline (string_bytes text) events whole)
    (λ text is. has-outline whole events tree (string_bytes text) (finished_hiding c.args.sink.hidden bytes html events c.requires.finished) c.in-Ok.ensures.none c.in-Ok.ensures.found is) c.outline.ensures in
    subst (λ (flags : List Bool). IfOk c.outline.result (λ text. HasOutline (string_bytes text) events (source_hiding flags bytes html))) c.requires.hidden shown

pub memory_error-requires : goal.memory_error-requires
memory_error-requires c = λ message is.
    let events = c.args.sink.events in
    let whole = source_hiding c.args.sink.hidden c.args.sink.document html in
    not-refused whole events message (finished_hiding c.args.sink.hidden c.args.sink.document html events c.requires.finished) c.in-Err.ensures.none
    (subst (λ (fault : Fault). FailsRightly fault (filtered outside events) whole) is c.in-Err.ensures.refused)
