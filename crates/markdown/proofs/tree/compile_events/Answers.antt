use Rattle.std.proofs.Common.{List, ap, subst, ℕ, ◌∙◌, ◌≡◌, IfErr}
use Rattle.character_references.specs.Html.{html}
use Rattle.markdown_events.specs.declared.event.Event.{Event}
use Rattle.markdown_grammar.specs.Correct.{FailsRightly}
use Rattle.markdown_grammar.specs.Document.{Given, source_of}
use Rattle.markdown_grammar.specs.declared.values.Values.TheVariants.{Whole}
use Rattle.markdown_events.specs.declared.message.Fault.{Fault}
use Rattle.markdown.specs.Hidden.{hidden}
use Rattle.markdown.proofs.tree.compile_events.Goals as goal

pub returns-clause-refused : goal.returns-clause-refused
returns-clause-refused c =
    let bytes = c.args.value.now in
    let events = c.args.events.now in
    let flags : c.deref.result.now ≡ hidden bytes events =
    c.deref.ensures.value ∙ c.in_ok-hidden.ensures ∙ ap (λ (all : List ℕ). hidden all events) c.as_bytes-bytes.ensures.value in
    let document = c.of_text-document.ensures ∙ (λ i. record { bytes = bytes; values = Whole; hidden = flags i }) in
    subst (λ (given : Given). IfErr c.compile_document.result (λ (fault : Fault). FailsRightly fault events (source_of given html))) document
    (subst (λ (listed : List Event). IfErr c.compile_document.result (λ (fault : Fault). FailsRightly fault listed (source_of c.of_text-document.result html))) c.new.ensures.list c.compile_document.ensures.refused)
