use Rattle.std.proofs.Common.{IfOk, ap, subst, ◌∙◌, ◌≡◌, false}
use Rattle.std.specs.Prelude.{string_bytes}
use Rattle.character_references.specs.Html.{html}
use Rattle.event_writer.specs.Finished.{IsFinished}
use Rattle.markdown_grammar.specs.Document.{source_hiding}
use Rattle.markdown_words.specs.Texts.{HasText}
use Rattle.mdast_util.specs.PlainText.{ended}
use Rattle.markdown.proofs.TextTaking.{finished-text, if-ok}
use Rattle.markdown.specs.TextSinks.{TextOf}
use Rattle.markdown.proofs.text_sink.TextSink.finish.Goals as goal

pub returns : goal.returns
returns c =
    let t = c.self.inside in
    let known : t.words.value.strange ≡ false = ap (λ (x : TextOf). x.strange) c.self.view_is ∙ c.requires.known in
    let text = λ (f : IsFinished (source_hiding t.words.value.document.hidden t.bytes.now html) t.history.events).
    if-ok (λ text. string_bytes text ≡ ended c.into_inner.result.speech.text) (λ text. HasText (string_bytes text) t.history.events (source_hiding t.words.value.document.hidden t.bytes.now html))
    (λ text is. finished-text t.bytes.now t.history.events t.words.value t.hiding (string_bytes text) f c.self.invariant known (is ∙ ap (λ w. ended w.speech.text) c.into_inner.ensures)) c.into_text.result c.into_text.ensures in
    subst (λ (x : TextOf). IsFinished (source_hiding x.hidden x.document html) x.events → IfOk c.into_text.result (λ text. HasText (string_bytes text) x.events (source_hiding x.hidden x.document html))) c.self.view_is text
