use Rattle.std.proofs.Common.{Bool, IfOk, List, subst}
use Rattle.std.specs.Prelude.{string_bytes}
use Rattle.character_references.specs.Html.{html}
use Rattle.markdown_grammar.specs.Document.{source_hiding}
use Rattle.markdown_words.specs.Texts.{HasText}
use Rattle.markdown.proofs.Readings.{finished_hiding}
use Rattle.markdown.proofs.text.said_text.Goals as goal

pub returns : goal.returns
returns c =
    let bytes = c.args.sink.document in
    let events = c.args.sink.events in
    subst (λ (flags : List Bool). IfOk c.finish.result (λ text. HasText (string_bytes text) events (source_hiding flags bytes html))) c.requires.hidden
    (c.finish.ensures (finished_hiding c.args.sink.hidden bytes html events c.requires.finished))
