-- What is read from a document: it comes from finished events, with whole values and without hidden bytes, and no event is of a
-- construct that is off.
use Rattle.std.specs.Prelude.{List, ℕ}
use Rattle.character_references.specs.Html.{html}
use Rattle.event_writer.specs.Finished.{IsFinished}
use Rattle.markdown_events.specs.declared.event.Event.{Event}
use Rattle.markdown_grammar.specs.Correct.{IsMeaning}
use Rattle.markdown_grammar.specs.Document.{source, source_hiding}
use Rattle.markdown_nodes.specs.declared.mdast.Node.{Node}
use Rattle.markdown_options.specs.Spans.{AreOn}
use Rattle.markdown_options.specs.declared.Constructs.{Constructs}
use Rattle.markdown_outline.specs.Outlines.{HasOutline}
use Rattle.markdown_words.specs.Texts.{HasText}
use Rattle.markdown.specs.Hidden.{hidden}

-- a tree
abbrev pub IsReadAsTree : Constructs → List ℕ → Node → Type 0
IsReadAsTree constructs value tree = (events : List Event) × IsFinished (source value html) events × AreOn constructs events × IsMeaning tree events (source_hiding (hidden value events) value html)

-- an outline
abbrev pub IsReadAsOutline : Constructs → List ℕ → List ℕ → Type 0
IsReadAsOutline constructs value text = (events : List Event) × IsFinished (source value html) events × AreOn constructs events × HasOutline text events (source_hiding (hidden value events) value html)

-- a text
abbrev pub IsReadAsText : Constructs → List ℕ → List ℕ → Type 0
IsReadAsText constructs value text = (events : List Event) × IsFinished (source value html) events × AreOn constructs events × HasText text events (source_hiding (hidden value events) value html)
