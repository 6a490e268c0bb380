-- The text of a span.
use Rattle.markdown_events.specs.Slices.{between}
use Rattle.markdown_events.specs.declared.event.Point.{Point}
use Rattle.markdown_nodes.specs.Tree.{Trees}
use Rattle.markdown_grammar.specs.Document.{Given, value_between}
use Rattle.markdown_grammar.specs.LineEndings.{ending_between}
use Rattle.markdown_steps.specs.TextNodes.{one_text}

-- the value between two points of a document, as a text
abbrev pub data_text : Given → Point → Point → Trees
data_text given start end = one_text (value_between given start end) (between start end)

-- the line ending between two points of a document, as a text
abbrev pub ending_text : Given → Point → Point → Trees
ending_text given start end = one_text (ending_between given start end) (between start end)
