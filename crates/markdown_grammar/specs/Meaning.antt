-- The meaning of a forest: its tree.
use Rattle.std.specs.Prelude.{Some}
use Rattle.markdown_events.specs.Forest.{Forest, empty, span}
use Rattle.markdown_events.specs.Slices.{between}
use Rattle.markdown_nodes.specs.Tree.{Tree, root}
use Rattle.markdown_events.specs.declared.event.Point.{Point}
use Rattle.markdown_events.specs.declared.unist.Position.{Position}
use Rattle.markdown_grammar.specs.Decorated.{nodes_of}
use Rattle.markdown_grammar.specs.Items.{items}
use Rattle.markdown_grammar.specs.Nodes.{decorate}
use Rattle.markdown_grammar.specs.Attributes.{inherited_at_root}
use Rattle.markdown_grammar.specs.Document.{Source}

-- an empty position at the start of a document
abbrev pub nowhere : Position
nowhere = record { start = record { line = 1; column = 1; offset = 0 }; end = record { line = 1; column = 1; offset = 0 } }

-- the end of the last span, or this end if there is no span
abbrev pub last_end : Point → Forest → Point
last_end end empty = end
last_end _ (span _ _ end _ rest) = last_end end rest

-- the extent of a forest: from the first event to the last, or the document's start if there are no events
abbrev pub extent : Forest → Position
extent empty = nowhere
extent (span _ start end _ rest) = between start (last_end end rest)

-- a Root over the nodes of the items, from the first event to the last
abbrev pub meaning : Source → Forest → Tree
meaning s forest = record { label = root; children = nodes_of (decorate s inherited_at_root (items forest)); position = Some (extent forest) }
