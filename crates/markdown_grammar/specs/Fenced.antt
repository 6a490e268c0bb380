-- The value of a block between fences: its text without the line endings beside the fences.
use Rattle.std.specs.Prelude.{Bool, List, None, Option, Some, drop, false, length, nat_lt, not, take, true, ℕ, ◌&&◌, ◌-◌}
use Rattle.std.specs.List.{list_all}
use Rattle.markdown_events.specs.Texts.{trim}
use Rattle.markdown_nodes.specs.Tree.{Trees, node, nothing, plain_text}
use Rattle.markdown_events.specs.declared.unist.Position.{Position}
use Rattle.markdown_grammar.specs.Document.{Given}
use Rattle.markdown_grammar.specs.LineEndings.{is_before_line}
use Rattle.markdown_grammar.specs.declared.values.Values.TheVariants.{AsInDocument, Whole}

-- whether there are bytes, and each of them may come before the content of a line
abbrev pub is_line_begun : List ℕ → Bool
is_line_begun bytes = nat_lt 0 (length bytes) && list_all is_before_line bytes

-- whether, with whole values, a block that ends at `end` has one more line after a text at `place`:
-- an empty line without a line ending (CommonMark)
abbrev pub has_line_after : Given → Option Position → ℕ → Bool
has_line_after given None end = false
has_line_after given (Some place) end = elim given.values [ AsInDocument ↦ false | Whole ↦ is_line_begun (take (end - place.end.offset) (drop place.end.offset given.bytes)) ]

-- the position of a node without siblings: in such a block, the events of a document produce a single text
abbrev pub only_place : Trees → Option Position
only_place (node _ _ place nothing) = place
only_place _ = None

-- the value of these nodes, in a block that ends at an offset
abbrev pub fenced : Given → ℕ → Trees → List ℕ
fenced given end trees = trim (plain_text trees) true (not (has_line_after given (only_place trees) end))
