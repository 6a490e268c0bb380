-- The values of blocks and spans whose text is in the tree as it is written.
use Rattle.std.specs.Prelude.{Bool, List, false, true, ℕ}
use Rattle.markdown_events.specs.Texts.{raw, spaces, trim}
use Rattle.markdown_grammar.specs.Document.{Given}
use Rattle.markdown_grammar.specs.Fenced.{fenced}
use Rattle.markdown_nodes.specs.Tree.{plain_text}
use Rattle.markdown_nodes.specs.View.{views}
use Rattle.markdown_nodes.specs.declared.mdast.Node.{Node}

-- the text between two fences, in a block that ends at an offset: that of these nodes, without the line endings beside the fences
abbrev pub fenced_text : Given → ℕ → List Node → List ℕ
fenced_text given end nodes = fenced given end (views nodes)

-- the text between the fences of frontmatter: that of these nodes, without one line ending at its start and one at its end
abbrev pub frontmatter_text : List Node → List ℕ
frontmatter_text nodes = trim (plain_text (views nodes)) true true

-- indented text: that of these nodes, without one line ending at its end
abbrev pub indented_text : List Node → List ℕ
indented_text nodes = trim (plain_text (views nodes)) false true

-- code or math in a line: line endings become spaces, padding is removed, and if the flag is set backslashes before pipes are too
abbrev pub inline_text : List Node → Bool → List ℕ
inline_text nodes in_table = raw (spaces (plain_text (views nodes))) in_table
