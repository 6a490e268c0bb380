-- Spans whose node has children and nothing else.
use Rattle.std.specs.Prelude.{Bool, false, true}
use Rattle.markdown_events.specs.declared.role.Content.{Content}
use Rattle.markdown_events.specs.declared.role.Content.TheVariants as contents
use Rattle.markdown_nodes.specs.Tree as tree
use Rattle.markdown_nodes.specs.Tree.{Label as TreeLabel}

-- a span whose node has children and nothing else
abbrev pub is_parent : Content → Bool
is_parent contents.BlockQuote = true
is_parent contents.Emphasis = true
is_parent contents.Strong = true
is_parent contents.Strikethrough = true
is_parent contents.Paragraph = true
is_parent contents.TableRow = true
is_parent contents.TableCell = true
is_parent _ = false

-- the label of such a node
abbrev pub parent_label : Content → TreeLabel
parent_label contents.BlockQuote = tree.blockquote
parent_label contents.Emphasis = tree.emphasis
parent_label contents.Strong = tree.strong
parent_label contents.Strikethrough = tree.delete
parent_label contents.TableRow = tree.table_row
parent_label contents.TableCell = tree.table_cell
parent_label _ = tree.paragraph
