-- The parents of the program: the kinds of nodes that have children, with nodes as their children.
use Rattle.markdown_nodes.specs.declared.mdast.Node.{Node}
use Rattle.markdown_kinds.specs.declared.Root.{Root as RootOf}
use Rattle.markdown_kinds.specs.declared.Blockquote.{Blockquote as BlockquoteOf}
use Rattle.markdown_kinds.specs.declared.FootnoteDefinition.{FootnoteDefinition as FootnoteDefinitionOf}
use Rattle.markdown_kinds.specs.declared.List.{List as ListOf}
use Rattle.markdown_kinds.specs.declared.Delete.{Delete as DeleteOf}
use Rattle.markdown_kinds.specs.declared.Emphasis.{Emphasis as EmphasisOf}
use Rattle.markdown_kinds.specs.declared.Link.{Link as LinkOf}
use Rattle.markdown_kinds.specs.declared.LinkReference.{LinkReference as LinkReferenceOf}
use Rattle.markdown_kinds.specs.declared.Strong.{Strong as StrongOf}
use Rattle.markdown_kinds.specs.declared.Heading.{Heading as HeadingOf}
use Rattle.markdown_kinds.specs.declared.Table.{Table as TableOf}
use Rattle.markdown_kinds.specs.declared.TableRow.{TableRow as TableRowOf}
use Rattle.markdown_kinds.specs.declared.TableCell.{TableCell as TableCellOf}
use Rattle.markdown_kinds.specs.declared.ListItem.{ListItem as ListItemOf}
use Rattle.markdown_kinds.specs.declared.Paragraph.{Paragraph as ParagraphOf}

abbrev pub Root : Type 0
Root = RootOf Node

abbrev pub Blockquote : Type 0
Blockquote = BlockquoteOf Node

abbrev pub FootnoteDefinition : Type 0
FootnoteDefinition = FootnoteDefinitionOf Node

abbrev pub List : Type 0
List = ListOf Node

abbrev pub Delete : Type 0
Delete = DeleteOf Node

abbrev pub Emphasis : Type 0
Emphasis = EmphasisOf Node

abbrev pub Link : Type 0
Link = LinkOf Node

abbrev pub LinkReference : Type 0
LinkReference = LinkReferenceOf Node

abbrev pub Strong : Type 0
Strong = StrongOf Node

abbrev pub Heading : Type 0
Heading = HeadingOf Node

abbrev pub Table : Type 0
Table = TableOf Node

abbrev pub TableRow : Type 0
TableRow = TableRowOf Node

abbrev pub TableCell : Type 0
TableCell = TableCellOf Node

abbrev pub ListItem : Type 0
ListItem = ListItemOf Node

abbrev pub Paragraph : Type 0
Paragraph = ParagraphOf Node
