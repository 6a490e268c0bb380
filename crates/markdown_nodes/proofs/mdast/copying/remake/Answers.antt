use Rattle.std.proofs.Common.{rules, arith}
use Rattle.markdown_nodes.proofs.Copying.{like-Root, like-Blockquote, like-List, like-Delete, like-Emphasis, like-Strong, like-Heading, like-TableRow, like-TableCell, like-ListItem, like-Paragraph}
use Rattle.markdown_nodes.specs.declared.mdast.Node.TheViews.{out-Node}
use Rattle.markdown_nodes.specs.View.{view}
use Rattle.markdown_nodes.proofs.mdast.copying.remake.Goals as goal

pub returns-in-Root : goal.returns-in-Root
returns-in-Root c = λ like. like-Root c.args.node.now c.in-Root.node c.args.children c.in-Root.is like

pub returns-in-Blockquote : goal.returns-in-Blockquote
returns-in-Blockquote c = λ like. like-Blockquote c.args.node.now c.in-Blockquote.node c.args.children c.in-Blockquote.is like

pub returns-in-List : goal.returns-in-List
returns-in-List c = λ like. like-List c.args.node.now c.in-List.node c.args.children c.in-List.is like

pub returns-in-Delete : goal.returns-in-Delete
returns-in-Delete c = λ like. like-Delete c.args.node.now c.in-Delete.node c.args.children c.in-Delete.is like

pub returns-in-Emphasis : goal.returns-in-Emphasis
returns-in-Emphasis c = λ like. like-Emphasis c.args.node.now c.in-Emphasis.node c.args.children c.in-Emphasis.is like

pub returns-in-Strong : goal.returns-in-Strong
returns-in-Strong c = λ like. like-Strong c.args.node.now c.in-Strong.node c.args.children c.in-Strong.is like

pub returns-in-Heading : goal.returns-in-Heading
returns-in-Heading c = λ like. like-Heading c.args.node.now c.in-Heading.node c.args.children c.in-Heading.is like

pub returns-in-TableRow : goal.returns-in-TableRow
returns-in-TableRow c = λ like. like-TableRow c.args.node.now c.in-TableRow.node c.args.children c.in-TableRow.is like

pub returns-in-TableCell : goal.returns-in-TableCell
returns-in-TableCell c = λ like. like-TableCell c.args.node.now c.in-TableCell.node c.args.children c.in-TableCell.is like

pub returns-in-ListItem : goal.returns-in-ListItem
returns-in-ListItem c = λ like. like-ListItem c.args.node.now c.in-ListItem.node c.args.children c.in-ListItem.is like

pub returns-in-Paragraph : goal.returns-in-Paragraph
returns-in-Paragraph c = λ like. like-Paragraph c.args.node.now c.in-Paragraph.node c.args.children c.in-Paragraph.is like

pub returns-in_ok-clone-in-Toml : goal.returns-in_ok-clone-in-Toml
unfolding out-Node view
returns-in_ok-clone-in-Toml c = search rules

pub returns-in_ok-clone-in-Yaml : goal.returns-in_ok-clone-in-Yaml
unfolding out-Node view
returns-in_ok-clone-in-Yaml c = search rules

pub returns-in_ok-clone-in-Break : goal.returns-in_ok-clone-in-Break
unfolding out-Node view
returns-in_ok-clone-in-Break c = search rules

pub returns-in_ok-clone-in-InlineCode : goal.returns-in_ok-clone-in-InlineCode
unfolding out-Node view
returns-in_ok-clone-in-InlineCode c = search rules

pub returns-in_ok-clone-in-InlineMath : goal.returns-in_ok-clone-in-InlineMath
unfolding out-Node view
returns-in_ok-clone-in-InlineMath c = search rules

pub returns-in_ok-clone-in-FootnoteReference : goal.returns-in_ok-clone-in-FootnoteReference
unfolding out-Node view
returns-in_ok-clone-in-FootnoteReference c = search rules

pub returns-in_ok-clone-in-Html : goal.returns-in_ok-clone-in-Html
unfolding out-Node view
returns-in_ok-clone-in-Html c = search rules

pub returns-in_ok-clone-in-Image : goal.returns-in_ok-clone-in-Image
unfolding out-Node view
returns-in_ok-clone-in-Image c = search rules

pub returns-in_ok-clone-in-ImageReference : goal.returns-in_ok-clone-in-ImageReference
unfolding out-Node view
returns-in_ok-clone-in-ImageReference c = search rules

pub returns-in_ok-clone-in-Text : goal.returns-in_ok-clone-in-Text
unfolding out-Node view
returns-in_ok-clone-in-Text c = search rules

pub returns-in_ok-clone-in-Code : goal.returns-in_ok-clone-in-Code
unfolding out-Node view
returns-in_ok-clone-in-Code c = search rules

pub returns-in_ok-clone-in-Math : goal.returns-in_ok-clone-in-Math
unfolding out-Node view
returns-in_ok-clone-in-Math c = search rules

pub returns-in_ok-clone-in-ThematicBreak : goal.returns-in_ok-clone-in-ThematicBreak
unfolding out-Node view
returns-in_ok-clone-in-ThematicBreak c = search rules

pub returns-in_ok-clone-in-Definition : goal.returns-in_ok-clone-in-Definition
unfolding out-Node view
returns-in_ok-clone-in-Definition c = search rules
