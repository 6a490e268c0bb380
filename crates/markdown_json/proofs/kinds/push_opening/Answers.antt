use denote.Hole.Carrier
use Rattle.markdown_json.specs.Fields.{children, field, key, kind}
use Rattle.markdown_json.specs.Strings.{string}
use Rattle.markdown_nodes.specs.declared.mdast.Node.TheViews.{out-Node}
use Rattle.markdown_json.proofs.kinds.push_opening.Goals as goal

pub returns-in-Toml : goal.returns-in-Toml
unfolding out-Node denote.Hole.Carrier.out kind key field string
returns-in-Toml c = rw c.in-Toml.is c.push_started.ensures

pub returns-in-Yaml : goal.returns-in-Yaml
unfolding out-Node denote.Hole.Carrier.out kind key field string
returns-in-Yaml c = rw c.in-Yaml.is c.push_started-in-Yaml.ensures

pub returns-in-InlineCode : goal.returns-in-InlineCode
unfolding out-Node denote.Hole.Carrier.out kind key field string
returns-in-InlineCode c = rw c.in-InlineCode.is c.push_started-in-InlineCode.ensures

pub returns-in-InlineMath : goal.returns-in-InlineMath
unfolding out-Node denote.Hole.Carrier.out kind key field string
returns-in-InlineMath c = rw c.in-InlineMath.is c.push_started-in-InlineMath.ensures

pub returns-in-Delete : goal.returns-in-Delete
unfolding out-Node denote.Hole.Carrier.out kind children
returns-in-Delete c = rw c.in-Delete.is c.push-in-Delete.ensures

pub returns-in-Emphasis : goal.returns-in-Emphasis
unfolding out-Node denote.Hole.Carrier.out kind children
returns-in-Emphasis c = rw c.in-Emphasis.is c.push-in-Emphasis.ensures

pub returns-in-Strong : goal.returns-in-Strong
unfolding out-Node denote.Hole.Carrier.out kind children
returns-in-Strong c = rw c.in-Strong.is c.push-in-Strong.ensures

pub returns-in-TableRow : goal.returns-in-TableRow
unfolding out-Node denote.Hole.Carrier.out kind children
returns-in-TableRow c = rw c.in-TableRow.is c.push-in-TableRow.ensures

pub returns-in-TableCell : goal.returns-in-TableCell
unfolding out-Node denote.Hole.Carrier.out kind children
returns-in-TableCell c = rw c.in-TableCell.is c.push-in-TableCell.ensures

pub returns-in-Paragraph : goal.returns-in-Paragraph
unfolding out-Node denote.Hole.Carrier.out kind children
returns-in-Paragraph c = rw c.in-Paragraph.is c.push-in-Paragraph.ensures

pub returns-in-ThematicBreak : goal.returns-in-ThematicBreak
unfolding out-Node denote.Hole.Carrier.out kind
returns-in-ThematicBreak c = rw c.in-ThematicBreak.is c.push-in-ThematicBreak.ensures
