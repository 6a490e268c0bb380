use Rattle.std.proofs.Common.{List, Some, ap, sym, ◌∙◌, ◌≡◌, arith}
use Rattle.markdown_events.specs.declared.unist.Position.{Position}
use Rattle.markdown_nodes.specs.declared.mdast.Node.{Node}
use Rattle.markdown_events.specs.declared.role.Content.{Content}
use Rattle.markdown_nodes.specs.View.{views}
use Rattle.markdown_blocks.specs.Parents.{parent_label}
use Rattle.markdown_parts.specs.PartsSoFar.{placed}
use Rattle.markdown_nodes.proofs.Views as nodes_views
use Rattle.markdown_blocks.proofs.parent.parent.Goals as goal

-- the children are the same in another list
same : (k : Content) (position : Position) {ns ms : List Node} → ns ≡ ms → placed (parent_label k) (views ns) position ≡ placed (parent_label k) (views ms) position
same k position is = ap (λ (ns : List Node). placed (parent_label k) (views ns) position) is

pub returns-in-BlockQuote : goal.returns-in-BlockQuote
returns-in-BlockQuote c = nodes_views.view-Blockquote (record { children = c.settled-children.result; position = Some c.args.position }) ∙ ap (λ (k : Content). placed (parent_label k) (views c.settled-children.result.items) c.args.position) (sym c.in-BlockQuote.is) ∙ same c.args.content c.args.position c.settled-children.ensures

pub returns-in-Emphasis : goal.returns-in-Emphasis
returns-in-Emphasis c = nodes_views.view-Emphasis (record { children = c.settled-children.result; position = Some c.args.position }) ∙ ap (λ (k : Content). placed (parent_label k) (views c.settled-children.result.items) c.args.position) (sym c.in-Emphasis.is) ∙ same c.args.content c.args.position c.settled-children.ensures

pub returns-in-Strong : goal.returns-in-Strong
returns-in-Strong c = nodes_views.view-Strong (record { children = c.settled-children.result; position = Some c.args.position }) ∙ ap (λ (k : Content). placed (parent_label k) (views c.settled-children.result.items) c.args.position) (sym c.in-Strong.is) ∙ same c.args.content c.args.position c.settled-children.ensures

pub returns-in-Strikethrough : goal.returns-in-Strikethrough
returns-in-Strikethrough c = nodes_views.view-Delete (record { children = c.settled-children.result; position = Some c.args.position }) ∙ ap (λ (k : Content). placed (parent_label k) (views c.settled-children.result.items) c.args.position) (sym c.in-Strikethrough.is) ∙ same c.args.content c.args.position c.settled-children.ensures

pub returns-in-Paragraph : goal.returns-in-Paragraph
returns-in-Paragraph c = nodes_views.view-Paragraph (record { children = c.settled-children.result; position = Some c.args.position }) ∙ ap (λ (k : Content). placed (parent_label k) (views c.settled-children.result.items) c.args.position) (sym c.in-Paragraph.is) ∙ same c.args.content c.args.position c.settled-children.ensures

pub returns-in-TableRow : goal.returns-in-TableRow
returns-in-TableRow c = nodes_views.view-TableRow (record { children = c.settled-children.result; position = Some c.args.position }) ∙ ap (λ (k : Content). placed (parent_label k) (views c.settled-children.result.items) c.args.position) (sym c.in-TableRow.is) ∙ same c.args.content c.args.position c.settled-children.ensures

pub returns-in-TableCell : goal.returns-in-TableCell
returns-in-TableCell c = nodes_views.view-TableCell (record { children = c.settled-children.result; position = Some c.args.position }) ∙ ap (λ (k : Content). placed (parent_label k) (views c.settled-children.result.items) c.args.position) (sym c.in-TableCell.is) ∙ same c.args.content c.args.position c.settled-children.ensures
