use Rattle.std.proofs.Common.{◌∙◌, ap, arith}
use Rattle.markdown_flow.proofs.Definitions.{some_left}
use Rattle.markdown_flow.specs.declared.output.Cursor.{Cursor}
use Rattle.markdown_flow.proofs.definition_pieces.PartWriter.write.Goals as goal

pub begin_line-requires-clause-some : goal.begin_line-requires-clause-some
begin_line-requires-clause-some c =
    let writer = c.args.self.now in
    some_left writer.text.now writer.at writer.lines.now c.requires.before.text (omega (arith, c.requires.starts, c.requires.fits))

pub returns-clause-on : goal.returns-clause-on
returns-clause-on c =
    let begun = c.in_ok-begin_line.ensures.on in
    let indent = c.in_ok-write_indent.ensures.on in
    let label = c.in_ok-write_label.ensures.on in
    let marker = c.in_ok-part.ensures.on in
    let space = c.in_ok-part-2.ensures.on in
    let destination = c.in_ok-write_destination.ensures.on in
    let title = c.in_ok-write_title.ensures.on in
    let rest = c.in_ok-write_rest.ensures.on in
    let ended = c.in_ok-end_line.ensures.on in
    record {
      content = ended.content ∙ rest.content ∙ title.content ∙ destination.content ∙ space.content ∙ marker.content ∙ label.content ∙ indent.content ∙ begun.content;
      text = ended.text ∙ rest.text ∙ title.text ∙ destination.text ∙ space.text ∙ marker.text ∙ label.text ∙ indent.text ∙ begun.text;
      source = ended.source ∙ ap (λ (x : Cursor). x.extent.source) c.exit.ensures.cursor ∙ rest.source ∙ title.source ∙ destination.source ∙ space.source ∙ marker.source ∙ label.source ∙ indent.source
          ∙ ap (λ (x : Cursor). x.extent.source) c.enter.ensures.cursor ∙ begun.source;
    }

pub returns-clause-less : goal.returns-clause-less
returns-clause-less c =
    let begun = c.begin_line.ensures.at in
    let indent = c.write_indent.ensures.at in
    let label = c.in_ok-write_label.ensures.order in
    let marker = c.in_ok-part.ensures.order in
    let space = c.in_ok-part-2.ensures.order in
    let destination = c.in_ok-write_destination.ensures.order in
    let title = c.in_ok-write_title.ensures.order in
    let rest = c.in_ok-write_rest.ensures.order in
    let ended = c.in_ok-end_line.ensures.at in
    omega (arith, begun, indent, label, marker, space, destination, title, rest, ended)
