use Rattle.std.proofs.Common.{Some, [], ap, false, ◌∙◌}
use Rattle.event_writer.specs.Stages.{flow}
use Rattle.markdown_flow.proofs.Readers.{opens_next}
use Rattle.markdown_flow.specs.Containers.{list_name, number_in, outer_in}
use Rattle.markdown_flow.specs.Markers.{is_ordered}
use Rattle.markdown_pieces.specs.Walks.{inside}
use Rattle.markdown_flow.proofs.document.Reader.close_item.Goals as goal

pub returns-clause-opens : goal.returns-clause-opens
returns-clause-opens c =
    let cs = c.args.self.now.containers.items in
    let m = c.args.item.now.marker in
    opens_next c.close.new.output c.args.marker m cs (c.in-Some.is ∙ ap Some c.if-marker-item.true) (c.in_ok-close.ensures.opens (inside (list_name (is_ordered m)) (flow (number_in false cs)) (outer_in false [] cs)) c.requires.opens)
