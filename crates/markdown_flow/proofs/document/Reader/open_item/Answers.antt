use Rattle.std.proofs.Common.{[], false, subst, sym, ℕ}
use Rattle.event_writer.specs.Stages.{flow}
use Rattle.markdown_flow.proofs.Containers.{first_block}
use Rattle.markdown_flow.specs.Containers.{in_list, list_name, number_in, outer_in}
use Rattle.markdown_flow.specs.Markers.{is_ordered}
use Rattle.markdown_flow.specs.Outputs.{Opens}
use Rattle.markdown_flow.specs.Readers.{in_last_item}
use Rattle.markdown_events.specs.declared.event.Name.TheVariants.{ListItem}
use Rattle.markdown_pieces.specs.Walks.{inside, start}
use Rattle.markdown_flow.proofs.document.Reader.open_item.Goals as goal

pub push-requires : goal.push-requires
push-requires c =
    let cs = c.args.self.now.containers.items in
    let o = is_ordered c.args.start.marker in
    let around = inside (list_name o) (flow (number_in false cs)) (outer_in false [] cs) in
    let begun = c.in_ok-item.ensures.opens around c.requires.opens in
    let blocks = first_block start o (inside ListItem (in_list o) around) c.«open».new.output.pieces.items begun in
    subst (λ (m : ℕ). Opens c.«open».new.output (in_last_item (is_ordered m) cs)) (sym c.in_ok-item.ensures.marker) blocks
