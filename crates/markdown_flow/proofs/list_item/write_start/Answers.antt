use Rattle.event_writer.specs.Stages.{entered}
use Rattle.markdown_events.specs.Names.{role_of}
use Rattle.markdown_events.specs.declared.event.Name.TheVariants.{ListItem}
use Rattle.markdown_flow.proofs.Containers.{item_entered}
use Rattle.markdown_flow.proofs.Opens.{some_stage}
use Rattle.markdown_flow.specs.Containers.{before_number, in_list}
use Rattle.markdown_flow.specs.Markers.{is_ordered}
use Rattle.markdown_flow.specs.Outputs.{Opens}
use Rattle.markdown_pieces.specs.Walks.{at, inside}
use Rattle.markdown_flow.proofs.list_item.write_start.Goals as goal

pub returns-clause-opens : goal.returns-clause-opens
returns-clause-opens c = λ outer opens.
    let o = is_ordered c.args.start.marker in
    let around = inside ListItem (in_list o) outer in
    let begun = some_stage (entered (in_list o) (role_of ListItem)) (before_number o) (λ b. Opens c.enter.new.self (at b around)) (item_entered o) (c.in_ok-enter.ensures.opens (in_list o) outer opens) in
    c.in_ok-write_prefix.ensures.opens around (c.in_ok-columns.ensures.same (before_number o) around begun)
