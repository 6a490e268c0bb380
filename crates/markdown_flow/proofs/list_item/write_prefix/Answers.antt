use Rattle.event_writer.specs.Stages.{entered, exited, item}
use Rattle.markdown_events.specs.Names.{role_of}
use Rattle.markdown_events.specs.declared.event.Name.TheVariants.{ListItemPrefix}
use Rattle.markdown_flow.proofs.Containers.{prefix_entered, prefix_exited}
use Rattle.markdown_flow.proofs.Moves.{moved_on}
use Rattle.markdown_flow.proofs.Opens.{some_stage}
use Rattle.markdown_flow.specs.Containers.{before_number}
use Rattle.markdown_flow.specs.Markers.{is_ordered}
use Rattle.markdown_flow.specs.Outputs.{Opens}
use Rattle.markdown_pieces.specs.Walks.{at, inside}
use Rattle.markdown_flow.proofs.list_item.write_prefix.Goals as goal

pub returns-then-is_blank-clause-opens : goal.returns-then-is_blank-clause-opens
returns-then-is_blank-clause-opens c = λ outer opens.
    let o = is_ordered c.args.start.marker in
    let around = inside ListItemPrefix (before_number o) outer in
    let begun = some_stage (entered (before_number o) (role_of ListItemPrefix)) (before_number o) (λ b. Opens c.enter.new.self (at b around)) (prefix_entered o) (c.in_ok-enter.ensures.opens (before_number o) outer opens) in
    let marked = c.in_ok-write_marker.ensures.opens around begun in
    some_stage (exited (item o) (before_number o) (role_of ListItemPrefix)) (item o) (λ b. Opens c.exit.new.self (at b outer)) (prefix_exited o) (c.in_ok-exit.ensures.opens (item o) (before_number o) outer marked)

pub returns-clause-opens : goal.returns-clause-opens
returns-clause-opens c = λ outer opens.
    let o = is_ordered c.args.start.marker in
    let around = inside ListItemPrefix (before_number o) outer in
    let begun = some_stage (entered (before_number o) (role_of ListItemPrefix)) (before_number o) (λ b. Opens c.enter.new.self (at b around)) (prefix_entered o) (c.in_ok-enter.ensures.opens (before_number o) outer opens) in
    let marked = c.in_ok-write_marker.ensures.opens around begun in
    let padded = c.in_ok-columns.ensures.same (item o) around marked in
    some_stage (exited (item o) (before_number o) (role_of ListItemPrefix)) (item o) (λ b. Opens c.exit-2.new.self (at b outer)) (prefix_exited o) (c.in_ok-exit-2.ensures.opens (item o) (before_number o) outer padded)

pub returns-in_err-columns-clause-moved : goal.returns-in_err-columns-clause-moved
returns-in_err-columns-clause-moved c = moved_on c.args.line.now c.write_marker.new.line c.columns.new.line c.write_marker.ensures.moved c.columns.ensures.moved

pub returns-in_err-exit-2-clause-moved : goal.returns-in_err-exit-2-clause-moved
returns-in_err-exit-2-clause-moved c = moved_on c.args.line.now c.write_marker.new.line c.columns.new.line c.write_marker.ensures.moved c.columns.ensures.moved

pub returns-clause-moved : goal.returns-clause-moved
returns-clause-moved c = moved_on c.args.line.now c.write_marker.new.line c.columns.new.line c.write_marker.ensures.moved c.columns.ensures.moved
