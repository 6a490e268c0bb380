use Rattle.std.proofs.Common.{refl}
use Rattle.event_writer.specs.Stages.{resource, resource_title}
use Rattle.markdown_events.specs.declared.event.Name.TheVariants.{ResourceDestination}
use Rattle.markdown_pieces.specs.Walks.{inside}
use Rattle.markdown_text.proofs.destination.write.Goals as goal

pub write_inside-requires-clause-at : goal.write_inside-requires-clause-at
write_inside-requires-clause-at g c =
    let outer = c.requires.at.outer in
    let inner = inside ResourceDestination resource outer in
    let begun = c.in_ok-enter.ensures.stage resource outer c.requires.at.at in
    record { outer = inner; at = begun }

pub exit-requires-clause-may : goal.exit-requires-clause-may
exit-requires-clause-may g c =
    let outer = c.requires.at.outer in
    let inner = inside ResourceDestination resource outer in
    let begun = c.in_ok-enter.ensures.stage resource outer c.requires.at.at in
    let wrote = c.in_ok-write_inside.ensures.at inner begun in
    record { stage = resource_title; outer = inner; at = wrote; may = refl }

pub returns-clause-at : goal.returns-clause-at
returns-clause-at g c = λ outer at.
    let inner = inside ResourceDestination resource outer in
    let begun = c.in_ok-enter.ensures.stage resource outer at in
    let wrote = c.in_ok-write_inside.ensures.at inner begun in
    c.exit.ensures.stage resource_title resource ResourceDestination outer wrote
