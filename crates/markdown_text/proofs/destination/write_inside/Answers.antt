use Rattle.std.proofs.Common.{refl, ◌∙◌}
use Rattle.event_writer.specs.Stages.{resource, resource_title}
use Rattle.markdown_events.specs.declared.event.Name.TheVariants.{ResourceDestinationRaw}
use Rattle.markdown_pieces.specs.Walks.{inside}
use Rattle.markdown_text.proofs.Constructs.{first_of_rest}
use Rattle.markdown_text.specs.Outputs.{bytes_of}
use Rattle.markdown_text.proofs.destination.write_inside.Goals as goal

pub write_enclosed-requires-clause-enclosed : goal.write_enclosed-requires-clause-enclosed
write_enclosed-requires-clause-enclosed g c =
    let at = c.args.output.now.at in
    c.requires.destination.enclosed c.requires.filled (first_of_rest (bytes_of c.args.output.now) c.rest.result.now at c.rest.ensures ∙ c.if-rest-eq60.true)

pub string-requires-clause-may : goal.string-requires-clause-may
string-requires-clause-may g c =
    let outer = c.requires.at.outer in
    let inner = inside ResourceDestinationRaw resource outer in
    record { stage = resource; outer = inner; at = c.in_ok-enter.ensures.stage resource outer c.requires.at.at; may = refl }

pub exit-requires-clause-may : goal.exit-requires-clause-may
exit-requires-clause-may g c =
    let outer = c.requires.at.outer in
    let inner = inside ResourceDestinationRaw resource outer in
    let begun = c.in_ok-enter.ensures.stage resource outer c.requires.at.at in
    record { stage = resource_title; outer = inner; at = c.in_ok-string.ensures.stage resource inner begun; may = refl }

pub returns-clause-at : goal.returns-clause-at
returns-clause-at g c = λ outer at.
    let inner = inside ResourceDestinationRaw resource outer in
    let begun = c.in_ok-enter.ensures.stage resource outer at in
    c.exit.ensures.stage resource_title resource ResourceDestinationRaw outer (c.in_ok-string.ensures.stage resource inner begun)
