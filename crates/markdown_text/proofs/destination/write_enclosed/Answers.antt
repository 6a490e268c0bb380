use Rattle.std.proofs.Common.{refl}
use Rattle.event_writer.specs.Stages.{resource, resource_title}
use Rattle.markdown_events.specs.declared.event.Name.TheVariants.{ResourceDestinationLiteral}
use Rattle.markdown_pieces.specs.Walks.{inside}
use Rattle.markdown_text.proofs.destination.write_enclosed.Goals as goal

pub token-requires-clause-may : goal.token-requires-clause-may
token-requires-clause-may g c =
    let outer = c.requires.at.outer in
    let inner = inside ResourceDestinationLiteral resource outer in
    let begun = c.in_ok-enter.ensures.stage resource outer c.requires.at.at in
    record { stage = resource; outer = inner; at = begun; may = refl }

pub string-requires-clause-may : goal.string-requires-clause-may
string-requires-clause-may g c =
    let outer = c.requires.at.outer in
    let inner = inside ResourceDestinationLiteral resource outer in
    let begun = c.in_ok-enter.ensures.stage resource outer c.requires.at.at in
    let put = c.in_ok-token.ensures.stage resource inner begun in
    record { stage = resource; outer = inner; at = put; may = refl }

pub token-requires-2-clause-may : goal.token-requires-2-clause-may
token-requires-2-clause-may g c =
    let outer = c.requires.at.outer in
    let inner = inside ResourceDestinationLiteral resource outer in
    let begun = c.in_ok-enter.ensures.stage resource outer c.requires.at.at in
    let put = c.in_ok-token.ensures.stage resource inner begun in
    let wrote = c.in_ok-string.ensures.stage resource inner put in
    record { stage = resource_title; outer = inner; at = wrote; may = refl }

pub exit-requires-clause-may : goal.exit-requires-clause-may
exit-requires-clause-may g c =
    let outer = c.requires.at.outer in
    let inner = inside ResourceDestinationLiteral resource outer in
    let begun = c.in_ok-enter.ensures.stage resource outer c.requires.at.at in
    let put = c.in_ok-token.ensures.stage resource inner begun in
    let wrote = c.in_ok-string.ensures.stage resource inner put in
    let put2 = c.in_ok-token-2.ensures.stage resource_title inner wrote in
    record { stage = resource_title; outer = inner; at = put2; may = refl }

pub returns-clause-at : goal.returns-clause-at
returns-clause-at g c = λ outer at.
    let inner = inside ResourceDestinationLiteral resource outer in
    let begun = c.in_ok-enter.ensures.stage resource outer at in
    let put = c.in_ok-token.ensures.stage resource inner begun in
    let wrote = c.in_ok-string.ensures.stage resource inner put in
    let put2 = c.in_ok-token-2.ensures.stage resource_title inner wrote in
    c.exit.ensures.stage resource_title resource ResourceDestinationLiteral outer put2
