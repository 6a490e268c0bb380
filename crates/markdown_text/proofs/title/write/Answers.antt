use Rattle.std.proofs.Common.{refl}
use Rattle.event_writer.specs.Stages.{endings, resource_title}
use Rattle.markdown_events.specs.declared.event.Name.TheVariants.{ResourceTitle}
use Rattle.markdown_pieces.specs.Walks.{inside}
use Rattle.markdown_text.proofs.title.write.Goals as goal

pub token-requires-clause-may : goal.token-requires-clause-may
token-requires-clause-may g c =
    let outer = c.requires.at.outer in
    let inner = inside ResourceTitle resource_title outer in
    let begun = c.in_ok-enter.ensures.stage resource_title outer c.requires.at.at in
    record { stage = resource_title; outer = inner; at = begun; may = refl }

pub string-requires-clause-may : goal.string-requires-clause-may
string-requires-clause-may g c =
    let outer = c.requires.at.outer in
    let inner = inside ResourceTitle resource_title outer in
    let begun = c.in_ok-enter.ensures.stage resource_title outer c.requires.at.at in
    let put = c.in_ok-token.ensures.stage resource_title inner begun in
    record { stage = resource_title; outer = inner; at = put; may = refl }

pub token-requires-2-clause-may : goal.token-requires-2-clause-may
token-requires-2-clause-may g c =
    let outer = c.requires.at.outer in
    let inner = inside ResourceTitle resource_title outer in
    let begun = c.in_ok-enter.ensures.stage resource_title outer c.requires.at.at in
    let put = c.in_ok-token.ensures.stage resource_title inner begun in
    let wrote = c.in_ok-string.ensures.stage resource_title inner put in
    record { stage = endings; outer = inner; at = wrote; may = refl }

pub exit-requires-clause-may : goal.exit-requires-clause-may
exit-requires-clause-may g c =
    let outer = c.requires.at.outer in
    let inner = inside ResourceTitle resource_title outer in
    let begun = c.in_ok-enter.ensures.stage resource_title outer c.requires.at.at in
    let put = c.in_ok-token.ensures.stage resource_title inner begun in
    let wrote = c.in_ok-string.ensures.stage resource_title inner put in
    let put2 = c.in_ok-token-2.ensures.stage endings inner wrote in
    record { stage = endings; outer = inner; at = put2; may = refl }

pub returns-clause-at : goal.returns-clause-at
returns-clause-at g c = λ outer at.
    let inner = inside ResourceTitle resource_title outer in
    let begun = c.in_ok-enter.ensures.stage resource_title outer at in
    let put = c.in_ok-token.ensures.stage resource_title inner begun in
    let wrote = c.in_ok-string.ensures.stage resource_title inner put in
    let put2 = c.in_ok-token-2.ensures.stage endings inner wrote in
    c.exit.ensures.stage endings resource_title ResourceTitle outer put2
