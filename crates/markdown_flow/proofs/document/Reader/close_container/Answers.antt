use Rattle.std.proofs.Common.{[], false, refl}
use Rattle.event_writer.specs.Stages.{flow}
use Rattle.markdown_flow.proofs.Readers.{opens_popped}
use Rattle.markdown_flow.specs.Containers.{number_in, outer_in}
use Rattle.markdown_flow.specs.declared.container.Container.TheVariants.{BlockQuote, FootnoteDefinition, ListItem}
use Rattle.markdown_flow.proofs.document.Reader.close_container.Goals as goal

pub close_item-requires-clause-opens : goal.close_item-requires-clause-opens
close_item-requires-clause-opens c = opens_popped c.args.self.now.output c.args.self.now.containers.items c.pop.new.self.items c.pop.result c.in-Some.container (ListItem c.in-ListItem.item) c.pop.ensures.items c.in-Some.is c.in-ListItem.is c.requires.opens

pub returns-in_ok-exit_container-in-BlockQuote-clause-opens : goal.returns-in_ok-exit_container-in-BlockQuote-clause-opens
returns-in_ok-exit_container-in-BlockQuote-clause-opens c =
    let cs = c.pop.new.self.items in
    c.in_ok-exit_container-in-BlockQuote.ensures.opens (flow false) (flow (number_in false cs)) (outer_in false [] cs) refl (opens_popped c.args.self.now.output c.args.self.now.containers.items c.pop.new.self.items c.pop.result c.in-Some.container BlockQuote c.pop.ensures.items c.in-Some.is c.in-BlockQuote.is c.requires.opens)

pub returns-in_ok-exit_container-in-FootnoteDefinition-clause-opens : goal.returns-in_ok-exit_container-in-FootnoteDefinition-clause-opens
returns-in_ok-exit_container-in-FootnoteDefinition-clause-opens c =
    let cs = c.pop.new.self.items in
    c.in_ok-exit_container-in-FootnoteDefinition.ensures.opens (flow false) (flow (number_in false cs)) (outer_in false [] cs) refl (opens_popped c.args.self.now.output c.args.self.now.containers.items c.pop.new.self.items c.pop.result c.in-Some.container FootnoteDefinition c.pop.ensures.items c.in-Some.is c.in-FootnoteDefinition.is c.requires.opens)
