use Rattle.event_writer.specs.Stages.{entered, inlines}
use Rattle.markdown_events.specs.Names.{role_of}
use Rattle.markdown_flow.proofs.Opens.{around_text}
use Rattle.markdown_flow.specs.Outputs.{Opens}
use Rattle.markdown_pieces.specs.Walks.{at, inside}
use Rattle.markdown_flow.proofs.content.Content.write_text.Goals as goal

pub returns-clause-opens : goal.returns-clause-opens
returns-clause-opens c = λ a outer opens.
    let name = c.args.name in
    around_text name a (entered a (role_of name)) (λ b. Opens c.enter.new.self (at b (inside name a outer))) (λ b. Opens c.exit_before_held.new.self (at b outer)) (c.in_ok-enter.ensures.opens a outer opens) (
    λ h first.
    let text = c.in_ok-write_text_of_line.ensures.opens h (inside name a outer) first in
    let all = c.loop-kept.invariant.stays h (inside name a outer) text in
    c.in_ok-exit_before_held.ensures.opens (inlines h) a outer all)
