use Rattle.std.proofs.Common.{refl, true, ◌≡◌}
use Rattle.event_writer.specs.Stages.{entered, exited, inlines, skips}
use Rattle.markdown_events.specs.Names.{role_of}
use Rattle.markdown_flow.proofs.Opens.{around_text, less_in_place, some_less}
use Rattle.markdown_flow.specs.Outputs.{Opens}
use Rattle.markdown_pieces.specs.Walks.{at, inside, stage_after_string}
use Rattle.markdown_flow.proofs.definition_pieces.PartWriter.write_string.Goals as goal

pub returns-then-is_empty-clause-opens : goal.returns-then-is_empty-clause-opens
returns-then-is_empty-clause-opens c = λ a outer opens. less_in_place c.args.output.now a outer (stage_after_string a c.args.name) opens

pub returns-clause-opens : goal.returns-clause-opens
returns-clause-opens c = λ a outer opens.
    let name = c.args.name in
    around_text name a (entered a (role_of name)) (λ b. Opens c.enter.new.self (at b (inside name a outer))) (λ b. skips a b ≡ true → Opens c.exit.new.self (at b outer)) (c.in_ok-enter.ensures.opens a outer opens) (
    λ h first.
    let text = c.in_ok-part.ensures.opens (inlines h) refl refl (inside name a outer) first in
    some_less (exited (inlines h) a (role_of name)) (λ b. Opens c.exit.new.self (at b outer)) (λ b. skips a b ≡ true → Opens c.exit.new.self (at b outer)) (λ b there less. there) (c.in_ok-exit.ensures.opens (inlines h) a outer text))
