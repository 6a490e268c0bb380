use Rattle.std.proofs.Common.{refl, true, ◌≡◌}
use Rattle.event_writer.specs.Stages.{entered, inlines, skips}
use Rattle.markdown_events.specs.Names.{role_of}
use Rattle.markdown_flow.proofs.Opens.{around_text, less_in_place, some_less, some_stage}
use Rattle.markdown_flow.specs.Outputs.{Opens}
use Rattle.markdown_pieces.specs.Walks.{at, inside, stage_after_string}
use Rattle.markdown_flow.proofs.output.Output.string.Goals as goal

pub returns-then-size-eq0-clause-less : goal.returns-then-size-eq0-clause-less
returns-then-size-eq0-clause-less c = λ a outer opens. less_in_place c.args.self.now a outer (stage_after_string a c.args.name) opens

pub returns-clause-filled : goal.returns-clause-filled
returns-clause-filled c = λ a outer some more opens.
    let name = c.args.name in
    around_text name a (entered a (role_of name)) (λ b. Opens c.enter.new.self (at b (inside name a outer))) (λ b. Opens c.exit.new.self (at b outer)) (c.in_ok-enter.ensures.opens a outer opens) (
    λ h first. c.in_ok-exit.ensures.opens (inlines h) a outer (c.in_ok-part.ensures.same (inlines h) refl (inside name a outer) first))

pub returns-clause-same : goal.returns-clause-same
returns-clause-same c = λ a is outer opens.
    let name = c.args.name in
    some_stage (stage_after_string a name) a (λ b. Opens c.exit.new.self (at b outer)) is
    (around_text name a (entered a (role_of name)) (λ b. Opens c.enter.new.self (at b (inside name a outer))) (λ b. Opens c.exit.new.self (at b outer)) (c.in_ok-enter.ensures.opens a outer opens) (
    λ h first. c.in_ok-exit.ensures.opens (inlines h) a outer (c.in_ok-part.ensures.same (inlines h) refl (inside name a outer) first)))

pub returns-clause-less : goal.returns-clause-less
returns-clause-less c = λ a outer opens.
    let name = c.args.name in
    some_less (stage_after_string a name) (λ b. Opens c.exit.new.self (at b outer)) (λ b. skips a b ≡ true → Opens c.exit.new.self (at b outer)) (λ b there less. there)
    (around_text name a (entered a (role_of name)) (λ b. Opens c.enter.new.self (at b (inside name a outer))) (λ b. Opens c.exit.new.self (at b outer)) (c.in_ok-enter.ensures.opens a outer opens) (
    λ h first. c.in_ok-exit.ensures.opens (inlines h) a outer (c.in_ok-part.ensures.same (inlines h) refl (inside name a outer) first)))
