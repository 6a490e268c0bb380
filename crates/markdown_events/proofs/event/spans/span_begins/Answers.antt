use Rattle.std.proofs.Common.{◌≡◌, [], drop, Some, None, ap, sym, ◌∙◌}
use Rattle.std.proofs.lemmas.List.{take_rest}
use Rattle.markdown_events.specs.Walks.{run}
use Rattle.markdown_events.proofs.Spans.{found_some, found_none}
use Rattle.markdown_events.proofs.event.spans.span_begins.Goals as goal

pub returns-in-Some-clause-span : goal.returns-in-Some-clause-span
returns-in-Some-clause-span c =
    let e : run (drop c.args.index c.args.events.now) [] 0 ≡ Some c.in-Some.last = ap (λ es. run es [] 0) (sym (take_rest c.args.events.now c.args.index)) ∙ sym c.in_ok-last.ensures.run ∙ c.in-Some.is in
    found_some c.args.events.now c.args.index c.in-Some.last e

pub returns-in-None-clause-span : goal.returns-in-None-clause-span
returns-in-None-clause-span c =
    let e : run (drop c.args.index c.args.events.now) [] 0 ≡ None = ap (λ es. run es [] 0) (sym (take_rest c.args.events.now c.args.index)) ∙ sym c.in_ok-last.ensures.run ∙ c.in-None.is in
    found_none c.args.events.now c.args.index e
