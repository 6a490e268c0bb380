use Rattle.std.proofs.Common.{◌≡◌, ◌==◌, List, [], ◌∷◌, ◌++◌, length, ap, sym, ◌∙◌, arith, reverse}
use Rattle.std.specs.Prelude.{vec_len}
use Rattle.markdown_events.specs.declared.event.Event.{Event}
use Rattle.markdown_events.specs.declared.event.spans.Open.{Open}
use Rattle.markdown_events.specs.OpenSpans.{names_of, opened_in}
use Rattle.markdown_events.specs.Walks.{run}
use Rattle.markdown_events.proofs.OpenSpans.{begun, ended, some_left, stops}
use Rattle.markdown_events.proofs.event.spans.last_of_span.Goals as goal
use Rattle.markdown_events.proofs.event.spans.last_of_span.Goals.{in-Enter+in-Some-opened+in_ok-push-in-Some-opened, in-Exit+in-Some-pop+else-is_empty}

pub returns-in-None-clause-run : goal.returns-in-None-clause-run
returns-in-None-clause-run c =
    let names : List _ = names_of (reverse c.loop-event.spans.items) in
    let none = sym c.in-None.is ∙ c.opened.ensures ∙ ap (λ (xs : List Open). opened_in (names_of (reverse xs)) c.in-Some.event.now.name) c.as_slice.ensures.value in
    sym (stops c.in-Some.event.now c.in-Some.after.now names c.loop-event.passed c.in-Enter.is none)
    ∙ sym (ap (λ (es : List Event). run es names c.loop-event.passed) c.in-Some.ensures.cases.0)
    ∙ c.loop-event.invariant.0

pub loop-event-preserved : goal.loop-event-preserved
loop-event-preserved c =
    let there = c.in-Some.ensures.cases.0 in
    let spans : List Open = c.loop-event.spans.items in
    let before = sym (ap (λ (es : List Event). run es (names_of (reverse spans)) c.loop-event.passed) there) ∙ c.loop-event.invariant.0 in
    let count : length c.loop-event.rest.now ≡ length (c.in-Some.event.now ∷ c.in-Some.after.now) = ap (λ (es : List Event). length es) there in
    let within = c.loop-event.invariant.1 in
    let are = c.loop-event.invariant.2 in
    elim c.match-event.branch [
      | in-Enter+in-Some-opened+in_ok-push-in-Some-opened w ↦
          let some = sym w.in-Some-opened.is ∙ w.opened.ensures ∙ ap (λ (xs : List Open). opened_in (names_of (reverse xs)) c.in-Some.event.now.name) w.as_slice.ensures.value in
          let both = begun c.in-Some.event.now c.in-Some.after.now spans c.match-event.spans.items w.in-Some-opened.span c.loop-event.passed w.in-Enter.is some
          (ap (λ v. v.items) w.spans-is ∙ w.in_ok-push-in-Some-opened.ensures.items) are in
          (sym both.0 ∙ before, omega (arith, count, within), both.1)
      | in-Exit+in-Some-pop+else-is_empty w ↦
          let both = ended c.in-Some.event.now c.in-Some.after.now spans c.match-event.spans.items w.in-Some-pop.span c.loop-event.passed w.in-Exit.is
          (w.in-Some-pop.ensures.items ∙ ap (λ v. v.items ++ w.in-Some-pop.span ∷ []) (sym w.spans-is))
          (sym w.is.ensures.value ∙ w.if-is.true)
          (some_left c.match-event.spans (ap (λ v. vec_len v == 0) w.spans-is ∙ sym w.is_empty.ensures ∙ w.if-is_empty.false)) are in
          (sym both.0 ∙ before, omega (arith, count, within), both.1)
    ]
