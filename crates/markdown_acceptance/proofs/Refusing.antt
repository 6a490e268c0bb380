-- What the tests of the open spans do not let through, no accepted list of events begins with.
use Rattle.std.proofs.Common.{◌≡◌, false, List, [], ◌∷◌, ◌++◌, None, Result, Some, append_assoc, refl, sym, ap, ◌∙◌}
use Rattle.std.specs.Option.{option_and_then}
use Rattle.markdown_events.specs.Forest.{enter, events_of, exit}
use Rattle.markdown_events.specs.Names.{is_same_name, role_of}
use Rattle.markdown_events.specs.declared.event.Event.{Event}
use Rattle.markdown_events.specs.declared.event.Name.{Name}
use Rattle.markdown_events.specs.declared.event.Point.{Point}
use Rattle.markdown_grammar.specs.Document.{Source}
use Rattle.markdown_grammar.specs.Refusals.{ErrorAt}
use Rattle.markdown_steps.proofs.Compiled.{accepted-runs}
use Rattle.markdown_steps.proofs.Conditions.{conditions-accept}
use Rattle.markdown_steps.proofs.Outcomes.{ok, ok-bind, when, when-none}
use Rattle.markdown_steps.proofs.Refused.{run-append}
use Rattle.markdown_steps.specs.Checks.{◌>>=◌}
use Rattle.markdown_steps.specs.Columns.{child_facts}
use Rattle.markdown_steps.specs.Compiler.{OpenSpan, State, exit_from, exit_step, opening, pop, run}
use Rattle.markdown_acceptance.proofs.Leading.{close-steps}
use Rattle.markdown_acceptance.proofs.Stepping.{enter-steps, left, opened, run-one, token-steps, written}
use Rattle.markdown_acceptance.specs.Calls.{may_close, may_close_as, may_open, may_write}
use Rattle.markdown_acceptance.specs.Shown.{IsHopeless, ShowsAll, ShowsState, Tracks}
use Rattle.markdown_acceptance.specs.Stacks.{Stack}
use Rattle.markdown_acceptance.specs.declared.open_spans.Frame.{Frame}

-- where the steps refuse more events, no accepted list begins with all of them
hopeless-after : (s : Source) (es more : List Event) (spans : Stack) → Tracks s es spans → ((st : State) → ShowsState spans st → ok (run s more st) ≡ None) → IsHopeless s (es ++ more)
hopeless-after s es more spans t refused f rest from a =
    let st : State = t.state in
    let runs : run s (es ++ (more ++ rest)) opening ≡ (run s more st >>= run s rest) =
    run-append s es (more ++ rest) opening ∙ ap (λ (r : Result State ErrorAt). r >>= run s (more ++ rest)) t.runs ∙ run-append s more rest st in
    let none : ok (run s (events_of f) opening) ≡ None =
    ap (λ (xs : List Event). ok (run s xs opening)) (from ∙ append_assoc es more rest) ∙ ap ok runs
    ∙ ok-bind (run s more st) (run s rest) ∙ ap (option_and_then (λ (x : State). ok (run s rest x))) (refused st t.shows) in
    let some = ap ok (accepted-runs s f (conditions-accept s f a)) in
    let wrong = sym some ∙ none in
    absurd cc

pub hopeless-enter : (s : Source) (es : List Event) (n : Name) (p : Point) (spans : Stack) → Tracks s es spans → may_open s.bytes spans n p ≡ false → IsHopeless s (es ++ enter n p ∷ [])
hopeless-enter s es n p spans t not_open =
    hopeless-after s es (enter n p ∷ []) spans t
    (λ st h. ap ok (run-one s (enter n p) st) ∙ enter-steps s n p (role_of n) spans st refl h ∙ ap (λ q. when q (Some (opened (role_of n) n p st))) not_open)

pub hopeless-token : (s : Source) (es : List Event) (n : Name) (a b : Point) (spans : Stack) → Tracks s es spans → may_write s spans n a b ≡ false → IsHopeless s (es ++ enter n a ∷ exit n b ∷ [])
hopeless-token s es n a b spans t not_written =
    hopeless-after s es (enter n a ∷ exit n b ∷ []) spans t (λ st h. token-steps s n a b (role_of n) spans st refl h ∙ ap (λ q. when q (Some (written s (role_of n) n a b st))) not_written)

-- an exit, by the frames of the open spans
exit-refused : (s : Source) (n : Name) (p : Point) (spans : Stack) (frames : List Frame) (st : State) (open_spans : List OpenSpan) → st.frames ≡ open_spans → ShowsAll frames open_spans → ShowsState spans st
    → elim frames [ [] ↦ false | f ∷ fs ↦ may_close_as s f.outer f.start spans.site p ] ≡ false → ok (run s (exit n p ∷ []) st) ≡ None
unfolding exit_step
exit-refused s n p spans [] st [] is all h not_closed = ap ok (run-one s (exit n p) st) ∙ ap (λ (os : List OpenSpan). ok (exit_from s n p os st)) is
exit-refused s n p spans [] st (o ∷ os) is all h not_closed = absurd all
exit-refused s n p spans (f ∷ fs) st [] is all h not_closed = absurd all
exit-refused s n p spans (f ∷ fs) st (o ∷ os) is all h not_closed =
    let z : State = pop o os st (left s o.start p (child_facts st.marks st.columns) st.top o.outer) in
    close-steps s n p f spans.site o os st is all.0 h.top ∙ ap (λ q. when (is_same_name f.name n) (when q (Some z))) not_closed ∙ when-none (is_same_name f.name n)

pub hopeless-exit : (s : Source) (es : List Event) (n : Name) (p : Point) (spans : Stack) → Tracks s es spans → may_close s spans p ≡ false → IsHopeless s (es ++ exit n p ∷ [])
hopeless-exit s es n p spans t not_closed = hopeless-after s es (exit n p ∷ []) spans t (λ st h. exit-refused s n p spans spans.frames st st.frames refl h.frames h not_closed)
