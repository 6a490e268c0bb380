-- The loop over the events.
use Rattle.std.proofs.Common.{◌≡◌, inl, inr, ℕ, ◌+◌, ◌*◌, ◌≤◌, List, ◌∷◌, length, drop, Some, None, Result, Ok, arith, refl, sym, ap, subst, ◌∙◌}
use Rattle.std.specs.Prelude.{slice_get}
use Rattle.std.proofs.lemmas.List.{at_drop_more, at_drop_all}
use Rattle.std.proofs.lemmas.Option.{slice_get_within, get_or_from_slice_get, slice_get_cases}
use Rattle.markdown_events.specs.declared.event.Event.{Event}
use Rattle.markdown_events.specs.declared.message.Fault.{Fault}
use Rattle.markdown_events.specs.declared.message.Fault.TheVariants as faults
use Rattle.markdown_events.specs.declared.event.Point.{Point}
use Rattle.markdown_grammar.specs.declared.error_kind.Stop.{Stop}
use Rattle.markdown_grammar.specs.declared.error_kind.Stop.TheVariants as stops
use Rattle.markdown_steps.specs.Compiler.{State, opening, run, step}
use Rattle.markdown_grammar.specs.Refusals.{ErrorAt}
use Rattle.markdown_steps.specs.Checks.{◌>>=◌}
use Rattle.markdown_grammar.specs.Refusals.{IsFaultOf}
use Rattle.markdown_grammar.specs.Document.{Source}
use Rattle.markdown_tree.specs.ContainerStates.{Stops}
use Rattle.markdown_tree.specs.States.{Fails}
use Rattle.markdown_steps.specs.Visits.{run_visits, step_visits}
use Rattle.markdown_steps.specs.Well.{Well}
use Rattle.markdown_steps.proofs.VisitCounts.{first-walks, taken-walks}
use Rattle.markdown_steps.proofs.WellKept.{well-opening, well-step}

-- an index at which there is no event is past the list
pub past_end : (es : List Event) (i : ℕ) → None ≡ slice_get es i → length es ≤ i
past_end es i h = elim (slice_get_cases es i).1 [
  | inl p ↦ (let wrong : None ≡ Some p.0 = h ∙ p.2 in absurd cc)
  | inr p ↦ p.0
]

-- what is left begins with the next event
left_at : {X : Type 0} (f : List Event → X) (es : List Event) (i : ℕ) (e : Event) → Some e ≡ slice_get es i → f (drop i es) ≡ f (e ∷ drop (i + 1) es)
left_at f es i e h = at_drop_more f es i e (slice_get_within es i e (sym h)) ∙ ap (λ (x : Event). f (x ∷ drop (i + 1) es)) (get_or_from_slice_get es i e e (sym h))

-- the run over what is left begins with the step of the next event
run_at : (s : Source) (es : List Event) (i : ℕ) (e : Event) (st : State) → Some e ≡ slice_get es i → run s (drop i es) st ≡ (step s e st >>= run s (drop (i + 1) es))
unfolding run
run_at s es i e st h = left_at (λ (xs : List Event). run s xs st) es i e h

-- where the loop stands: the run over what is left is the whole run, and each event took at most two steps, each node that was walked over one more
pub record Stands (s : Source) (es : List Event) (began count i : ℕ) (st : State) : Type 0 where
  pub same : run s (drop i es) st ≡ run s es opening
  pub counted : count + run_visits s (drop i es) st ≤ began + 2 * i + run_visits s es opening
  pub within : i ≤ length es
  pub well : Well s st

pub begins : (s : Source) (es : List Event) (began : ℕ) → Stands s es began began 0 opening
begins s es began = record { same = refl; counted = omega arith; within = omega arith; well = well-opening s }

pub goes_on : (s : Source) (es : List Event) (began count read after i : ℕ) (e : Event) (st next : State)
    → Some e ≡ slice_get es i → step s e st ≡ Ok next → read ≡ count + 1 → after ≤ read + step_visits e st + 1 → Stands s es began count i st → Stands s es began after (i + 1) next
goes_on s es began count read after i e st next at one ticked visits_at_end so_far =
    let h = so_far.counted in
    let in_list = slice_get_within es i e (sym at) in
    let left = left_at (λ (xs : List Event). run_visits s xs st) es i e at ∙ taken-walks s e (drop (i + 1) es) st next one in
    record {
      same = sym (ap (λ (r : Result State ErrorAt). r >>= run s (drop (i + 1) es)) one) ∙ sym (run_at s es i e st at) ∙ so_far.same;
      counted = omega (arith, h, ticked, visits_at_end, left);
      within = omega (arith, in_list);
      well = well-step s e st next one so_far.well;
    }

-- a step that stops ends the whole run so
pub stops_here : (stop : Stop) (fault : Fault) (p : Point) (s : Source) (es : List Event) (began count i : ℕ) (e : Event) (st : State)
    → Some e ≡ slice_get es i → Stops stop p (step s e st) → IsFaultOf stop p fault → Stands s es began count i st → Fails fault (run s es opening)
stops_here (stops.Memory error) fault p s es began count i e st at one is so_far = subst (λ (f : Fault). Fails f (run s es opening)) (sym is) tt
stops_here (stops.Refused why) (faults.Message m) p s es began count i e st at one is so_far =
    (record { error_kind = why; point = p }, sym so_far.same ∙ run_at s es i e st at ∙ ap (λ (r : Result State ErrorAt). r >>= run s (drop (i + 1) es)) one, is)
stops_here (stops.Refused why) (faults.Memory error) p s es began count i e st at one is so_far = absurd is

-- and takes no more steps than all of it
pub stops_within : (s : Source) (es : List Event) (began count read after i : ℕ) (e : Event) (st : State)
    → Some e ≡ slice_get es i → read ≡ count + 1 → after ≤ read + step_visits e st + 1 → Stands s es began count i st → after ≤ began + 2 * length es + run_visits s es opening
stops_within s es began count read after i e st at ticked visits_at_end so_far =
    let h = so_far.counted in
    let in_list = slice_get_within es i e (sym at) in
    let left = left_at (λ (xs : List Event). run_visits s xs st) es i e at in
    let first = first-walks s e (drop (i + 1) es) st in
    omega (arith, h, in_list, ticked, visits_at_end, left, first)

-- after the last event the run is done
pub is_done : (s : Source) (es : List Event) (began count i : ℕ) (st : State) → None ≡ slice_get es i → Stands s es began count i st → run s es opening ≡ Ok st
unfolding run
is_done s es began count i st at so_far = sym so_far.same ∙ at_drop_all (λ (xs : List Event). run s xs st) es i (past_end es i at)
