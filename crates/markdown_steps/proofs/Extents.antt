-- From the first event to the last: of a spelling as of its forest.
use Rattle.std.proofs.Common.{◌≡◌, ℕ, ◌-◌, List, [], ◌∷◌, ◌++◌, length, Option, Some, arith, refl, sym, ap, ◌∙◌}
use Rattle.std.specs.Prelude.{slice_get}
use Rattle.markdown_events.specs.Forest.{Forest, empty, enter, exit, span, events_of}
use Rattle.markdown_events.specs.Slices.{between}
use Rattle.markdown_events.specs.declared.event.Event.{Event}
use Rattle.markdown_events.specs.declared.event.Name.{Name}
use Rattle.markdown_events.specs.declared.event.Point.{Point}
use Rattle.markdown_steps.specs.Extents.{extent_between, extent_of, last_event}
use Rattle.markdown_grammar.specs.Meaning.{extent, last_end}

last_or : Event → List Event → Event
last_or e [] = e
last_or e (d ∷ es) = last_or d es

last_at : (e : Event) (es : List Event) → slice_get (e ∷ es) (length es) ≡ Some (last_or e es)
unfolding last_or
last_at e [] = refl
last_at e (d ∷ es) = last_at d es

-- a list that is not empty has a last event
pub last-of : (e : Event) (es : List Event) → (last : Event) × (last_event (e ∷ es) ≡ Some last)
last-of e es =
    let count : length (e ∷ es) - 1 ≡ length es = omega arith in
    (last_or e es, ap (slice_get (e ∷ es)) count ∙ last_at e es)

last_after : (e d : Event) (es fs : List Event) → last_or e (es ++ (d ∷ fs)) ≡ last_or d fs
unfolding last_or
last_after e d [] fs = refl
last_after e d (x ∷ es) fs = last_after x d es fs

last_of_events : (n : Name) (p : Point) (f : Forest) → (last_or (exit n p) (events_of f)).point ≡ last_end p f
unfolding last_or
last_of_events n p empty = refl
last_of_events n p (span m a b c r) = ap (λ (x : Event). x.point) (last_after (enter m a) (exit m b) (events_of c) (events_of r)) ∙ last_of_events m b r

pub extent-is : (f : Forest) → extent_of (events_of f) ≡ extent f
extent-is empty = refl
extent-is (span n a b c r) =
    let tail = events_of c ++ (exit n b ∷ events_of r) in
    let first = enter n a in
    let count : length (first ∷ tail) - 1 ≡ length tail = omega arith in
    ap (λ (k : ℕ). extent_between (Some first) (slice_get (first ∷ tail) k)) count
    ∙ ap (λ (o : Option Event). extent_between (Some first) o) (last_at first tail)
    ∙ ap (between a) (ap (λ (x : Event). x.point) (last_after first (exit n b) (events_of c) (events_of r)) ∙ last_of_events n b r)

-- the last event ends the list
pub last_part : (es : List Event) (e : Event) → slice_get es (length es - 1) ≡ Some e → (prefix : List Event) × (es ≡ prefix ++ (e ∷ []))
last_part [] e h = absurd cc
last_part (d ∷ []) e h = ([], ap (λ (x : Event). x ∷ []) (cc))
last_part (d ∷ x ∷ es) e h =
    let shorter : length (d ∷ x ∷ es) - 1 ≡ length (x ∷ es) = omega arith in
    let same : length (x ∷ es) - 1 ≡ length es = omega arith in
    let p = last_part (x ∷ es) e (ap (slice_get (x ∷ es)) same ∙ sym (ap (slice_get (d ∷ x ∷ es)) shorter) ∙ h) in
    (d ∷ p.0, ap (λ (y : List Event). d ∷ y) p.1)
