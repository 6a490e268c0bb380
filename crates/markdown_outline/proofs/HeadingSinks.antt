-- What a filter has passed on, event by event.
use Rattle.markdown_events.proofs.Booleans.{and-both}
use Rattle.std.proofs.Common.{◌≡◌, Bool, true, false, not, ◌&&◌, List, [], ◌∷◌, ◌++◌, cond, refl, sym, ◌∙◌, ap, subst, append-nil}
use Rattle.markdown_events.specs.Forest.{enter, exit}
use Rattle.markdown_events.specs.declared.event.Event.{Event}
use Rattle.markdown_events.specs.declared.event.Kind.TheVariants.{Enter, Exit}
use Rattle.markdown_events.specs.declared.event.Name.{Name}
use Rattle.markdown_events.specs.declared.event.Point.{Point}
use Rattle.markdown_outline.proofs.HeadingFiltering.{after_all-append, filtered-append, loses-append}
use Rattle.markdown_outline.specs.HeadingFilter.{Standing, after_all, closed, filtered, loses_heading, loses_none, moved, outside, passes_on, with_event, within}
use Rattle.markdown_outline.specs.HeadingStandings.{HasPassed, Moves, Stays, standing}
use Rattle.markdown_outline.specs.Headings.{is_heading, is_searched}
use Rattle.markdown_outline.specs.declared.heading_filter.HeadingFilter.{HeadingFilter}

-- ---- One event

-- one more event, which is passed on if the filter says so
pub passed-more : (events passed : List Event) (e : Event) (old new : HeadingFilter) → Moves e.kind e.name old new → HasPassed events passed old
    → HasPassed (events ++ e ∷ []) (passed ++ with_event (passes_on (standing old) e.kind e.name) e []) new
passed-more events passed e old new m h = record {
  none = λ k.
      loses-append outside events (e ∷ [])
      ∙ and-both (loses_none outside events) (loses_none (after_all outside events) (e ∷ [])) (h.none (m.before k))
      (ap (λ (at : Standing). not (loses_heading at e.kind e.name) && true) (sym (h.stands (m.before k))) ∙ ap (λ (b : Bool). not b && true) (m.none k));
  stands = λ k. m.stands k ∙ ap (λ (at : Standing). moved at e.kind e.name) (h.stands (m.before k)) ∙ sym (after_all-append outside events (e ∷ []));
  passed_on = λ k.
      (λ t. h.passed_on (m.before k) t ++ with_event (passes_on (h.stands (m.before k) t) e.kind e.name) e [])
      ∙ sym (filtered-append outside events (e ∷ []));
}

-- an event that is passed on
pub passed-taken : (events passed : List Event) (e : Event) (old new : HeadingFilter) → passes_on (standing old) e.kind e.name ≡ true → Moves e.kind e.name old new → HasPassed events passed old
    → HasPassed (events ++ e ∷ []) (passed ++ e ∷ []) new
passed-taken events passed e old new p m h = subst (λ (b : Bool). HasPassed (events ++ e ∷ []) (passed ++ with_event b e []) new) p (passed-more events passed e old new m h)

-- an event that is not passed on
pub passed-left : (events passed : List Event) (e : Event) (old new : HeadingFilter) → passes_on (standing old) e.kind e.name ≡ false → Moves e.kind e.name old new → HasPassed events passed old
    → HasPassed (events ++ e ∷ []) passed new
passed-left events passed e old new p m h =
    subst (λ (xs : List Event). HasPassed (events ++ e ∷ []) xs new) (ap (λ (b : Bool). passed ++ with_event b e []) p ∙ append-nil passed) (passed-more events passed e old new m h)

-- ---- A token

-- after both its events the filter stands as before
stands-again : (at : Standing) (name : Name) → moved (moved at Enter name) Exit name ≡ at
stands-again outside name =
    elim (is_heading name) as (λ t. moved (cond t (within 0) (cond (is_searched name) outside (closed 0))) Exit name ≡ outside) [
      | true ↦ refl
      | false ↦ elim (is_searched name) as (λ u. moved (cond u outside (closed 0)) Exit name ≡ outside) [ true ↦ refl | false ↦ refl ]
    ]
stands-again (closed depth) name = refl
stands-again (within depth) name = refl

-- its exit is passed on as its enter is
passes-again : (at : Standing) (name : Name) → passes_on (moved at Enter name) Exit name ≡ passes_on at Enter name
passes-again outside name =
    elim (is_heading name) as (λ t. passes_on (cond t (within 0) (cond (is_searched name) outside (closed 0))) Exit name ≡ t) [
      | true ↦ refl
      | false ↦ elim (is_searched name) as (λ u. passes_on (cond u outside (closed 0)) Exit name ≡ false) [ true ↦ refl | false ↦ refl ]
    ]
passes-again (closed depth) name = refl
passes-again (within depth) name = refl

no-exit-loses : (at : Standing) (name : Name) → loses_heading at Exit name ≡ false
no-exit-loses outside name = refl
no-exit-loses (closed depth) name = refl
no-exit-loses (within depth) name = refl

-- both events, or none
abbrev pub if_passed : Bool → List Event → List Event
if_passed passes events = cond passes events []

both-passed : (at : Standing) (name : Name) (a b : Point) → filtered at (enter name a ∷ exit name b ∷ []) ≡ if_passed (passes_on at Enter name) (enter name a ∷ exit name b ∷ [])
both-passed at name a b =
    ap (λ (t : Bool). with_event (passes_on at Enter name) (enter name a) (with_event t (exit name b) [])) (passes-again at name)
    ∙ elim (passes_on at Enter name) as (λ t. with_event t (enter name a) (with_event t (exit name b) []) ≡ if_passed t (enter name a ∷ exit name b ∷ [])) [ true ↦ refl | false ↦ refl ]

none-lost : (at : Standing) (name : Name) (a b : Point) → loses_heading at Enter name ≡ false → loses_none at (enter name a ∷ exit name b ∷ []) ≡ true
none-lost at name a b h = (λ t. not (h t) && (not (no-exit-loses (moved at Enter name) name t) && true))

-- one more token
pub passed-token : (events passed : List Event) (name : Name) (a b : Point) (old new : HeadingFilter) → Stays name old new → HasPassed events passed old
    → HasPassed (events ++ enter name a ∷ exit name b ∷ []) (passed ++ if_passed (passes_on (standing old) Enter name) (enter name a ∷ exit name b ∷ [])) new
passed-token events passed name a b old new m h = record {
  none = λ k.
      loses-append outside events (enter name a ∷ exit name b ∷ [])
      ∙ and-both (loses_none outside events) (loses_none (after_all outside events) (enter name a ∷ exit name b ∷ [])) (h.none (m.before k))
      (none-lost (after_all outside events) name a b (ap (λ (at : Standing). loses_heading at Enter name) (sym (h.stands (m.before k))) ∙ m.none k));
  stands = λ k. m.stands ∙ h.stands (m.before k) ∙ sym (stands-again (after_all outside events) name) ∙ sym (after_all-append outside events (enter name a ∷ exit name b ∷ []));
  passed_on = λ k.
      (λ t. h.passed_on (m.before k) t ++ if_passed (passes_on (h.stands (m.before k) t) Enter name) (enter name a ∷ exit name b ∷ []))
      ∙ ap (λ (xs : List Event). filtered outside events ++ xs) (sym (both-passed (after_all outside events) name a b))
      ∙ sym (filtered-append outside events (enter name a ∷ exit name b ∷ []));
}

-- a token that is passed on
pub token-taken : (events passed : List Event) (name : Name) (a b : Point) (old new : HeadingFilter) → passes_on (standing old) Enter name ≡ true → Stays name old new → HasPassed events passed old
    → HasPassed (events ++ enter name a ∷ exit name b ∷ []) (passed ++ enter name a ∷ exit name b ∷ []) new
token-taken events passed name a b old new p m h =
    subst (λ (t : Bool). HasPassed (events ++ enter name a ∷ exit name b ∷ []) (passed ++ if_passed t (enter name a ∷ exit name b ∷ [])) new) p (passed-token events passed name a b old new m h)

-- a token that is not passed on
pub token-left : (events passed : List Event) (name : Name) (a b : Point) (old new : HeadingFilter) → passes_on (standing old) Enter name ≡ false → Stays name old new → HasPassed events passed old
    → HasPassed (events ++ enter name a ∷ exit name b ∷ []) passed new
token-left events passed name a b old new p m h =
    subst (λ (xs : List Event). HasPassed (events ++ enter name a ∷ exit name b ∷ []) xs new) (ap (λ (t : Bool). passed ++ if_passed t (enter name a ∷ exit name b ∷ [])) p ∙ append-nil passed)
    (passed-token events passed name a b old new m h)
