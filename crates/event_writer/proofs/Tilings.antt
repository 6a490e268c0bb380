-- One event more in a tiling.
use Rattle.std.proofs.Common.{inl, inr, Bool, List, [], ◌∷◌, ◌++◌, refl, sym, subst}
use Rattle.markdown_events.specs.Forest.{enter, exit}
use Rattle.markdown_events.specs.declared.event.Event.{Event}
use Rattle.markdown_events.specs.declared.event.Name.{Name}
use Rattle.markdown_events.specs.declared.event.Point.{Point}
use Rattle.event_writer.specs.Tilings.{Follows, IsBefore, is_enter}

-- whatever the last event was, more events may follow where they may follow any event
pub follows-on : (at : Point) (entered : Bool) (es more : List Event) (mid to : Point) → Follows at entered es mid → ((b : Bool) → Follows mid b more to) → Follows at entered (es ++ more) to
follows-on at entered [] more mid to h f = subst (λ (p : Point). Follows p entered more to) (sym h) (f entered)
follows-on at entered (e ∷ es) more mid to h f = (h.0, follows-on e.point (is_enter e.kind) es more mid to h.1 f)

pub follows-enter : (n : Name) (p : Point) (b : Bool) → Follows p b (enter n p ∷ []) p
follows-enter n p b = (inl refl, refl)

pub follows-exit : (n : Name) (p : Point) (b : Bool) → Follows p b (exit n p ∷ []) p
follows-exit n p b = (inl refl, refl)

pub follows-token : (n : Name) (a z : Point) → IsBefore a z → (b : Bool) → Follows a b (enter n a ∷ exit n z ∷ []) z
follows-token n a z h b = (inl refl, (inr (refl, refl, h), refl))
