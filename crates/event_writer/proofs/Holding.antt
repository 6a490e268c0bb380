-- What a writer keeps.
use Rattle.std.proofs.Common.{Bool, List, [], ap, append_assoc, false, length, refl, subst, sym, true, ◌++◌, ◌<◌, ◌^◌, ◌∙◌, ◌∷◌, ◌≡◌, ℕ}
use Rattle.markdown_events.specs.Forest.{enter, exit}
use Rattle.markdown_events.specs.declared.event.Event.{Event}
use Rattle.markdown_events.specs.declared.event.Name.{Name}
use Rattle.markdown_events.specs.declared.event.Point.{Point}
use Rattle.markdown_grammar.specs.Document.{Source}
use Rattle.markdown_acceptance.proofs.Accepting.{tracked-accepted}
use Rattle.markdown_acceptance.proofs.Leading.{leads-enter, leads-exit, leads-token, tracks-on}
use Rattle.markdown_acceptance.specs.Calls.{AfterToken, Closed, Opened, exit_of, may_close, may_open, may_write}
use Rattle.markdown_acceptance.specs.Shown.{AreAccepted, Leads, Tracks}
use Rattle.markdown_acceptance.specs.Stacks.{Stack}
use Rattle.event_writer.proofs.Tilings.{follows-enter, follows-exit, follows-on, follows-token}
use Rattle.event_writer.specs.Finished.{IsFinished}
use Rattle.event_writer.specs.Places.{ArePlaces, IsPlace}
use Rattle.event_writer.specs.Tilings.{Follows, IsBefore, origin}
use Rattle.event_writer.specs.Tiles.{AreTiles}

-- ---- The tokens tile the document up to the cursor

places-on : (bytes : List ℕ) (es more : List Event) → ArePlaces bytes es → ArePlaces bytes more → ArePlaces bytes (es ++ more)
places-on bytes [] more h k = k
places-on bytes (e ∷ es) more h k = (h.0, places-on bytes es more h.1 k)

tiles-on : (bytes : List ℕ) (es added more : List Event) (a z : Point) → AreTiles bytes es a → ((b : Bool) → Follows a b more z) → ArePlaces bytes more → added ≡ es ++ more → AreTiles bytes added z
tiles-on bytes es added more a z h f p is = subst (λ (xs : List Event). AreTiles bytes xs z) (sym is) (record {
  tiles = follows-on origin false es more a z h.tiles f;
  places = places-on bytes es more h.places p;
})

pub tiles-none : (bytes : List ℕ) (events : List Event) → events ≡ [] → AreTiles bytes events origin
tiles-none bytes events none = subst (λ (es : List Event). AreTiles bytes es origin) (sym none) (record { tiles = refl; places = tt })

pub tiles-enter : (bytes : List ℕ) (es added : List Event) (n : Name) (a : Point) → AreTiles bytes es a → IsPlace bytes a → added ≡ es ++ enter n a ∷ [] → AreTiles bytes added a
tiles-enter bytes es added n a h here is = tiles-on bytes es added (enter n a ∷ []) a a h (follows-enter n a) (here, tt) is

pub tiles-exit : (bytes : List ℕ) (es added : List Event) (n : Name) (a : Point) → AreTiles bytes es a → IsPlace bytes a → added ≡ es ++ exit n a ∷ [] → AreTiles bytes added a
tiles-exit bytes es added n a h here is = tiles-on bytes es added (exit n a ∷ []) a a h (follows-exit n a) (here, tt) is

pub tiles-token : (bytes : List ℕ) (es added : List Event) (n : Name) (a z : Point) → AreTiles bytes es a → IsPlace bytes a → IsBefore a z → IsPlace bytes z → added ≡ es ++ enter n a ∷ exit n z ∷ [] → AreTiles bytes added z
tiles-token bytes es added n a z h here before place is = tiles-on bytes es added (enter n a ∷ exit n z ∷ []) a z h (follows-token n a z before) (here, (place, tt)) is

-- a token is pushed as an enter and an exit
pub both-pushed : (es entered pushed : List Event) (n : Name) (a z : Point) → entered ≡ es ++ enter n a ∷ [] → pushed ≡ entered ++ exit n z ∷ [] → pushed ≡ es ++ enter n a ∷ exit n z ∷ []
both-pushed es entered pushed n a z first second = second ∙ ap (λ (xs : List Event). xs ++ exit n z ∷ []) first ∙ append_assoc es (enter n a ∷ []) (exit n z ∷ [])

-- ---- The open spans track the events

tracks-more : (s : Source) (es added more : List Event) (old new : Stack) → Tracks s es old → Leads s more old new → added ≡ es ++ more → Tracks s added new
tracks-more s es added more old new h leads is = subst (λ (xs : List Event). Tracks s xs new) (sym is) (tracks-on s es more old new h leads)

pub tracks-enter : (s : Source) (es added : List Event) (n : Name) (old new : Stack) (a : Point) → Tracks s es old → may_open s.bytes old n a ≡ true → Opened n a old new → added ≡ es ++ enter n a ∷ [] → Tracks s added new
tracks-enter s es added n old new a h may opened is = tracks-more s es added (enter n a ∷ []) old new h (leads-enter s n a old new may opened) is

pub tracks-exit : (s : Source) (es added : List Event) (n : Name) (old new : Stack) (a : Point) → Tracks s es old → may_close s old a ≡ true → Closed old new → exit_of old a ≡ exit n a ∷ [] → added ≡ es ++ exit n a ∷ [] → Tracks s added new
tracks-exit s es added n old new a h may closed exits is = tracks-more s es added (exit n a ∷ []) old new h (subst (λ (xs : List Event). Leads s xs old new) exits (leads-exit s a old new may closed)) is

pub tracks-token : (s : Source) (es added : List Event) (n : Name) (old new : Stack) (a z : Point) → Tracks s es old → may_write s old n a z ≡ true → AfterToken n old new → added ≡ es ++ enter n a ∷ exit n z ∷ [] → Tracks s added new
tracks-token s es added n old new a z h may written is = tracks-more s es added (enter n a ∷ exit n z ∷ []) old new h (leads-token s n a z old new may written) is

-- all of a document is written, and nothing is left open
pub tracks-finished : (s : Source) (es : List Event) (spans : Stack) (end : Point) → Tracks s es spans → AreTiles s.bytes es end → spans.frames ≡ [] → (spans.site).after_break ≡ false → end.index ≡ length s.bytes → IsFinished s es
tracks-finished s es spans end h tiles frames waits whole =
    let m : AreAccepted s es = tracked-accepted s es spans h frames waits in
    record { forest = m.forest; from_events = m.from_events; accepted = m.accepted; end = end; tiles = tiles.tiles; whole = whole; places = tiles.places }
