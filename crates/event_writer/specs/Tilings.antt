-- Events whose tokens tile a document: each begins where the one before it ends.
use Rattle.std.specs.Prelude.{Bool, List, None, Option, Some, [], false, if◌then◌else◌, slice_range, true, ℕ, ◌++◌, ◌<◌, ◌∷◌, ◌≡◌, ◌≤◌, ◌⊎◌}
use Rattle.markdown_events.specs.Slices.{edge}
use Rattle.markdown_events.specs.declared.event.Event.{Event}
use Rattle.markdown_events.specs.declared.event.Kind.{Kind}
use Rattle.markdown_events.specs.declared.event.Kind.TheVariants.{Enter, Exit}
use Rattle.markdown_events.specs.declared.event.Point.{Point}

-- the point at which a document begins
abbrev pub origin : Point
origin = record { line = 1; column = 1; index = 0; vs = 0 }

-- a point is before another one or the same, by offset and virtual spaces
abbrev pub IsBefore : Point → Point → Type 0
IsBefore a b = (a.index < b.index) ⊎ ((a.index ≡ b.index) × (a.vs ≤ b.vs))

-- an event is an enter
abbrev pub is_enter : Kind → Bool
is_enter Enter = true
is_enter Exit = false

-- the events go from one point to another; the flag says whether an enter comes directly before. Each event is at the point of the
-- event before it, except the end of a token: an exit directly after an enter may be at a later point
abbrev pub Follows : Point → Bool → List Event → Point → Type 0
Follows at entered [] to = at ≡ to
Follows at entered (event ∷ events) to =
    ((event.point ≡ at) ⊎ ((entered ≡ true) × (event.kind ≡ Exit) × IsBefore at event.point)) × Follows event.point (is_enter event.kind) events to

-- ---- The tokens

-- where a token begins, if its exit comes next: at an enter
abbrev pub begun_at : Event → Option Point
begun_at event = if is_enter event.kind then Some event.point else None

-- the bytes of a token, at the exit directly after its enter; no bytes for any other event
abbrev pub token_at : List ℕ → Option Point → Kind → Point → List ℕ
token_at bytes (Some start) Exit end = slice_range bytes (edge start) (edge end)
token_at bytes _ _ end = []

-- the bytes of the tokens, joined
abbrev pub tokens_from : List ℕ → Option Point → List Event → List ℕ
tokens_from bytes before [] = []
tokens_from bytes before (event ∷ events) = token_at bytes before event.kind event.point ++ tokens_from bytes (begun_at event) events

-- the bytes of the tokens of a list, joined
abbrev pub token_bytes : List ℕ → List Event → List ℕ
token_bytes bytes events = tokens_from bytes None events
