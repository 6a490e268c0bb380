-- The steps of a compilation.
use Rattle.std.specs.Prelude.{ℕ, List, length, Option, Some, None}
use Rattle.markdown_events.specs.declared.event.Event.{Event}

-- reading an event is one step, reading past the end of the list is none
abbrev pub steps_of : {X : Type 0} → Option X → ℕ
steps_of None = 0
steps_of (Some event) = 1

-- the number of events in a list
abbrev pub event_count : List Event → ℕ
event_count events = length events
