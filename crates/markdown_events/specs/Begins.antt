-- Spans that begin at an index in a list of events.
use Rattle.std.specs.Prelude.{ℕ, suc, ◌≡◌, ◌+◌, List, ◌++◌, drop, length, IsTrue, Some, slice_get, ◌⊎◌}
use Rattle.std.specs.Option.{option_map}
use Rattle.markdown_events.specs.declared.event.Event.{Event}
use Rattle.markdown_events.specs.declared.event.Name.{Name}
use Rattle.markdown_events.specs.declared.event.Name.TheVariants as names
use Rattle.markdown_events.specs.declared.event.Point.{Point}
use Rattle.markdown_events.specs.Forest.{Forest, empty, span, events_of, is_well_formed}

-- from this index on, the events begin with those of the forest
abbrev pub HasEventsAt : List Event → ℕ → Forest → Type 0
HasEventsAt events index forest = (more : List Event) × (drop index events ≡ events_of forest ++ more)

-- the events from one index to another, both included, are those of one well-formed span
abbrev pub SpanAt : List Event → ℕ → ℕ → Type 0
SpanAt events index last =
    (name : Name) × (start : Point) × (end : Point) × (children : Forest)
    × HasEventsAt events index (span name start end children empty)
    × IsTrue (is_well_formed (span name start end children empty))
    × (index + length (events_of (span name start end children empty)) ≡ suc last)

-- a well-formed span begins at this index
abbrev pub Begins : List Event → ℕ → Type 0
Begins events index = (last : ℕ) × SpanAt events index last

-- a well-formed span with these children begins at this index
abbrev pub BeginsWith : List Event → ℕ → Forest → Type 0
BeginsWith events index children =
    (name : Name) × (start : Point) × (end : Point)
    × HasEventsAt events index (span name start end children empty)
    × IsTrue (is_well_formed (span name start end children empty))

-- the event at this index has this name
abbrev pub IsNameAt : List Event → ℕ → Name → Type 0
IsNameAt events index name = option_map (λ (event : Event). event.name) (slice_get events index) ≡ Some name

-- the event at this index has the name of a list item
abbrev pub IsItemAt : List Event → ℕ → Type 0
IsItemAt events index = IsNameAt events index names.ListItem

-- the event at this index has the name of a list
abbrev pub IsListAt : List Event → ℕ → Type 0
IsListAt events index = IsNameAt events index names.ListOrdered ⊎ IsNameAt events index names.ListUnordered

-- the event at this index has the name of a table
abbrev pub IsTableAt : List Event → ℕ → Type 0
IsTableAt events index = IsNameAt events index names.GfmTable
