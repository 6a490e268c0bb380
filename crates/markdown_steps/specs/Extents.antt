-- The extent of a list of events, from the first to the last.
use Rattle.std.specs.Prelude.{List, None, Option, Some, length, slice_get, ◌-◌}
use Rattle.markdown_events.specs.Slices.{between}
use Rattle.markdown_events.specs.declared.event.Event.{Event}
use Rattle.markdown_events.specs.declared.unist.Position.{Position}
use Rattle.markdown_grammar.specs.Meaning.{nowhere}

-- the last of the events
abbrev pub last_event : List Event → Option Event
last_event events = slice_get events (length events - 1)

-- from the first event's point to the last one's
abbrev pub extent_between : Option Event → Option Event → Position
extent_between None last = nowhere
extent_between (Some first) None = nowhere
extent_between (Some first) (Some last) = between first.point last.point

-- the position of the root: from the first event to the last
abbrev pub extent_of : List Event → Position
extent_of events = extent_between (slice_get events 0) (last_event events)
