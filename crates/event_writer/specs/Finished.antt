-- The properties of the events of a finished document.
use Rattle.std.specs.Prelude.{List, false, length, ◌≡◌}
use Rattle.markdown_events.specs.Forest.{Forest, events_of}
use Rattle.markdown_events.specs.declared.event.Event.{Event}
use Rattle.markdown_events.specs.declared.event.Point.{Point}
use Rattle.markdown_grammar.specs.Accepted.{Accepted}
use Rattle.markdown_grammar.specs.Document.{Source}
use Rattle.event_writer.specs.Places.{ArePlaces}
use Rattle.event_writer.specs.Tilings.{Follows, origin}

-- the events are those of an accepted forest, their tokens tile the document, and each event is at a place of the document
pub record IsFinished (s : Source) (events : List Event) : Type 0 where
  pub forest : Forest
  pub from_events : events_of forest ≡ events
  pub accepted : Accepted s forest
  pub end : Point
  pub tiles : Follows origin false events end
  pub whole : end.index ≡ length s.bytes
  pub places : ArePlaces s.bytes events
