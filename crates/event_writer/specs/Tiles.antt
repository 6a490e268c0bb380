-- A place in a document, and the events up to it.
use Rattle.std.specs.Prelude.{List, false, ℕ}
use Rattle.markdown_events.specs.declared.event.Event.{Event}
use Rattle.markdown_events.specs.declared.event.Point.{Point}
use Rattle.event_writer.specs.Places.{ArePlaces}
use Rattle.event_writer.specs.Tilings.{Follows, origin}

-- a document and a place in it
pub record Placed : Type 0 where
  pub bytes : List ℕ
  pub at : Point

-- the tokens of the events tile the document up to a point, and each event is at a place of the document
pub record AreTiles (bytes : List ℕ) (events : List Event) (at : Point) : Type 0 where
  pub tiles : Follows origin false events at
  pub places : ArePlaces bytes events
