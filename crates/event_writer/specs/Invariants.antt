-- The invariant of a recorder.
use Rattle.std.specs.Prelude.{List, Option, [], reverse, ℕ, ◌∷◌, ◌≡◌}
use Rattle.markdown_events.specs.declared.event.Event.{Event}
use Rattle.markdown_events.specs.declared.event.Name.{Name}
use Rattle.markdown_events.specs.declared.event.Point.{Point}
use Rattle.markdown_grammar.specs.Document.{source}
use Rattle.markdown_acceptance.specs.Following.{open_after}
use Rattle.markdown_acceptance.specs.Shown.{Tracks}
use Rattle.markdown_acceptance.specs.declared.open_spans.Frame.{Frame}
use Rattle.event_writer.specs.Tiles.{AreTiles}

-- the names are those of the open spans, the innermost first
abbrev pub AreNamesOf : List Frame → List Name → Type 0
AreNamesOf [] [] = Unit {0}
AreNamesOf (frame ∷ frames) (name ∷ names) = (name ≡ frame.name) × AreNamesOf frames names
AreNamesOf _ _ = ⊥

-- the steps accept the events so far, their tokens tile the document up to the cursor, and the names are those of the spans that are
-- open after them, the innermost last
pub record IsRecorded (decode : List ℕ → ℕ → Option (List ℕ)) (bytes : List ℕ) (events : List Event) (at : Point) (names : List Name) : Type 0 where
  pub tracks : Tracks (source bytes decode) events (open_after events)
  pub tiles : AreTiles bytes events at
  pub named : AreNamesOf (open_after events).frames (reverse names)
