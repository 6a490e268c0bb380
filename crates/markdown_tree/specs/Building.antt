-- A tree that is built event by event.
use Rattle.std.specs.Prelude.{List, None, Ok, Option, Result, Some, option_map, slice_get, ◌≡◌}
use Rattle.markdown_events.specs.declared.event.Event.{Event}
use Rattle.markdown_events.specs.declared.event.Point.{Point}
use Rattle.markdown_events.specs.declared.message.Fault.{Fault}
use Rattle.markdown_grammar.specs.Document.{Given, Source}
use Rattle.markdown_grammar.specs.Refusals.{ErrorAt}
use Rattle.markdown_steps.specs.Compiler.{State, opening, run}
use Rattle.markdown_steps.specs.Extents.{last_event}
use Rattle.markdown_tree.specs.States.{Fails, state_of}
use Rattle.markdown_tree.specs.declared.context.Context.{Context}

-- a builder: the document, the references, and the events so far
pub record Building (R : Type 0) : Type 0 where
  pub document : Given
  pub references : R
  pub events : List Event

-- the point of an event, if there is one
abbrev pub point_in : Option Event → Option Point
point_in event = option_map (λ e. e.point) event

-- the points are those of the first event and of the last one
pub record ArePointsOf (events : List Event) (first last : Option Point) : Type 0 where
  pub first_is : first ≡ point_in (slice_get events 0)
  pub last_is : last ≡ point_in (last_event events)

-- a context has the state that was expected, or there is a fault that agrees with what was
abbrev pub HasState : Context → Option Fault → Result State ErrorAt → Type 0
HasState context None expected = expected ≡ Ok (state_of context)
HasState context (Some fault) expected = Fails fault expected

-- the context is what the steps make of the events, unless they refuse one or memory ran out
abbrev pub IsBuilt : Source → List Event → Context → Option Fault → Type 0
IsBuilt s events context fault = HasState context fault (run s events opening)
