-- A reader that counts its steps, as contracts see it.
use Rattle.std.specs.Prelude.{ℕ, List}
use Rattle.markdown_events.specs.declared.event.Event.{Event}

-- the events, and the number of steps taken over them
pub record Counted : Type 0 where
  pub events : List Event
  pub count : ℕ
