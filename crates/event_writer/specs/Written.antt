-- The state of a writer.
use Rattle.std.specs.Prelude.{List, Option, ℕ}
use Rattle.markdown_events.specs.declared.event.Event.{Event}
use Rattle.markdown_events.specs.declared.event.Point.{Point}
use Rattle.markdown_acceptance.specs.Stacks.{Stack}

-- the input of a writer: a document and a decoder; and the document that the sink of its events reads, if it reads one
pub record Given (R : Type 0) : Type 0 where
  pub bytes : List ℕ
  pub references : R
  pub sink : Option (List ℕ)

-- the input, the events so far, the point of the next one, and the open spans
pub record Written (R : Type 0) : Type 0 where
  pub given : Given R
  pub events : List Event
  pub cursor : Point
  pub spans : Stack
