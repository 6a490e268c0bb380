-- How the cursor of a line moves.
use Rattle.std.specs.Prelude.{length, ◌<◌, ◌≡◌, ◌≤◌, ◌⊎◌}
use Rattle.markdown_flow.specs.declared.line.Line.{Line}

-- the cursor has moved forward in its line, or is where it was
pub record HasMoved (old new : Line) : Type 0 where
  pub source : new.source ≡ old.source
  pub start : new.start ≡ old.start
  pub end : new.end ≡ old.end
  pub next : new.next ≡ old.next
  pub order : (length new.rest.now < length old.rest.now) ⊎ ((length new.rest.now ≡ length old.rest.now) × (old.virtual_spaces ≤ new.virtual_spaces))
