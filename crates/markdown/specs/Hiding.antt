-- Whether events hide the bytes of a document that they are expected to hide, event by event.
use Rattle.std.specs.Prelude.{Bool, List, [], false, length, ℕ, ◌++◌, ◌∷◌, ◌≡◌}
use Rattle.markdown_events.specs.declared.event.Event.{Event}
use Rattle.markdown_events.specs.declared.event.Kind.{Kind}
use Rattle.markdown_events.specs.declared.event.Name.{Name}
use Rattle.markdown.specs.Hidden.{cell_after, flags_at, hidden_by, hidden_from, labels_after}
use Rattle.markdown.specs.declared.hiding.Hiding.{Hiding}

-- the number of open labels after events
abbrev pub labels_in : ℕ → List Event → ℕ
labels_in labels [] = labels
labels_in labels (e ∷ events) = labels_in (labels_after labels e.kind e.name) events

-- the start of the cell that is open after events, or was open last
abbrev pub cell_in : ℕ → List Event → ℕ
cell_in start [] = start
cell_in start (e ∷ events) = cell_in (cell_after start e.kind e.name e.point.index) events

-- what an event does: if nothing differs after it, nothing did before it, and what it hides is what was expected first
pub record Passes (bytes : List ℕ) (kind : Kind) (name : Name) (index : ℕ) (old new : Hiding) : Type 0 where
  pub cell : new.cell ≡ cell_after old.cell kind name index
  pub before : new.differs ≡ false → old.differs ≡ false
  pub labels : new.differs ≡ false → new.labels ≡ labels_after old.labels kind name
  pub expected : new.differs ≡ false → old.expected.now ≡ hidden_by bytes old.labels old.cell kind name index ++ new.expected.now

-- what is known after events: if nothing differs, the flags are those of what the events hide and what is expected after them
pub record Tells (bytes : List ℕ) (flags : List Bool) (events : List Event) (hiding : Hiding) : Type 0 where
  pub cell : hiding.cell ≡ cell_in 0 events
  pub labels : hiding.differs ≡ false → hiding.labels ≡ labels_in 0 events
  pub hidden : hiding.differs ≡ false → flags ≡ flags_at (length bytes) (hidden_from bytes 0 0 events ++ hiding.expected.now)
