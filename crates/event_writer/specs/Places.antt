-- The line and the column of a point in a document (CommonMark, line endings and tab stops of 4).
-- Columns count bytes, except that a tab goes to the next stop.
use Rattle.std.specs.Prelude.{Bool, List, Some, [], false, if◌then◌else◌, length, not, slice_get, suc, zero, ℕ, ◌&&◌, ◌*◌, ◌+◌, ◌/◌, ◌<◌, ◌==◌, ◌||◌, ◌∷◌, ◌≡◌, ◌≤◌}
use Rattle.markdown_events.specs.declared.event.Event.{Event}
use Rattle.markdown_events.specs.declared.event.Point.{Point}

-- the next byte is an LF
abbrev pub feeds : List ℕ → Bool
feeds [] = false
feeds (b ∷ bs) = b == 10

-- a line ends with this byte, given the bytes after it: with an LF, or with a CR that no LF follows
abbrev pub ends_line : ℕ → List ℕ → Bool
ends_line b rest = (b == 10) || ((b == 13) && not (feeds rest))

-- the line after a byte
abbrev pub next_line : ℕ → List ℕ → ℕ → ℕ
next_line b rest line = if ends_line b rest then line + 1 else line

-- the column after a tab that starts at a column: 5, 9, 13 and so on
abbrev pub after_tab : ℕ → ℕ
after_tab column = ((column + 3) / 4) * 4 + 1

-- the column after a byte
abbrev pub next_column : ℕ → List ℕ → ℕ → ℕ
next_column b rest column = if ends_line b rest then 1 else (if b == 9 then after_tab column else column + 1)

-- the line and the column after this many bytes
unfoldable pub walk : ℕ → ℕ → List ℕ → ℕ → ℕ × ℕ
walk line column bs zero = (line, column)
walk line column [] (suc i) = (line, column)
walk line column (b ∷ bs) (suc i) = walk (next_line b bs line) (next_column b bs column) bs i

-- the line of an offset
abbrev pub line_at : List ℕ → ℕ → ℕ
line_at bs i = (walk 1 1 bs i).0

-- the column of an offset
abbrev pub column_at : List ℕ → ℕ → ℕ
column_at bs i = (walk 1 1 bs i).1

-- a point is a place of the document: its line and column are those of its offset, plus its virtual spaces;
-- a point with virtual spaces is within a tab
pub record IsPlace (bytes : List ℕ) (p : Point) : Type 0 where
  pub within : p.index ≤ length bytes
  pub line : p.line ≡ line_at bytes p.index
  pub column : p.column ≡ column_at bytes p.index + p.vs
  pub tab : 0 < p.vs → (slice_get bytes p.index ≡ Some 9) × (p.column < after_tab (column_at bytes p.index))

-- each event is at a place of the document
abbrev pub ArePlaces : List ℕ → List Event → Type 0
ArePlaces bytes [] = Unit {0}
ArePlaces bytes (event ∷ events) = IsPlace bytes event.point × ArePlaces bytes events
