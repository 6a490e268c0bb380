-- The output so far, and the lines that are read.
use Rattle.std.specs.Prelude.{Bool, List, nat_le, ◌&&◌, OnOk, Result, Some, [], drop, length, slice_get, slice_range, ℕ, ◌+◌, ◌++◌, ◌-◌, ◌<◌, ◌≡◌, ◌≢◌, ◌≤◌, ◌⊎◌}
use Rattle.commonmark_syntax.specs.Cuts.{IsCut}
use Rattle.event_writer.specs.Places.{after_tab, column_at}
use Rattle.event_writer.specs.Stages.{Enclosing, Stage, flow}
use Rattle.markdown_options.specs.declared.Constructs.{Constructs}
use Rattle.markdown_pieces.specs.Spans.{AreOn}
use Rattle.markdown_pieces.specs.Tilings.{Spot, Tiles, origin}
use Rattle.markdown_pieces.specs.Walks.{AreBetween, State, Walks, at, start}
use Rattle.markdown_flow.specs.Lines.{IsRest, after_spaces}
use Rattle.markdown_flow.specs.declared.input.Input.{Input}
use Rattle.markdown_flow.specs.declared.line.Line.{Line}
use Rattle.markdown_flow.specs.declared.line.Source.{Source}
use Rattle.markdown_flow.specs.declared.output.Cursor.{Cursor}
use Rattle.markdown_flow.specs.declared.output.Output.{Output}

-- the spot of a cursor
abbrev pub spot : Cursor → Spot
spot cursor = record { offset = cursor.offset; virtual_spaces = cursor.virtual_spaces }

-- the constructs that a line is read with
abbrev pub constructs_in : Line → Constructs
constructs_in line = (line.source).constructs.now

-- the text of a line is indented like code, and indented code is on
abbrev pub is_indented : Line → Bool
is_indented line = (constructs_in line).code_indented && nat_le 4 line.indent

-- the spot of the cursor of a line
abbrev pub spot_in : Line → Spot
spot_in line = record { offset = line.end - length line.rest.now; virtual_spaces = line.virtual_spaces }

-- a cursor is where the cursor of a line is
pub record IsAt (cursor : Cursor) (line : Line) : Type 0 where
  pub source : (cursor.extent).source ≡ line.source
  pub end : (cursor.extent).end ≡ line.end
  pub next : (cursor.extent).next ≡ line.next
  pub spot : spot cursor ≡ spot_in line

-- a cursor is in a line
pub record HasLine (cursor : Cursor) (line : Line) : Type 0 where
  pub source : (cursor.extent).source ≡ line.source
  pub next : (cursor.extent).next ≡ line.next

-- the cursor of a line is at a cut of the document, unless it has not moved
abbrev pub ComesToCut : Line → Line → Type 0
ComesToCut old new = spot_in new ≢ spot_in old → IsCut (new.source).document.now (new.end - length new.rest.now)

-- the start of the line after a line
abbrev pub next_of : Line → Spot
next_of line = record { offset = line.next; virtual_spaces = 0 }

-- the start of the line after that of a cursor
abbrev pub line_after : Cursor → Spot
line_after cursor = record { offset = (cursor.extent).next; virtual_spaces = 0 }

-- the cursor of a line is at this cursor or after it
pub record IsLater (cursor : Cursor) (line : Line) : Type 0 where
  pub source : (cursor.extent).source ≡ line.source
  pub end : (cursor.extent).end ≡ line.end
  pub next : (cursor.extent).next ≡ line.next
  pub order : (cursor.offset < line.end - length line.rest.now) ⊎ ((cursor.offset ≡ line.end - length line.rest.now) × (cursor.virtual_spaces ≤ line.virtual_spaces))

-- a cursor is in a line: no line ends between it and the end of the line, and if it has virtual spaces it is in a tab
pub record IsPlaceIn (cursor : Cursor) : Type 0 where
  pub rest : IsRest ((cursor.extent).source).document.now cursor.offset (cursor.extent).end (cursor.extent).next
  pub tab : 0 < cursor.virtual_spaces → (slice_get ((cursor.extent).source).document.now cursor.offset ≡ Some 9) × (column_at ((cursor.extent).source).document.now cursor.offset + cursor.virtual_spaces < after_tab (column_at ((cursor.extent).source).document.now cursor.offset))

-- the document, and the constructs that it is read with
abbrev pub source_of : Output → Source
source_of output = ((output.cursor).extent).source

-- the bytes of the document
abbrev pub document_of : Output → List ℕ
document_of output = (source_of output).document.now

-- the constructs that the document is read with
abbrev pub constructs_of : Output → Constructs
constructs_of output = (source_of output).constructs.now

-- the pieces, with the held ones between lines, tile the document up to the cursor; the constructs of the settled ones are on
pub record Stands (output : Output) : Type 0 where
  pub within : output.held_start ≤ length output.held.items
  pub tiles : Tiles (document_of output) origin (output.pieces.items ++ drop output.held_start output.held.items) (spot output.cursor)
  pub between : AreBetween output.held.items
  pub on : AreOn (constructs_of output) output.pieces.items

-- a line is being written: no pieces are held, and the cursor is in the line
pub record Writes (output : Output) : Type 0 where
  pub stands : Stands output
  pub none_held : output.held.items ≡ []
  pub from_start : output.held_start ≡ 0
  pub place : IsPlaceIn output.cursor

-- the same line is still being written
pub record WritesOn (old new : Output) : Type 0 where
  pub writes : Writes new
  pub source : source_of new ≡ source_of old
  pub end : ((new.cursor).extent).end ≡ ((old.cursor).extent).end
  pub next : ((new.cursor).extent).next ≡ ((old.cursor).extent).next

-- the line is written to its end
pub record WritesOut (old new : Output) : Type 0 where
  pub writes : Writes new
  pub source : source_of new ≡ source_of old
  pub next : ((new.cursor).extent).next ≡ ((old.cursor).extent).next
  pub ended : (new.cursor).offset ≡ ((new.cursor).extent).end

-- a line is being read: its prefix goes from a spot of the document to the line's cursor, and has only pieces that come between lines
pub record Reads (source : Source) (from : Spot) (input : Input) : Type 0 where
  pub same : (input.line).source ≡ source
  pub prefix : Tiles source.document.now from input.prefix.items (spot_in input.line)
  pub between : AreBetween input.prefix.items

-- the rest of the line that is being written
abbrev pub rest_of : Output → List ℕ
rest_of output = slice_range (document_of output) (output.cursor).offset ((output.cursor).extent).end

-- the rest of that line, without the white space at its start
abbrev pub text_of : Output → List ℕ
text_of output = after_spaces (rest_of output)

-- ---- The spans that are open

-- the settled pieces lead to a state
abbrev pub Opens : Output → State → Type 0
Opens output s = Walks start output.pieces.items s

-- output at a stage leads back to that stage
abbrev pub Stays : Stage → Output → Output → Type 0
Stays a old new = (outer : List Enclosing) → Opens old (at a outer) → Opens new (at a outer)

-- a call at a stage leads back to that stage, unless it fails
abbrev pub Keeps : {X E : Type 0} → Result X E → Stage → Output → Output → Type 0
Keeps result a old new = (outer : List Enclosing) → Opens old (at a outer) → OnOk result (Opens new (at a outer))

-- a call among blocks leads back there, unless it fails
abbrev pub KeepsFlow : {X E : Type 0} → Result X E → Output → Output → Type 0
KeepsFlow result old new = (numbered : Bool) → Keeps result (flow numbered) old new
