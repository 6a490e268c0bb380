use Rattle.std.proofs.Common.{length, ◌≡◌}
use Rattle.markdown_pieces.specs.Spans.{AreOn as ArePiecesOn}
use Rattle.markdown_pieces.specs.Tilings.{Tiles, end_from}
use Rattle.markdown_pieces.specs.Walks.{State, Walks}
use Rattle.markdown_text.specs.Contents.{spot}
use Rattle.markdown_text.specs.Spans.{IsWithin}
use Rattle.markdown_text.specs.Tasks.{IsAtPlace}
use Rattle.markdown_text.proofs.document.write_stretch.Given as goal

-- what is left begins at the cursor, and leads where all pieces do
abbrev pub invariant-pieces : goal.invariant-pieces
invariant-pieces g l = record {
  given : l.writer.value.given ≡ l.initial.writer.value.given;
  tiles : Tiles l.reading.document.now (spot l.writer.value.cursor) l.rest (end_from (spot l.initial.writer.value.cursor) l.pieces);
  nest : (s t : State) → IsAtPlace l.initial.writer.value l.initial.place s → Walks s l.pieces t → (u : State) × IsAtPlace l.writer.value l.place u × Walks u l.rest t;
  within : IsWithin l.reading.options.constructs l.writer.value;
  on : ArePiecesOn l.reading.options.constructs l.rest;
}

abbrev pub decreases-pieces : goal.decreases-pieces
decreases-pieces g l = length l.rest
