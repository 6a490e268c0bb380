use Rattle.std.proofs.Common.{length, ◌≡◌}
use Rattle.markdown_pieces.specs.Spans.{AreOn as ArePiecesOn}
use Rattle.markdown_pieces.specs.Tilings.{Tiles, end_from}
use Rattle.markdown_pieces.specs.Walks.{State, Walks, start}
use Rattle.markdown_text.specs.Contents.{spot}
use Rattle.markdown_text.specs.Spans.{IsWithin}
use Rattle.markdown_text.specs.Tasks.{IsAtPlace}
use Rattle.markdown_text.proofs.document.write.Given as goal

-- what is left begins at the cursor, and leads from the state of the writer to the start
abbrev pub invariant-stretches : goal.invariant-stretches
invariant-stretches g l = record {
  given : l.writer.value.given ≡ l.initial.writer.value.given;
  tiles : Tiles l.reading.document.now (spot l.writer.value.cursor) l.stretch.items (end_from (spot l.initial.writer.value.cursor) l.fn.pieces.items);
  nest : (s : State) × IsAtPlace l.writer.value l.place s × Walks s l.stretch.items start;
  within : IsWithin l.reading.options.constructs l.writer.value;
  on : ArePiecesOn l.reading.options.constructs l.stretch.items;
}

abbrev pub decreases-stretches : goal.decreases-stretches
decreases-stretches g l = length l.stretch.items
