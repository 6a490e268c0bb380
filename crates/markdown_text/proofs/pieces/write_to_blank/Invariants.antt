use Rattle.std.proofs.Common.{Bool, List, length, ◌≡◌}
use Rattle.event_writer.specs.Stages.{Enclosing, inlines}
use Rattle.markdown_options.specs.declared.Constructs.{Constructs}
use Rattle.markdown_pieces.specs.Tilings.{Tiles, end_from}
use Rattle.markdown_text.specs.AttentionEvents.{attention_events}
use Rattle.markdown_text.specs.Contents.{IsContent, joined, spot}
use Rattle.markdown_text.specs.Spans.{IsWithin}
use Rattle.markdown_text.specs.Standings.{IsAt}
use Rattle.markdown_text.proofs.pieces.write_to_blank.Given as goal

-- what is left is a content, with the bytes of all
abbrev pub invariant-pieces : goal.invariant-pieces
invariant-pieces g l = record {
  given : l.writer.given ≡ l.initial.writer.given;
  content : IsContent l.rest;
  tiles : Tiles l.initial.writer.given.bytes (spot l.writer.cursor) l.rest (end_from (spot l.initial.writer.cursor) l.pieces);
  at : (h : Bool) → (outer : List Enclosing) → IsAt l.initial.writer (inlines h) outer → IsAt l.writer (inlines h) outer;
  bytes : joined l.initial.writer.given.bytes l.writer.cursor.index l.rest ≡ joined l.initial.writer.given.bytes l.initial.writer.cursor.index l.pieces;
  within : (c : Constructs) → IsWithin c l.initial.writer → IsWithin c l.writer;
  attention : attention_events l.writer.events ≡ attention_events l.initial.writer.events;
}

abbrev pub decreases-pieces : goal.decreases-pieces
decreases-pieces g l = length l.rest
