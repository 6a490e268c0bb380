use Rattle.std.proofs.Common.{◌≡◌, ◌+◌, ◌-◌, ◌≤◌, drop, take}
use Rattle.markdown_text.specs.Contents.{AreLines, place_after}
use Rattle.markdown_text.specs.declared.content.Place.TheVariants.{AfterText}
use Rattle.markdown_text.proofs.content.content_size.Given as goal

-- the pieces so far lead to a place, and of these the last up to a text to one after it
abbrev pub invariant-loop-piece : goal.invariant-loop-piece
invariant-loop-piece l = record {
  count : l.count ≡ l.piece-index + 1;
  place : l.place ≡ place_after AfterText (take l.piece-index (drop 1 l.pieces));
  least : 1 ≤ l.size;
  most : l.size ≤ l.count;
  lines : AreLines (take (l.size - 1) (drop 1 l.pieces));
}
