use Rattle.std.proofs.Common.{◌≡◌, ◌++◌, ◌≤◌, drop, slice_range}
use Rattle.markdown_text.specs.Contents.{joined}
use Rattle.markdown_text.proofs.content.range_end.Given as goal

abbrev pub invariant-loop-piece : goal.invariant-loop-piece
invariant-loop-piece l = record {
  order : l.start ≤ l.at;
  so_far : slice_range l.document l.start l.at ++ joined l.document l.at (drop l.piece-index l.pieces) ≡ joined l.document l.start l.pieces;
}
