use Rattle.std.proofs.Common.{◌≡◌, ◌++◌, drop}
use Rattle.markdown_text.specs.Contents.{joined}
use Rattle.markdown_text.proofs.content.join.Given as goal

abbrev pub invariant-loop-piece : goal.invariant-loop-piece
invariant-loop-piece l = l.bytes.items ++ joined l.document l.at (drop l.piece-index l.pieces) ≡ joined l.document l.start l.pieces
