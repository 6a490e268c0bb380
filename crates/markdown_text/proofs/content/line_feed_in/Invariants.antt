use Rattle.std.proofs.Common.{◌≡◌}
use Rattle.commonmark_syntax.specs.Cuts.{IsInLine}
use Rattle.markdown_text.proofs.content.line_feed_in.Given as goal

-- no line feed stands in the bytes so far
abbrev pub invariant-loop-byte : goal.invariant-loop-byte
invariant-loop-byte l = record {
  size : l.size ≡ l.byte-index;
  line : IsInLine l.text l.size;
}
