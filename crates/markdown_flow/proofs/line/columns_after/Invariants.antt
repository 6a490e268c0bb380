use Rattle.std.proofs.Common.{◌≡◌, ◌≤◌, ◌+◌, ◌*◌, drop}
use Rattle.markdown_flow.specs.Lines.{columns_after}
use Rattle.markdown_flow.proofs.line.columns_after.Given as goal

abbrev pub invariant-loop-byte : goal.invariant-loop-byte
invariant-loop-byte l = record {
  most : l.end ≤ l.columns + 4 * l.byte-index;
  columns : columns_after l.end (drop l.byte-index l.text) ≡ columns_after l.columns l.text;
}
