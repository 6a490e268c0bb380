use Rattle.std.proofs.Common.{◌≡◌, ◌≤◌, ◌+◌, ◌*◌, drop}
use Rattle.markdown_flow.specs.Lines.{indentation}
use Rattle.markdown_flow.proofs.line.indent_of.Given as goal

abbrev pub invariant-loop-byte : goal.invariant-loop-byte
invariant-loop-byte l = record {
  least : l.columns ≤ l.end;
  most : l.end ≤ l.columns + 4 * l.byte-index;
  width : l.end + indentation l.end (drop l.byte-index l.text) ≡ l.columns + indentation l.columns l.text;
}
