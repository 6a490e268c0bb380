use Rattle.std.proofs.Common.{◌≡◌, ◌<◌, [], length}
use Rattle.std.specs.Str.{IsAscii}
use Rattle.event_writer.specs.Stages.{delimiter_row}
use Rattle.markdown_flow.specs.Outputs.{Stays, WritesOn, text_of}
use Rattle.markdown_flow.proofs.gfm_table.write_delimiter_row.Given as goal

-- after the last cell nothing is left of the line
abbrev pub invariant-cells : goal.invariant-cells
invariant-cells l = record {
  written : WritesOn l.initial.output l.output;
  stays : Stays delimiter_row l.initial.output l.output;
  ascii : 0 < length l.cell.next.now → IsAscii (text_of l.output);
  ended : l.cell.next.now ≡ [] → (l.output.cursor).offset ≡ ((l.output.cursor).extent).end;
}

abbrev pub decreases-cells : goal.decreases-cells
decreases-cells l = length l.cell.next.now
