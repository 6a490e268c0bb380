use Rattle.std.proofs.Common.{◌≡◌, ◌<◌, [], false, length}
use Rattle.event_writer.specs.Stages.{inlines}
use Rattle.markdown_flow.specs.Outputs.{Stays, WritesOn, text_of}
use Rattle.markdown_flow.proofs.gfm_table_row.write.Given as goal

-- after the last cell nothing is left of the line
abbrev pub invariant-cells : goal.invariant-cells
invariant-cells l = record {
  written : WritesOn l.initial.output l.output;
  stays : Stays (inlines false) l.initial.output l.output;
  next : 0 < length l.cell.next.now → text_of l.output ≡ l.cell.next.now;
  ended : l.cell.next.now ≡ [] → (l.output.cursor).offset ≡ ((l.output.cursor).extent).end;
}

abbrev pub decreases-cells : goal.decreases-cells
decreases-cells l = length l.cell.next.now
