use Rattle.std.proofs.Common.{◌-◌}
use Rattle.std.specs.Str.{IsAscii}
use Rattle.event_writer.specs.Stages.{Stage}
use Rattle.markdown_flow.specs.Outputs.{Stays, WritesOn, rest_of}
use Rattle.markdown_flow.proofs.thematic_break.write.Given as goal

abbrev pub invariant-runs : goal.invariant-runs
invariant-runs l = record {
  written : WritesOn l.initial.output l.output;
  ascii : IsAscii (rest_of l.output);
  stays : (a : Stage) → Stays a l.initial.output l.output;
}

abbrev pub decreases-runs : goal.decreases-runs
decreases-runs l = ((l.output.cursor).extent).end - (l.output.cursor).offset
