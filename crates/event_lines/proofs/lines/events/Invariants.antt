use Rattle.std.proofs.Common.{◌+◌, ◌≤◌, IfSome, length}
use Rattle.event_lines.specs.Lines.{pieces}
use Rattle.event_lines.specs.Fronts.{IsSaid}
use Rattle.event_lines.proofs.LinesLemmas.{Reads}
use Rattle.event_lines.proofs.lines.events.Given as goal

abbrev pub invariant-loop-rest : goal.invariant-loop-rest
invariant-loop-rest l = record {
  reads : Reads l.bytes l.events.items l.number (pieces 10 l.rest);
  room : l.number + length l.rest ≤ length l.bytes;
  last_point : IfSome l.last_point IsSaid;
}

abbrev pub decreases-loop-rest : goal.decreases-loop-rest
decreases-loop-rest l = length l.rest
