use Rattle.std.proofs.Common.{◌≡◌, ◌≤◌, Some, true}
use Rattle.event_writer.specs.Stages.{Stage, takes_line_endings}
use Rattle.markdown_flow.specs.Outputs.{Stays}
use Rattle.markdown_pieces.specs.Walks.{stage_after}
use Rattle.markdown_flow.specs.Definitions.{GoesOn, IsInText, end_in}
use Rattle.markdown_flow.proofs.definition_pieces.PartWriter.part.Given as goal

abbrev pub invariant-loop : goal.invariant-loop
invariant-loop l = record {
  stays : (a : Stage) → takes_line_endings a ≡ true → stage_after a l.kind ≡ Some a → Stays a l.initial.output l.output;
  text : IsInText l.self l.output;
  on : GoesOn l.initial.self l.self l.initial.output l.output;
  order : l.initial.self.at ≤ l.self.at;
  end : end_in l.self l.output ≡ end_in l.initial.self l.initial.output;
}
