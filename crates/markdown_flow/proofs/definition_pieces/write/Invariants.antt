use Rattle.std.proofs.Common.{◌≡◌, ◌-◌, Bool, length, true}
use Rattle.event_writer.specs.Stages.{flow}
use Rattle.markdown_flow.specs.Outputs.{Stays, constructs_of}
use Rattle.markdown_flow.specs.Definitions.{GoesOn, IsBeforeLine, end_before}
use Rattle.markdown_flow.proofs.definition_pieces.write.Given as goal

abbrev pub invariant-definitions : goal.invariant-definitions
invariant-definitions l = record {
  stays : (n : Bool) → Stays (flow n) l.initial.output l.output;
  before : IsBeforeLine l.writer l.output;
  on : GoesOn l.initial.writer l.writer l.initial.output l.output;
  allowed : (constructs_of l.output).definition ≡ true;
  end : end_before l.writer l.output ≡ end_before l.initial.writer l.initial.output;
}

abbrev pub decreases-definitions : goal.decreases-definitions
decreases-definitions l = length l.writer.text.now - l.writer.at
