use Rattle.std.proofs.Common.{Bool, List, ◌≡◌}
use Rattle.event_writer.specs.Stages.{Enclosing, inlines}
use Rattle.markdown_text.specs.AttentionEvents.{attention_of}
use Rattle.markdown_text.specs.Contents.{IsPart}
use Rattle.markdown_text.specs.Outputs.{GoesOn, bytes_of}
use Rattle.markdown_text.specs.Standings.{IsAt}
use Rattle.markdown_text.proofs.gfm_autolink_literal_email.write.Given as goal

-- what is left of the data stands in a line
abbrev pub invariant-loop : goal.invariant-loop
invariant-loop g l = record {
  given : l.output.writer.value.given ≡ l.fn.output.writer.value.given;
  goes_on : GoesOn l.fn.output l.output;
  part : IsPart (bytes_of l.output) l.output.at l.end;
  at : (h : Bool) → (outer : List Enclosing) → IsAt l.fn.output.writer.value (inlines h) outer → IsAt l.output.writer.value (inlines h) outer;
  attention : attention_of l.output ≡ attention_of l.fn.output;
}
