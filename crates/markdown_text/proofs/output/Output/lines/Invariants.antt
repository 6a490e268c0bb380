use Rattle.std.proofs.Common.{List, Some, false, true, ◌≡◌, ◌-◌}
use Rattle.event_writer.specs.Stages.{Enclosing, Stage, takes_line_endings}
use Rattle.markdown_text.specs.AttentionEvents.{attention_of, is_attention}
use Rattle.markdown_text.specs.Contents.{IsRange}
use Rattle.markdown_text.specs.Outputs.{GoesOn, after_plain, bytes_of}
use Rattle.markdown_text.specs.Standings.{IsAt}
use Rattle.markdown_text.proofs.output.Output.lines.Given as goal

-- all is written up to the start of a line, or within it
abbrev pub invariant-lines : goal.invariant-lines
invariant-lines g l = record {
  given : l.self.writer.value.given ≡ l.fn.self.writer.value.given;
  goes_on : GoesOn l.fn.self l.self;
  none_waits : l.self.data ≡ l.self.at;
  range : IsRange (bytes_of l.self) l.self.at l.end;
  stage : (a : Stage) → (outer : List Enclosing) → after_plain a l.name ≡ Some a → takes_line_endings a ≡ true → IsAt l.fn.self.writer.value a outer → IsAt l.self.writer.value a outer;
  attention : is_attention l.name ≡ false → attention_of l.self ≡ attention_of l.fn.self;
}

abbrev pub decreases-lines : goal.decreases-lines
decreases-lines g l = l.end - l.self.at
