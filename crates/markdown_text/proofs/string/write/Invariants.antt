use Rattle.std.proofs.Common.{Bool, List, length, slice_range, ◌≡◌, ◌+◌}
use Rattle.event_writer.specs.Stages.{Enclosing, inlines}
use Rattle.markdown_text.specs.Contents.{IsRange}
use Rattle.markdown_text.specs.Outputs.{GoesOn, bytes_of}
use Rattle.markdown_text.specs.Standings.{IsAt}
use Rattle.markdown_text.proofs.string.write.Given as goal

-- what is left of the string comes after the data that waits
abbrev pub invariant-tokens : goal.invariant-tokens
invariant-tokens g l = record {
  given : l.output.writer.value.given ≡ l.fn.output.writer.value.given;
  goes_on : GoesOn l.fn.output l.output;
  rest : l.rest ≡ slice_range (bytes_of l.fn.output) l.output.data l.end;
  size : l.output.data + length l.rest ≡ l.end;
  range : IsRange (bytes_of l.fn.output) l.output.data l.end;
  at : (h : Bool) → (outer : List Enclosing) → IsAt l.fn.output.writer.value (inlines h) outer → IsAt l.output.writer.value (inlines h) outer;
}

abbrev pub decreases-tokens : goal.decreases-tokens
decreases-tokens g l = length l.rest
