use Rattle.std.proofs.Common.{Bool, List, ◌-◌, ◌≡◌, ◌≤◌}
use Rattle.event_writer.specs.Stages.{Enclosing}
use Rattle.markdown_text.specs.AttentionWalk.{FitFrom, HasWalked, IsWalkOf, Walk}
use Rattle.markdown_text.specs.Contents.{IsAsciiPart}
use Rattle.markdown_text.specs.Opens.{HasOpen}
use Rattle.markdown_text.specs.Outputs.{GoesOn, bytes_of}
use Rattle.markdown_text.proofs.text.write_run.Given as goal

-- what is left of the run
abbrev pub invariant-markers : goal.invariant-markers
invariant-markers g l = record {
  given : l.output.writer.value.given ≡ l.fn.output.writer.value.given;
  goes_on : GoesOn l.fn.output l.output;
  at : l.output.data ≡ l.at;
  ascii : IsAsciiPart (bytes_of l.output) l.at l.token.end;
  least : l.token.start ≤ l.at;
  walks : (walk : Walk) → IsWalkOf walk l.delimiters → FitFrom walk.delimiters l.token.start l.token.end → HasWalked walk l.fn.output l.fn.open.items l.fn.output.«data» → HasWalked walk l.output l.open.items l.at;
  stage : (h : Bool) → (outer : List Enclosing) → HasOpen l.fn.output l.fn.open.items h outer → HasOpen l.output l.open.items h outer;
}

abbrev pub decreases-markers : goal.decreases-markers
decreases-markers g l = l.token.end - l.at
