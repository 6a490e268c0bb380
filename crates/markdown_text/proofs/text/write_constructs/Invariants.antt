use Rattle.std.proofs.Common.{[], Bool, List, length, vec_len, ◌≡◌}
use Rattle.event_writer.specs.Stages.{Enclosing}
use Rattle.markdown_text.specs.AttentionEvents.{attention_of}
use Rattle.markdown_text.specs.AttentionRuns.{HasNoClosing}
use Rattle.markdown_text.specs.Opens.{HasOpen}
use Rattle.markdown_text.specs.Outputs.{GoesOn, IsAtText, bytes_of}
use Rattle.markdown_text.proofs.text.write_constructs.Given as goal

-- all is written, or waits as data
abbrev pub invariant-open : goal.invariant-open
invariant-open g l = record {
  given : l.output.writer.value.given ≡ l.initial.output.writer.value.given;
  goes_on : GoesOn l.initial.output l.output;
  ended : l.output.data ≡ length (bytes_of l.output);
  spans : HasNoClosing l.source.bytes.now → (l.lists.open.items ≡ []) × (attention_of l.output ≡ attention_of l.initial.output);
  stage : (h : Bool) → (outer : List Enclosing) → IsAtText l.is_task l.fn.writer.value h outer → HasOpen l.output l.lists.open.items h outer;
}

abbrev pub decreases-open : goal.decreases-open
decreases-open g l = vec_len l.lists.open
