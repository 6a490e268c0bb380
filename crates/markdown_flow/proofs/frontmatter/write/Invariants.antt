use Rattle.std.proofs.Common.{◌≡◌, ◌-◌, false, length}
use Rattle.event_writer.specs.Stages.{inlines}
use Rattle.markdown_flow.specs.Outputs.{Stays, Writes, source_of}
use Rattle.markdown_flow.proofs.frontmatter.write.Given as goal

-- a line is written to its end
abbrev pub invariant-lines : goal.invariant-lines
invariant-lines l = record {
  writes : Writes l.output;
  ended : (l.output.cursor).offset ≡ (l.output.cursor.extent).end;
  next : (l.output.cursor.extent).next ≡ l.line.next;
  source : source_of l.output ≡ source_of l.fn.output;
  same : l.line.source ≡ l.fn.first.source;
  stays : Stays (inlines false) l.initial.output l.output;
}

abbrev pub decreases-lines : goal.decreases-lines
decreases-lines l = length l.line.source.document.now - l.line.next
