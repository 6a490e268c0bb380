use Rattle.std.proofs.Common.{◌≡◌, ◌≤◌, ◌<◌, ◌-◌, [], length}
use Rattle.markdown_flow.specs.Flows.{StandsWith, end_with}
use Rattle.markdown_flow.specs.Lines.{HasColumns}
use Rattle.markdown_flow.specs.Readers.{OpensAll}
use Rattle.markdown_flow.specs.Outputs.{source_of}
use Rattle.markdown_flow.proofs.document.Reader.lines.Given as goal

-- all is written up to the start of the next line
abbrev pub invariant-lines : goal.invariant-lines
invariant-lines l = record {
  opens : OpensAll l.self;
  stands : StandsWith l.self.flow l.self.output;
  source : source_of l.self.output ≡ source_of l.fn.self.output;
  taken : l.input.prefix.items ≡ [];
  same : l.source ≡ source_of l.fn.self.output;
  within : l.next ≤ length l.source.document.now;
  begins : l.next < length l.source.document.now → HasColumns l.source.document.now l.next 0 0;
  end : end_with l.self.flow l.self.output ≡ record { offset = l.next; virtual_spaces = 0 };
}

abbrev pub decreases-lines : goal.decreases-lines
decreases-lines l = length l.source.document.now - l.next
