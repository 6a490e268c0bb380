use Rattle.std.proofs.Common.{◌≤◌, ◌-◌, length}
use Rattle.markdown_flow.specs.Lines.{IsInLine}
use Rattle.markdown_flow.proofs.line.line_size.Given as goal

abbrev pub invariant-controls : goal.invariant-controls
invariant-controls l = (l.size ≤ length l.text) × IsInLine l.text 0 l.size

abbrev pub decreases-controls : goal.decreases-controls
decreases-controls l = length l.text - l.size
