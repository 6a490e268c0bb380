use Rattle.std.proofs.Common.{◌≡◌, ◌≤◌, ◌<◌, ◌+◌, ◌⊎◌, length}
use Rattle.markdown_flow.specs.Lines.{after_spaces, indentation}
use Rattle.markdown_flow.proofs.Lines.{Stands}
use Rattle.markdown_flow.proofs.line.Line.skip_columns.Given as goal

abbrev pub invariant-bytes : goal.invariant-bytes
invariant-bytes l = record {
  stands : Stands l.self.source.document.now l.self.start l.self.end l.rest l.virtual_spaces l.before;
  text : l.self.text.now ≡ after_spaces l.rest;
  indent : indentation l.before l.rest + l.moved ≡ l.self.indent + l.left;
  left : l.left ≤ l.moved;
  order : (length l.rest < length l.self.rest.now) ⊎ ((length l.rest ≡ length l.self.rest.now) × (l.self.virtual_spaces ≤ l.virtual_spaces));
}

abbrev pub decreases-bytes : goal.decreases-bytes
decreases-bytes l = length l.rest
