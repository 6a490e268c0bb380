use Rattle.std.proofs.Common.{arith, refl, ◌+◌}
use Rattle.markdown_flow.proofs.Cursors.{columns-below, text-again, text-indentation, text-order, text-stands}
use Rattle.markdown_flow.proofs.line.Line.skip_white_space.Goals as goal

pub overflow_add-self : goal.overflow_add-self
overflow_add-self c =
    let line = c.args.self.now in
    omega (arith, columns-below line line.text.now 0 (line.columns + line.indent) (text-stands line))

pub invariant_of-self : goal.invariant_of-self
invariant_of-self c =
    let line = c.args.self.now in
    let at = text-stands line in
    record {
      whole = line.whole;
      later = line.later;
      rest_fits = at.fits;
      rest_stands = at.before;
      text_rests = text-again line;
      has_columns = at.place;
      has_indent = text-indentation line (line.columns + line.indent);
      tail_exact = line.tail_exact;
    }

pub returns-clause-moved : goal.returns-clause-moved
returns-clause-moved c = record { source = refl; start = refl; end = refl; next = refl; order = text-order c.args.self.now }
