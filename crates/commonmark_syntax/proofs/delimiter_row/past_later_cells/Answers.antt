use Rattle.std.proofs.Common.{arith, refl, ◌∙◌}
use Rattle.commonmark_syntax.specs.Blocks.{next_delimiter_cell}
use Rattle.commonmark_syntax.proofs.Loops.{many_on, read_smaller}
use Rattle.commonmark_syntax.proofs.delimiter_row.past_later_cells.Goals as goal

pub cells-smaller : goal.cells-smaller
cells-smaller c = read_smaller next_delimiter_cell _ _ refl c.in-Some.ensures

pub cells-preserved : goal.cells-preserved
cells-preserved c = (
  omega (arith, read_smaller next_delimiter_cell c.cells.rest.now c.in-Some.tail.now refl c.in-Some.ensures, c.cells.invariant.0),
  many_on next_delimiter_cell c.cells.rest.now c.in-Some.tail.now refl c.in-Some.ensures ∙ c.cells.invariant.1,
)
