use Rattle.std.proofs.Common.{arith, refl}
use Rattle.commonmark_syntax.specs.Blocks.{delimiter_cells}
use Rattle.commonmark_syntax.proofs.Ascii.{ascii_match}
use Rattle.commonmark_syntax.proofs.Fronts.{bytes_of}
use Rattle.commonmark_syntax.proofs.delimiter_row.is_row.Goals as goal

pub returns-then-are_cells-clause-ascii : goal.returns-then-are_cells-clause-ascii
returns-then-are_cells-clause-ascii c is = ascii_match delimiter_cells c.args.text.now refl (bytes_of _ (λ i. omega (arith, c.type_inv.text i))) (c.are_cells.ensures.yes c.if-are_cells.true)
