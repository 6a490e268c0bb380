use Rattle.std.proofs.Common.{arith}
use Rattle.commonmark_syntax.specs.Blocks.{delimiter_cells}
use Rattle.commonmark_syntax.proofs.Fronts.{bytes_of}
use Rattle.commonmark_syntax.proofs.Rows.{row_exact}
use Rattle.commonmark_syntax.proofs.Scans.{none_whole, not_whole, whole}
use Rattle.commonmark_syntax.proofs.delimiter_row.are_cells.Goals as goal

pub returns-in-Some-clause-yes : goal.returns-in-Some-clause-yes
returns-in-Some-clause-yes c = whole delimiter_cells c.args.text.now c.in-Some.rest.now c.is_empty.result c.in-Some.ensures c.is_empty.ensures

pub returns-in-Some-clause-no : goal.returns-in-Some-clause-no
returns-in-Some-clause-no c = not_whole delimiter_cells c.args.text.now c.in-Some.rest.now c.is_empty.result (row_exact _ (bytes_of _ (λ i. omega (arith, c.type_inv.text i)))) c.in-Some.ensures c.is_empty.ensures

pub returns-in-None-clause-no : goal.returns-in-None-clause-no
returns-in-None-clause-no c = λ _. none_whole delimiter_cells c.args.text.now (row_exact _ (bytes_of _ (λ i. omega (arith, c.type_inv.text i)))) c.in-None.ensures
