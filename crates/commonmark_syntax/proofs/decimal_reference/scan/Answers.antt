use Rattle.std.proofs.Common.{arith, lit<, refl}
use Rattle.commonmark_syntax.specs.Inlines.{decimal_reference}
use Rattle.commonmark_syntax.proofs.Clear.{decimal_reference_clear}
use Rattle.commonmark_syntax.proofs.Fronts.{bytes_of}
use Rattle.commonmark_syntax.proofs.Scans.{clearly, none_exact, size_ascii, size_cut, size_exact, size_in_line, size_least, size_most}
use Rattle.commonmark_syntax.proofs.decimal_reference.scan.Goals as goal

pub returns-in_err-past-clause-exact : goal.returns-in_err-past-clause-exact
returns-in_err-past-clause-exact c = none_exact decimal_reference _ _ (clearly decimal_reference _ decimal_reference_clear (bytes_of _ (λ i. omega (arith, c.type_inv.text i)))) c.in_err-past.ensures c.from_residual.ensures

pub overflow_sub-result : goal.overflow_sub-result
overflow_sub-result c = size_most decimal_reference _ _ c.in_ok-past.ensures

pub returns-clause-exact : goal.returns-clause-exact
returns-clause-exact c = size_exact decimal_reference _ _ (clearly decimal_reference _ decimal_reference_clear (bytes_of _ (λ i. omega (arith, c.type_inv.text i)))) c.in_ok-past.ensures

pub returns-clause-least : goal.returns-clause-least
returns-clause-least c = size_least decimal_reference _ _ 3 c.in_ok-past.ensures (lit< tt)

pub returns-clause-cut : goal.returns-clause-cut
returns-clause-cut c = size_cut decimal_reference _ _ refl (bytes_of _ (λ i. omega (arith, c.type_inv.text i))) c.in_ok-past.ensures

pub returns-clause-in_line : goal.returns-clause-in_line
returns-clause-in_line c = size_in_line decimal_reference _ _ refl c.in_ok-past.ensures

pub returns-clause-ascii : goal.returns-clause-ascii
returns-clause-ascii c = size_ascii decimal_reference _ _ refl (bytes_of _ (λ i. omega (arith, c.type_inv.text i))) c.in_ok-past.ensures
