use Rattle.std.proofs.Common.{arith, lit<, refl}
use Rattle.commonmark_syntax.specs.Inlines.{extended_autolink_start}
use Rattle.commonmark_syntax.proofs.Clear.{extended_autolink_start_clear}
use Rattle.commonmark_syntax.proofs.Fronts.{bytes_of}
use Rattle.commonmark_syntax.proofs.Scans.{clearly, none_exact, size_exact, size_in_line, size_least, size_most}
use Rattle.commonmark_syntax.proofs.extended_autolink_start.scan.Goals as goal

pub returns-in_err-past-clause-exact : goal.returns-in_err-past-clause-exact
returns-in_err-past-clause-exact c = none_exact extended_autolink_start _ _ (clearly extended_autolink_start _ extended_autolink_start_clear (bytes_of _ (λ i. omega (arith, c.type_inv.text i)))) c.in_err-past.ensures c.from_residual.ensures

pub overflow_sub-result : goal.overflow_sub-result
overflow_sub-result c = size_most extended_autolink_start _ _ c.in_ok-past.ensures

pub returns-clause-exact : goal.returns-clause-exact
returns-clause-exact c = size_exact extended_autolink_start _ _ (clearly extended_autolink_start _ extended_autolink_start_clear (bytes_of _ (λ i. omega (arith, c.type_inv.text i)))) c.in_ok-past.ensures

pub returns-clause-least : goal.returns-clause-least
returns-clause-least c = size_least extended_autolink_start _ _ 3 c.in_ok-past.ensures (lit< tt)

pub returns-clause-in_line : goal.returns-clause-in_line
returns-clause-in_line c = size_in_line extended_autolink_start _ _ refl c.in_ok-past.ensures
