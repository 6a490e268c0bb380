use Rattle.std.proofs.Common.{arith, lit<, refl}
use Rattle.commonmark_syntax.specs.Blocks.{atx_opening}
use Rattle.commonmark_syntax.proofs.Clear.{atx_opening_clear}
use Rattle.commonmark_syntax.proofs.Runs.{atx_level}
use Rattle.commonmark_syntax.proofs.Sound.{sound}
use Rattle.commonmark_syntax.proofs.Fronts.{bytes_of}
use Rattle.commonmark_syntax.proofs.Scans.{clearly, none_exact, size_cut, size_exact, size_least, size_most}
use Rattle.commonmark_syntax.proofs.atx_opening.scan.Goals as goal

pub returns-in_err-past-clause-exact : goal.returns-in_err-past-clause-exact
returns-in_err-past-clause-exact c = none_exact atx_opening _ _ (clearly atx_opening _ atx_opening_clear (bytes_of _ (λ i. omega (arith, c.type_inv.text i)))) c.in_err-past.ensures c.from_residual.ensures

pub overflow_sub-result : goal.overflow_sub-result
overflow_sub-result c = size_most atx_opening _ _ c.in_ok-past.ensures

pub returns-clause-exact : goal.returns-clause-exact
returns-clause-exact c = size_exact atx_opening _ _ (clearly atx_opening _ atx_opening_clear (bytes_of _ (λ i. omega (arith, c.type_inv.text i)))) c.in_ok-past.ensures

pub returns-clause-least : goal.returns-clause-least
returns-clause-least c = size_least atx_opening _ _ 0 c.in_ok-past.ensures (lit< tt)

pub returns-clause-level : goal.returns-clause-level
returns-clause-level c = atx_level _ _ (sound atx_opening c.args.text.now c.in_ok-past.field-0.now c.in_ok-past.ensures)

pub returns-clause-cut : goal.returns-clause-cut
returns-clause-cut c = size_cut atx_opening _ _ refl (bytes_of _ (λ i. omega (arith, c.type_inv.text i))) c.in_ok-past.ensures
