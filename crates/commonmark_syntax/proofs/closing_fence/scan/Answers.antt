use Rattle.std.proofs.Common.{arith}
use Rattle.commonmark_syntax.specs.Blocks.{closing_fence}
use Rattle.commonmark_syntax.proofs.Runs.{closing_clear, closing_tidy}
use Rattle.commonmark_syntax.proofs.Fronts.{bytes_of}
use Rattle.commonmark_syntax.proofs.Scans.{clearly, none_exact, size_cut, size_exact, size_most}
use Rattle.commonmark_syntax.proofs.closing_fence.scan.Goals as goal

pub returns-in_err-past-clause-exact : goal.returns-in_err-past-clause-exact
returns-in_err-past-clause-exact c = none_exact (closing_fence c.args.sign c.args.opened) _ _ (clearly (closing_fence c.args.sign c.args.opened) _ (closing_clear c.args.sign c.args.opened) (bytes_of _ (λ i. omega (arith, c.type_inv.text i)))) c.in_err-past.ensures c.from_residual.ensures

pub overflow_sub-result : goal.overflow_sub-result
overflow_sub-result c = size_most (closing_fence c.args.sign c.args.opened) _ _ c.in_ok-past.ensures

pub returns-clause-exact : goal.returns-clause-exact
returns-clause-exact c = size_exact (closing_fence c.args.sign c.args.opened) _ _ (clearly (closing_fence c.args.sign c.args.opened) _ (closing_clear c.args.sign c.args.opened) (bytes_of _ (λ i. omega (arith, c.type_inv.text i)))) c.in_ok-past.ensures

pub returns-clause-cut : goal.returns-clause-cut
returns-clause-cut c = λ low. size_cut (closing_fence c.args.sign c.args.opened) _ _ (closing_tidy c.args.sign c.args.opened low) (bytes_of _ (λ i. omega (arith, c.type_inv.text i))) c.in_ok-past.ensures
