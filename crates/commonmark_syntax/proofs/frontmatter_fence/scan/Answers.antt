use Rattle.std.proofs.Common.{arith}
use Rattle.commonmark_syntax.specs.Blocks.{frontmatter_fence}
use Rattle.commonmark_syntax.proofs.Runs.{frontmatter_clear, frontmatter_size, frontmatter_tidy}
use Rattle.commonmark_syntax.proofs.Sound.{sound}
use Rattle.commonmark_syntax.proofs.Fronts.{bytes_of}
use Rattle.commonmark_syntax.proofs.Scans.{clearly, none_exact, size_cut, size_exact, size_most}
use Rattle.commonmark_syntax.proofs.frontmatter_fence.scan.Goals as goal

pub returns-in_err-past-clause-exact : goal.returns-in_err-past-clause-exact
returns-in_err-past-clause-exact c = none_exact (frontmatter_fence c.args.sign) _ _ (clearly (frontmatter_fence c.args.sign) _ (frontmatter_clear c.args.sign) (bytes_of _ (λ i. omega (arith, c.type_inv.text i)))) c.in_err-past.ensures c.from_residual.ensures

pub overflow_sub-result : goal.overflow_sub-result
overflow_sub-result c = size_most (frontmatter_fence c.args.sign) _ _ c.in_ok-past.ensures

pub returns-clause-exact : goal.returns-clause-exact
returns-clause-exact c = size_exact (frontmatter_fence c.args.sign) _ _ (clearly (frontmatter_fence c.args.sign) _ (frontmatter_clear c.args.sign) (bytes_of _ (λ i. omega (arith, c.type_inv.text i)))) c.in_ok-past.ensures

pub returns-clause-size : goal.returns-clause-size
returns-clause-size c = frontmatter_size c.args.sign c.args.text.now c.in_ok-past.field-0.now (sound (frontmatter_fence c.args.sign) c.args.text.now c.in_ok-past.field-0.now c.in_ok-past.ensures)

pub returns-clause-cut : goal.returns-clause-cut
returns-clause-cut c = λ low. size_cut (frontmatter_fence c.args.sign) _ _ (frontmatter_tidy c.args.sign low) (bytes_of _ (λ i. omega (arith, c.type_inv.text i))) c.in_ok-past.ensures
