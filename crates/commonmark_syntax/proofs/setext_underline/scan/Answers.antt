use Rattle.std.proofs.Common.{arith, lit<, refl}
use Rattle.commonmark_syntax.specs.Blocks.{setext_underline}
use Rattle.commonmark_syntax.proofs.Clear.{setext_underline_clear}
use Rattle.commonmark_syntax.proofs.Fronts.{bytes_of}
use Rattle.commonmark_syntax.proofs.Scans.{clearly, none_exact, size_cut, size_exact, size_least, size_most}
use Rattle.commonmark_syntax.proofs.setext_underline.scan.Goals as goal

pub returns-in_err-past-clause-exact : goal.returns-in_err-past-clause-exact
returns-in_err-past-clause-exact c = none_exact setext_underline _ _ (clearly setext_underline _ setext_underline_clear (bytes_of _ (λ i. omega (arith, c.type_inv.text i)))) c.in_err-past.ensures c.from_residual.ensures

pub overflow_sub-result : goal.overflow_sub-result
overflow_sub-result c = size_most setext_underline _ _ c.in_ok-past.ensures

pub returns-clause-exact : goal.returns-clause-exact
returns-clause-exact c = size_exact setext_underline _ _ (clearly setext_underline _ setext_underline_clear (bytes_of _ (λ i. omega (arith, c.type_inv.text i)))) c.in_ok-past.ensures

pub returns-clause-least : goal.returns-clause-least
returns-clause-least c = size_least setext_underline _ _ 0 c.in_ok-past.ensures (lit< tt)

pub returns-clause-cut : goal.returns-clause-cut
returns-clause-cut c = size_cut setext_underline _ _ refl (bytes_of _ (λ i. omega (arith, c.type_inv.text i))) c.in_ok-past.ensures
