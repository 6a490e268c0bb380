use Rattle.std.proofs.Common.{arith, lit<, refl}
use Rattle.commonmark_syntax.specs.Syntax.{whole_tag_name}
use Rattle.commonmark_syntax.proofs.Clear.{whole_tag_name_clear}
use Rattle.commonmark_syntax.proofs.Fronts.{bytes_of}
use Rattle.commonmark_syntax.proofs.Scans.{clearly, none_exact, size_cut, size_exact, size_in_line, size_least, size_most}
use Rattle.commonmark_syntax.proofs.tag_name.scan.Goals as goal

pub returns-in_err-past_whole-clause-exact : goal.returns-in_err-past_whole-clause-exact
returns-in_err-past_whole-clause-exact c = none_exact whole_tag_name _ _ (clearly whole_tag_name _ whole_tag_name_clear (bytes_of _ (λ i. omega (arith, c.type_inv.text i)))) c.in_err-past_whole.ensures c.from_residual.ensures

pub overflow_sub-result : goal.overflow_sub-result
overflow_sub-result c = size_most whole_tag_name _ _ c.in_ok-past_whole.ensures

pub returns-clause-exact : goal.returns-clause-exact
returns-clause-exact c = size_exact whole_tag_name _ _ (clearly whole_tag_name _ whole_tag_name_clear (bytes_of _ (λ i. omega (arith, c.type_inv.text i)))) c.in_ok-past_whole.ensures

pub returns-clause-least : goal.returns-clause-least
returns-clause-least c = size_least whole_tag_name _ _ 0 c.in_ok-past_whole.ensures (lit< tt)

pub returns-clause-cut : goal.returns-clause-cut
returns-clause-cut c = size_cut whole_tag_name _ _ refl (bytes_of _ (λ i. omega (arith, c.type_inv.text i))) c.in_ok-past_whole.ensures

pub returns-clause-in_line : goal.returns-clause-in_line
returns-clause-in_line c = size_in_line whole_tag_name _ _ refl c.in_ok-past_whole.ensures
