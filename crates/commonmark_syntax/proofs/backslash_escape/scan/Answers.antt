use Rattle.std.proofs.Common.{arith, refl}
use Rattle.commonmark_syntax.specs.Inlines.{backslash_escape}
use Rattle.commonmark_syntax.proofs.Clear.{backslash_escape_clear}
use Rattle.commonmark_syntax.proofs.Fronts.{bytes_of}
use Rattle.commonmark_syntax.proofs.Scans.{clearly, none_exact, size_ascii, size_cut, size_exact, size_in_line, size_most}
use Rattle.std.specs.Prelude.{◌==◌}
use Rattle.commonmark_syntax.specs.Inlines.{is_punctuation}
use Rattle.commonmark_syntax.proofs.Marks.{two_size}
use Rattle.commonmark_syntax.proofs.backslash_escape.scan.Goals as goal

pub returns-in_err-past-clause-exact : goal.returns-in_err-past-clause-exact
returns-in_err-past-clause-exact c = none_exact backslash_escape _ _ (clearly backslash_escape _ backslash_escape_clear (bytes_of _ (λ i. omega (arith, c.type_inv.text i)))) c.in_err-past.ensures c.from_residual.ensures

pub overflow_sub-result : goal.overflow_sub-result
overflow_sub-result c = size_most backslash_escape _ _ c.in_ok-past.ensures

pub returns-clause-exact : goal.returns-clause-exact
returns-clause-exact c = size_exact backslash_escape _ _ (clearly backslash_escape _ backslash_escape_clear (bytes_of _ (λ i. omega (arith, c.type_inv.text i)))) c.in_ok-past.ensures

pub returns-clause-size : goal.returns-clause-size
returns-clause-size c = two_size (λ x. x == 92) is_punctuation c.args.text.now c.in_ok-past.field-0.now c.in_ok-past.ensures

pub returns-clause-cut : goal.returns-clause-cut
returns-clause-cut c = size_cut backslash_escape _ _ refl (bytes_of _ (λ i. omega (arith, c.type_inv.text i))) c.in_ok-past.ensures

pub returns-clause-in_line : goal.returns-clause-in_line
returns-clause-in_line c = size_in_line backslash_escape _ _ refl c.in_ok-past.ensures

pub returns-clause-ascii : goal.returns-clause-ascii
returns-clause-ascii c = size_ascii backslash_escape _ _ refl (bytes_of _ (λ i. omega (arith, c.type_inv.text i))) c.in_ok-past.ensures
