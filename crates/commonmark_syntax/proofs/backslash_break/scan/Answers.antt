use Rattle.std.proofs.Common.{arith}
use Rattle.commonmark_syntax.specs.Inlines.{backslash_break}
use Rattle.commonmark_syntax.proofs.Clear.{backslash_break_clear}
use Rattle.commonmark_syntax.proofs.Fronts.{bytes_of}
use Rattle.commonmark_syntax.proofs.Scans.{clearly, none_exact, size_exact, size_most}
use Rattle.std.specs.Prelude.{◌==◌}
use Rattle.commonmark_syntax.specs.Syntax.{byte}
use Rattle.commonmark_syntax.proofs.Marks.{first_is, second_is, two_size}
use Rattle.commonmark_syntax.proofs.backslash_break.scan.Goals as goal

pub returns-in_err-past-clause-exact : goal.returns-in_err-past-clause-exact
returns-in_err-past-clause-exact c = none_exact backslash_break _ _ (clearly backslash_break _ backslash_break_clear (bytes_of _ (λ i. omega (arith, c.type_inv.text i)))) c.in_err-past.ensures c.from_residual.ensures

pub overflow_sub-result : goal.overflow_sub-result
overflow_sub-result c = size_most backslash_break _ _ c.in_ok-past.ensures

pub returns-clause-exact : goal.returns-clause-exact
returns-clause-exact c = size_exact backslash_break _ _ (clearly backslash_break _ backslash_break_clear (bytes_of _ (λ i. omega (arith, c.type_inv.text i)))) c.in_ok-past.ensures

pub returns-clause-size : goal.returns-clause-size
returns-clause-size c = two_size (λ x. x == 92) (λ x. x == 10) c.args.text.now c.in_ok-past.field-0.now c.in_ok-past.ensures

pub returns-clause-first : goal.returns-clause-first
returns-clause-first c = first_is 92 (byte 10) c.args.text.now c.in_ok-past.field-0.now c.in_ok-past.ensures

pub returns-clause-feed : goal.returns-clause-feed
returns-clause-feed c = second_is (λ x. x == 92) 10 c.args.text.now c.in_ok-past.field-0.now c.in_ok-past.ensures
