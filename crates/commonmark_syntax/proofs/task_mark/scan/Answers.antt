use Rattle.std.proofs.Common.{arith, refl}
use Rattle.commonmark_syntax.specs.Inlines.{task_mark}
use Rattle.commonmark_syntax.proofs.Clear.{task_mark_clear}
use Rattle.commonmark_syntax.proofs.Fronts.{bytes_of}
use Rattle.commonmark_syntax.proofs.Scans.{clearly, none_exact, size_ascii, size_exact, size_most}
use Rattle.commonmark_syntax.proofs.Marks.{mark_is}
use Rattle.commonmark_syntax.proofs.task_mark.scan.Goals as goal

pub returns-in_err-past-clause-exact : goal.returns-in_err-past-clause-exact
returns-in_err-past-clause-exact c = none_exact task_mark _ _ (clearly task_mark _ task_mark_clear (bytes_of _ (λ i. omega (arith, c.type_inv.text i)))) c.in_err-past.ensures c.from_residual.ensures

pub overflow_sub-result : goal.overflow_sub-result
overflow_sub-result c = size_most task_mark _ _ c.in_ok-past.ensures

pub returns-clause-exact : goal.returns-clause-exact
returns-clause-exact c = size_exact task_mark _ _ (clearly task_mark _ task_mark_clear (bytes_of _ (λ i. omega (arith, c.type_inv.text i)))) c.in_ok-past.ensures

pub returns-clause-size : goal.returns-clause-size
returns-clause-size c = (mark_is c.args.text.now c.in_ok-past.field-0.now c.in_ok-past.ensures).size

pub returns-clause-first : goal.returns-clause-first
returns-clause-first c = (mark_is c.args.text.now c.in_ok-past.field-0.now c.in_ok-past.ensures).first

pub returns-clause-last : goal.returns-clause-last
returns-clause-last c = (mark_is c.args.text.now c.in_ok-past.field-0.now c.in_ok-past.ensures).last

pub returns-clause-ascii : goal.returns-clause-ascii
returns-clause-ascii c = size_ascii task_mark _ _ refl (bytes_of _ (λ i. omega (arith, c.type_inv.text i))) c.in_ok-past.ensures
