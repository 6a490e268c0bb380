use Rattle.std.proofs.Common.{arith, lit<, refl}
use Rattle.commonmark_syntax.specs.Inlines.{email_address, email_autolink}
use Rattle.commonmark_syntax.proofs.Clear.{email_autolink_clear}
use Rattle.commonmark_syntax.proofs.Enclosed.{encloses}
use Rattle.commonmark_syntax.proofs.Fronts.{bytes_of}
use Rattle.commonmark_syntax.proofs.Scans.{clearly, none_exact, size_cut, size_exact, size_in_line, size_least, size_most}
use Rattle.commonmark_syntax.proofs.Sound.{sound}
use Rattle.commonmark_syntax.proofs.email_autolink.scan.Goals as goal

pub returns-in_err-past-clause-exact : goal.returns-in_err-past-clause-exact
returns-in_err-past-clause-exact c = none_exact email_autolink _ _ (clearly email_autolink _ email_autolink_clear (bytes_of _ (λ i. omega (arith, c.type_inv.text i)))) c.in_err-past.ensures c.from_residual.ensures

pub overflow_sub-result : goal.overflow_sub-result
overflow_sub-result c = size_most email_autolink _ _ c.in_ok-past.ensures

pub returns-clause-exact : goal.returns-clause-exact
returns-clause-exact c = size_exact email_autolink _ _ (clearly email_autolink _ email_autolink_clear (bytes_of _ (λ i. omega (arith, c.type_inv.text i)))) c.in_ok-past.ensures

pub returns-clause-least : goal.returns-clause-least
returns-clause-least c = size_least email_autolink _ _ 3 c.in_ok-past.ensures (lit< tt)

pub returns-clause-cut : goal.returns-clause-cut
returns-clause-cut c = size_cut email_autolink _ _ refl (bytes_of _ (λ i. omega (arith, c.type_inv.text i))) c.in_ok-past.ensures

pub returns-clause-in_line : goal.returns-clause-in_line
returns-clause-in_line c = size_in_line email_autolink _ _ refl c.in_ok-past.ensures

pub returns-clause-first : goal.returns-clause-first
returns-clause-first c = (encloses 60 62 email_address c.args.text.now c.in_ok-past.field-0.now (sound email_autolink c.args.text.now c.in_ok-past.field-0.now c.in_ok-past.ensures)).first

pub returns-clause-last : goal.returns-clause-last
returns-clause-last c = (encloses 60 62 email_address c.args.text.now c.in_ok-past.field-0.now (sound email_autolink c.args.text.now c.in_ok-past.field-0.now c.in_ok-past.ensures)).last
