use Rattle.std.proofs.Common.{arith, lit<, refl}
use Rattle.commonmark_syntax.specs.Inlines.{absolute_uri, uri_autolink}
use Rattle.commonmark_syntax.proofs.Clear.{uri_autolink_clear}
use Rattle.commonmark_syntax.proofs.Enclosed.{encloses}
use Rattle.commonmark_syntax.proofs.Fronts.{bytes_of}
use Rattle.commonmark_syntax.proofs.Scans.{clearly, none_exact, size_cut, size_exact, size_in_line, size_least, size_most}
use Rattle.commonmark_syntax.proofs.Sound.{sound}
use Rattle.commonmark_syntax.proofs.uri_autolink.scan.Goals as goal

pub returns-in_err-past-clause-exact : goal.returns-in_err-past-clause-exact
returns-in_err-past-clause-exact c = none_exact uri_autolink _ _ (clearly uri_autolink _ uri_autolink_clear (bytes_of _ (λ i. omega (arith, c.type_inv.text i)))) c.in_err-past.ensures c.from_residual.ensures

pub overflow_sub-result : goal.overflow_sub-result
overflow_sub-result c = size_most uri_autolink _ _ c.in_ok-past.ensures

pub returns-clause-exact : goal.returns-clause-exact
returns-clause-exact c = size_exact uri_autolink _ _ (clearly uri_autolink _ uri_autolink_clear (bytes_of _ (λ i. omega (arith, c.type_inv.text i)))) c.in_ok-past.ensures

pub returns-clause-least : goal.returns-clause-least
returns-clause-least c = size_least uri_autolink _ _ 4 c.in_ok-past.ensures (lit< tt)

pub returns-clause-cut : goal.returns-clause-cut
returns-clause-cut c = size_cut uri_autolink _ _ refl (bytes_of _ (λ i. omega (arith, c.type_inv.text i))) c.in_ok-past.ensures

pub returns-clause-in_line : goal.returns-clause-in_line
returns-clause-in_line c = size_in_line uri_autolink _ _ refl c.in_ok-past.ensures

pub returns-clause-first : goal.returns-clause-first
returns-clause-first c = (encloses 60 62 absolute_uri c.args.text.now c.in_ok-past.field-0.now (sound uri_autolink c.args.text.now c.in_ok-past.field-0.now c.in_ok-past.ensures)).first

pub returns-clause-last : goal.returns-clause-last
returns-clause-last c = (encloses 60 62 absolute_uri c.args.text.now c.in_ok-past.field-0.now (sound uri_autolink c.args.text.now c.in_ok-past.field-0.now c.in_ok-past.ensures)).last
