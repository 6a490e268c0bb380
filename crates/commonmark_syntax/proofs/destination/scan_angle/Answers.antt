use Rattle.std.proofs.Common.{arith, lit<, refl}
use Rattle.commonmark_syntax.specs.Language.{many}
use Rattle.commonmark_syntax.specs.Syntax.{angle_destination, character, in_angle_brackets, in_line}
use Rattle.commonmark_syntax.proofs.Clear.{angle_destination_clear}
use Rattle.commonmark_syntax.proofs.Enclosed.{encloses, inside_cuts}
use Rattle.commonmark_syntax.proofs.Fronts.{bytes_of}
use Rattle.commonmark_syntax.proofs.Scans.{clearly, none_exact, size_cut, size_exact, size_in_line, size_least, size_most}
use Rattle.commonmark_syntax.proofs.Sound.{sound}
use Rattle.commonmark_syntax.proofs.destination.scan_angle.Goals as goal

pub returns-in_err-past_angle-clause-exact : goal.returns-in_err-past_angle-clause-exact
returns-in_err-past_angle-clause-exact c = none_exact angle_destination _ _ (clearly angle_destination _ angle_destination_clear (bytes_of _ (λ i. omega (arith, c.type_inv.text i)))) c.in_err-past_angle.ensures c.from_residual.ensures

pub overflow_sub-result : goal.overflow_sub-result
overflow_sub-result c = size_most angle_destination _ _ c.in_ok-past_angle.ensures

pub returns-clause-exact : goal.returns-clause-exact
returns-clause-exact c = size_exact angle_destination _ _ (clearly angle_destination _ angle_destination_clear (bytes_of _ (λ i. omega (arith, c.type_inv.text i)))) c.in_ok-past_angle.ensures

pub returns-clause-least : goal.returns-clause-least
returns-clause-least c = size_least angle_destination _ _ 1 c.in_ok-past_angle.ensures (lit< tt)

pub returns-clause-last : goal.returns-clause-last
returns-clause-last c = (encloses 60 62 (many (character in_line in_angle_brackets)) c.args.text.now c.in_ok-past_angle.field-0.now (sound angle_destination c.args.text.now c.in_ok-past_angle.field-0.now c.in_ok-past_angle.ensures)).last

pub returns-clause-cut : goal.returns-clause-cut
returns-clause-cut c = size_cut angle_destination _ _ refl (bytes_of _ (λ i. omega (arith, c.type_inv.text i))) c.in_ok-past_angle.ensures

pub returns-clause-inside : goal.returns-clause-inside
returns-clause-inside c = inside_cuts 60 62 _ _ (lit< tt) (lit< tt) (encloses 60 62 (many (character in_line in_angle_brackets)) c.args.text.now c.in_ok-past_angle.field-0.now (sound angle_destination c.args.text.now c.in_ok-past_angle.field-0.now c.in_ok-past_angle.ensures))

pub returns-clause-in_line : goal.returns-clause-in_line
returns-clause-in_line c = size_in_line angle_destination _ _ refl c.in_ok-past_angle.ensures
