use Rattle.std.proofs.Common.{arith, lit<, refl}
use Rattle.commonmark_syntax.specs.Language.{many, tested}
use Rattle.commonmark_syntax.specs.Syntax.{character, in_brackets, is_any, is_label_text, link_label}
use Rattle.commonmark_syntax.proofs.Clear.{link_label_clear}
use Rattle.commonmark_syntax.proofs.Enclosed.{encloses, inside_cuts}
use Rattle.commonmark_syntax.proofs.Fronts.{bytes_of}
use Rattle.commonmark_syntax.proofs.Labels.{label_least}
use Rattle.commonmark_syntax.proofs.Scans.{clearly, none_exact, size_cut, size_exact, size_most}
use Rattle.commonmark_syntax.proofs.Sound.{sound}
use Rattle.commonmark_syntax.proofs.label.scan.Goals as goal

pub returns-in_err-past-clause-exact : goal.returns-in_err-past-clause-exact
returns-in_err-past-clause-exact c = none_exact link_label _ _ (clearly link_label _ link_label_clear (bytes_of _ (λ i. omega (arith, c.type_inv.text i)))) c.in_err-past.ensures c.from_residual.ensures

pub overflow_sub-result : goal.overflow_sub-result
overflow_sub-result c = size_most link_label _ _ c.in_ok-past.ensures

pub returns-clause-exact : goal.returns-clause-exact
returns-clause-exact c = size_exact link_label _ _ (clearly link_label _ link_label_clear (bytes_of _ (λ i. omega (arith, c.type_inv.text i)))) c.in_ok-past.ensures

pub returns-clause-least : goal.returns-clause-least
returns-clause-least c = omega (arith, label_least _ _ (sound link_label c.args.text.now c.in_ok-past.field-0.now c.in_ok-past.ensures))

pub returns-clause-first : goal.returns-clause-first
returns-clause-first c = λ _. (encloses 91 93 (tested is_label_text (many (character is_any in_brackets))) c.args.text.now c.in_ok-past.field-0.now (sound link_label c.args.text.now c.in_ok-past.field-0.now c.in_ok-past.ensures)).first

pub returns-clause-last : goal.returns-clause-last
returns-clause-last c = (encloses 91 93 (tested is_label_text (many (character is_any in_brackets))) c.args.text.now c.in_ok-past.field-0.now (sound link_label c.args.text.now c.in_ok-past.field-0.now c.in_ok-past.ensures)).last

pub returns-clause-cut : goal.returns-clause-cut
returns-clause-cut c = size_cut link_label _ _ refl (bytes_of _ (λ i. omega (arith, c.type_inv.text i))) c.in_ok-past.ensures

pub returns-clause-inside : goal.returns-clause-inside
returns-clause-inside c = inside_cuts 91 93 _ _ (lit< tt) (lit< tt) (encloses 91 93 (tested is_label_text (many (character is_any in_brackets))) c.args.text.now c.in_ok-past.field-0.now (sound link_label c.args.text.now c.in_ok-past.field-0.now c.in_ok-past.ensures))
