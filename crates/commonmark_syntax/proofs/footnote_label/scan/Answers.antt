use Rattle.std.proofs.Common.{arith}
use Rattle.commonmark_syntax.specs.Blocks.{footnote_label}
use Rattle.commonmark_syntax.proofs.Footnotes.{footnote_closing, footnote_exact, footnote_least, footnote_opening}
use Rattle.commonmark_syntax.proofs.Sound.{sound}
use Rattle.commonmark_syntax.proofs.Fronts.{bytes_of}
use Rattle.commonmark_syntax.proofs.Scans.{none_exact, size_exact, size_most}
use Rattle.commonmark_syntax.proofs.footnote_label.scan.Goals as goal

pub returns-in_err-past-clause-exact : goal.returns-in_err-past-clause-exact
returns-in_err-past-clause-exact c = none_exact footnote_label _ _ (λ t reads. footnote_exact _ t (bytes_of _ (λ i. omega (arith, c.type_inv.text i))) reads) c.in_err-past.ensures c.from_residual.ensures

pub overflow_sub-result : goal.overflow_sub-result
overflow_sub-result c = size_most footnote_label _ _ c.in_ok-past.ensures

pub returns-clause-exact : goal.returns-clause-exact
returns-clause-exact c = size_exact footnote_label _ _ (λ t reads. footnote_exact _ t (bytes_of _ (λ i. omega (arith, c.type_inv.text i))) reads) c.in_ok-past.ensures

pub returns-clause-least : goal.returns-clause-least
returns-clause-least c = footnote_least _ _ (sound footnote_label c.args.text.now c.in_ok-past.field-0.now c.in_ok-past.ensures)

pub returns-clause-opening : goal.returns-clause-opening
returns-clause-opening c = footnote_opening _ _ (sound footnote_label c.args.text.now c.in_ok-past.field-0.now c.in_ok-past.ensures)

pub returns-clause-closing : goal.returns-clause-closing
returns-clause-closing c = footnote_closing _ _ (sound footnote_label c.args.text.now c.in_ok-past.field-0.now c.in_ok-past.ensures)
