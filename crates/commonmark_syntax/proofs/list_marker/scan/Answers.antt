use Rattle.std.proofs.Common.{arith, lit<}
use Rattle.commonmark_syntax.specs.Blocks.{list_marker}
use Rattle.commonmark_syntax.proofs.Clear.{list_marker_clear}
use Rattle.commonmark_syntax.proofs.Markers.{marked, marked_ascii, marked_digits, marked_order}
use Rattle.commonmark_syntax.proofs.Sound.{sound}
use Rattle.commonmark_syntax.proofs.Fronts.{bytes_of}
use Rattle.commonmark_syntax.proofs.Scans.{clearly, none_exact, size_exact, size_least, size_most}
use Rattle.commonmark_syntax.proofs.list_marker.scan.Goals as goal

pub returns-in_err-past-clause-exact : goal.returns-in_err-past-clause-exact
returns-in_err-past-clause-exact c = none_exact list_marker _ _ (clearly list_marker _ list_marker_clear (bytes_of _ (λ i. omega (arith, c.type_inv.text i)))) c.in_err-past.ensures c.from_residual.ensures

pub overflow_sub-result : goal.overflow_sub-result
overflow_sub-result c = size_most list_marker _ _ c.in_ok-past.ensures

pub returns-clause-exact : goal.returns-clause-exact
returns-clause-exact c = size_exact list_marker _ _ (clearly list_marker _ list_marker_clear (bytes_of _ (λ i. omega (arith, c.type_inv.text i)))) c.in_ok-past.ensures

pub returns-clause-least : goal.returns-clause-least
returns-clause-least c = size_least list_marker _ _ 0 c.in_ok-past.ensures (lit< tt)

pub returns-clause-digits : goal.returns-clause-digits
returns-clause-digits c = marked_digits _ _ (marked c.args.text.now c.in_ok-past.field-0.now (sound list_marker c.args.text.now c.in_ok-past.field-0.now c.in_ok-past.ensures))

pub returns-clause-ordered : goal.returns-clause-ordered
returns-clause-ordered c = marked_order _ _ (marked c.args.text.now c.in_ok-past.field-0.now (sound list_marker c.args.text.now c.in_ok-past.field-0.now c.in_ok-past.ensures))

pub returns-clause-mark : goal.returns-clause-mark
returns-clause-mark c = marked_ascii _ _ (marked c.args.text.now c.in_ok-past.field-0.now (sound list_marker c.args.text.now c.in_ok-past.field-0.now c.in_ok-past.ensures))
