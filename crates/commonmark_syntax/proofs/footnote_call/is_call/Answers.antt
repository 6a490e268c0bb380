use Rattle.std.proofs.Common.{arith, []}
use Rattle.commonmark_syntax.specs.Inlines.{footnote_call}
use Rattle.commonmark_syntax.proofs.Footnotes.{call_exact}
use Rattle.commonmark_syntax.proofs.Fronts.{bytes_of}
use Rattle.commonmark_syntax.proofs.Scans.{none_whole, not_whole, whole}
use Rattle.commonmark_syntax.proofs.footnote_call.is_call.Goals as goal

pub returns-in-Some-clause-yes : goal.returns-in-Some-clause-yes
returns-in-Some-clause-yes c = whole footnote_call c.args.text.now c.in-Some.rest.now c.is_empty.result c.in-Some.ensures c.is_empty.ensures

pub returns-in-Some-clause-no : goal.returns-in-Some-clause-no
returns-in-Some-clause-no c = not_whole footnote_call c.args.text.now c.in-Some.rest.now c.is_empty.result (call_exact _ [] (bytes_of _ (λ i. omega (arith, c.type_inv.text i)))) c.in-Some.ensures c.is_empty.ensures

pub returns-in-None-clause-no : goal.returns-in-None-clause-no
returns-in-None-clause-no c = λ _. none_whole footnote_call c.args.text.now (call_exact _ [] (bytes_of _ (λ i. omega (arith, c.type_inv.text i)))) c.in-None.ensures
