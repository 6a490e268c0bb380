use Rattle.std.proofs.Common.{Bor, List, arith, ℕ}
use Rattle.commonmark_syntax.specs.Blocks.{interrupting_list_marker}
use Rattle.commonmark_syntax.proofs.Clear.{interrupting_list_marker_clear}
use Rattle.commonmark_syntax.proofs.Fronts.{bytes_of}
use Rattle.commonmark_syntax.proofs.Scans.{clearly, found, not_found}
use Rattle.commonmark_syntax.proofs.list_marker.may_interrupt.Goals as goal

pub returns-clause-yes : goal.returns-clause-yes
returns-clause-yes c = found interrupting_list_marker c.args.text.now (λ (x : Bor (List ℕ)). x.now) c.past_interrupting.result _ c.past_interrupting.ensures c.is_some.ensures

pub returns-clause-no : goal.returns-clause-no
returns-clause-no c = not_found interrupting_list_marker c.args.text.now (λ (x : Bor (List ℕ)). x.now) c.past_interrupting.result _ (clearly interrupting_list_marker _ interrupting_list_marker_clear (bytes_of _ (λ i. omega (arith, c.type_inv.text i)))) c.past_interrupting.ensures c.is_some.ensures
