use Rattle.std.proofs.Common.{Bor, List, arith, ℕ}
use Rattle.commonmark_syntax.specs.Html.{complete_opening}
use Rattle.commonmark_syntax.proofs.Html.{opening_read}
use Rattle.commonmark_syntax.proofs.Fronts.{bytes_of}
use Rattle.commonmark_syntax.proofs.Scans.{found, not_found}
use Rattle.commonmark_syntax.proofs.html_start.is_opening.Goals as goal

pub returns-clause-yes : goal.returns-clause-yes
returns-clause-yes c = found complete_opening c.args.text.now (λ (x : Bor (List ℕ)). x.now) c.past_opening.result _ c.past_opening.ensures c.is_some.ensures

pub returns-clause-no : goal.returns-clause-no
returns-clause-no c = not_found complete_opening c.args.text.now (λ (x : Bor (List ℕ)). x.now) c.past_opening.result _ (λ t reads. opening_read _ t (bytes_of _ (λ i. omega (arith, c.type_inv.text i))) reads) c.past_opening.ensures c.is_some.ensures
