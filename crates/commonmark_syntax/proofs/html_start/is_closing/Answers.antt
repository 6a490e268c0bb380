use Rattle.std.proofs.Common.{Bor, List, arith, ℕ}
use Rattle.commonmark_syntax.specs.Html.{complete_closing}
use Rattle.commonmark_syntax.proofs.Clear.{complete_closing_clear}
use Rattle.commonmark_syntax.proofs.Fronts.{bytes_of}
use Rattle.commonmark_syntax.proofs.Scans.{clearly, found, not_found}
use Rattle.commonmark_syntax.proofs.html_start.is_closing.Goals as goal

pub returns-clause-yes : goal.returns-clause-yes
returns-clause-yes c = found complete_closing c.args.text.now (λ (x : Bor (List ℕ)). x.now) c.past_closing.result _ c.past_closing.ensures c.is_some.ensures

pub returns-clause-no : goal.returns-clause-no
returns-clause-no c = not_found complete_closing c.args.text.now (λ (x : Bor (List ℕ)). x.now) c.past_closing.result _ (clearly complete_closing _ complete_closing_clear (bytes_of _ (λ i. omega (arith, c.type_inv.text i)))) c.past_closing.ensures c.is_some.ensures
