use Rattle.std.proofs.Common.{Bor, List, arith, ℕ}
use Rattle.commonmark_syntax.specs.Html.{basic_start}
use Rattle.commonmark_syntax.proofs.Clear.{basic_start_clear}
use Rattle.commonmark_syntax.proofs.Fronts.{bytes_of}
use Rattle.commonmark_syntax.proofs.Scans.{clearly, found, not_found}
use Rattle.commonmark_syntax.proofs.html_start.is_basic.Goals as goal

pub returns-clause-yes : goal.returns-clause-yes
returns-clause-yes c = found basic_start c.args.text.now (λ (x : Bor (List ℕ)). x.now) c.past_basic.result _ c.past_basic.ensures c.is_some.ensures

pub returns-clause-no : goal.returns-clause-no
returns-clause-no c = not_found basic_start c.args.text.now (λ (x : Bor (List ℕ)). x.now) c.past_basic.result _ (clearly basic_start _ basic_start_clear (bytes_of _ (λ i. omega (arith, c.type_inv.text i)))) c.past_basic.ensures c.is_some.ensures
