use Rattle.std.proofs.Common.{Bor, List, arith, ℕ}
use Rattle.commonmark_syntax.specs.Html.{raw_end}
use Rattle.commonmark_syntax.proofs.Clear.{raw_end_clear}
use Rattle.commonmark_syntax.proofs.Fronts.{bytes_of}
use Rattle.commonmark_syntax.proofs.Scans.{clearly, found, not_found}
use Rattle.commonmark_syntax.proofs.html_end.is_raw.Goals as goal

pub returns-clause-yes : goal.returns-clause-yes
returns-clause-yes c = found raw_end c.args.text.now (λ (x : Bor (List ℕ)). x.now) c.past_raw.result _ c.past_raw.ensures c.is_some.ensures

pub returns-clause-no : goal.returns-clause-no
returns-clause-no c = not_found raw_end c.args.text.now (λ (x : Bor (List ℕ)). x.now) c.past_raw.result _ (clearly raw_end _ raw_end_clear (bytes_of _ (λ i. omega (arith, c.type_inv.text i)))) c.past_raw.ensures c.is_some.ensures
