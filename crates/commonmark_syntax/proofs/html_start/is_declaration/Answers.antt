use Rattle.std.proofs.Common.{Bor, List, ℕ}
use Rattle.commonmark_syntax.specs.Html.{declaration_start}
use Rattle.commonmark_syntax.proofs.Scans.{found}
use Rattle.commonmark_syntax.proofs.html_start.is_declaration.Goals as goal

pub returns-clause-yes : goal.returns-clause-yes
returns-clause-yes c = found declaration_start c.args.text.now (λ (x : Bor (List ℕ)). x.now) c.past_declaration.result _ c.past_declaration.ensures c.is_some.ensures
