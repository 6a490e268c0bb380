use Rattle.std.proofs.Common.{Bor, List, ℕ}
use Rattle.commonmark_syntax.specs.Language.{through}
use Rattle.commonmark_syntax.proofs.Html.{word_in, word_not_in}
use Rattle.commonmark_syntax.proofs.Scans.{found}
use Rattle.commonmark_syntax.proofs.html_end.has.Goals as goal

pub returns-clause-yes : goal.returns-clause-yes
returns-clause-yes c is = word_in c.args.expected.now c.args.text.now (found (through c.args.expected.now) c.args.text.now (λ (x : Bor (List ℕ)). x.now) c.past_first.result _ c.past_first.ensures c.is_some.ensures is)

pub returns-clause-no : goal.returns-clause-no
returns-clause-no c = word_not_in c.args.expected.now c.args.text.now (λ (x : Bor (List ℕ)). x.now) c.past_first.result _ c.past_first.ensures c.is_some.ensures
