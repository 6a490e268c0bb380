use Rattle.std.proofs.Common.{Bor, List, ℕ}
use Rattle.std.specs.Prelude.{codes}
use Rattle.commonmark_syntax.specs.Syntax.{word}
use Rattle.commonmark_syntax.proofs.Scans.{found}
use Rattle.commonmark_syntax.proofs.html_start.is_instruction.Goals as goal

pub returns-clause-yes : goal.returns-clause-yes
returns-clause-yes c = found (word (codes "<?")) c.args.text.now (λ (x : Bor (List ℕ)). x.now) c.past_word.result _ c.past_word.ensures c.is_some.ensures
