use Rattle.std.proofs.Common.{rules}
use Rattle.markdown_text.proofs.label_end.is_call.Goals as goal

pub returns-then-not-bracket-clause-yes : goal.returns-then-not-bracket-clause-yes
returns-then-not-bracket-clause-yes c = search rules
