use Rattle.std.proofs.Common.{rules}
use Rattle.markdown_grammar.proofs.ordered.Limits.after.Goals as goal

pub returns : goal.returns
returns c = search rules
