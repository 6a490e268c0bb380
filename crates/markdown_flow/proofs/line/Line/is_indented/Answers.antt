use Rattle.std.proofs.Common.{rules}
use Rattle.markdown_flow.proofs.line.Line.is_indented.Goals as goal

pub returns-then-self-clause-exact : goal.returns-then-self-clause-exact
returns-then-self-clause-exact c = search rules
