use Rattle.std.proofs.Common.{rules, arith}
use Rattle.markdown_grammar.proofs.ordered.level_in.Goals as goal

pub returns-clause-nodes : goal.returns-clause-nodes
returns-clause-nodes c = search rules
