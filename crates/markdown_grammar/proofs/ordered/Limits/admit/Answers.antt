use Rattle.std.proofs.Common.{rules, arith}
use Rattle.markdown_grammar.proofs.ordered.Limits.admit.Goals as goal

pub returns-then-end-start : goal.returns-then-end-start
returns-then-end-start c = search rules
