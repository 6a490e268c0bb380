use Rattle.std.proofs.Common.{rules, arith}
use Rattle.markdown_nodes.proofs.mdast.Node.child_nodes.Goals as goal

pub returns-in-Some : goal.returns-in-Some
returns-in-Some c = search rules
