use Rattle.std.proofs.Common.{rules, arith}
use Rattle.markdown_nodes.proofs.mdast.comparing.same_position.Goals as goal

pub returns-in-Some-position : goal.returns-in-Some-position
returns-in-Some-position c = search rules
