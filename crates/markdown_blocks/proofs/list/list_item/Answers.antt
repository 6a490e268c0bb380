use Rattle.std.proofs.Common.{rules, arith}
use Rattle.markdown_blocks.proofs.list.list_item.Goals as goal

pub returns-clause-node : goal.returns-clause-node
returns-clause-node c = search rules
