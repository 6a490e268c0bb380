use Rattle.std.proofs.Common.{rules, arith}
use Rattle.markdown_containers.proofs.open_container.any_content_node.Goals as goal

pub returns-in_ok-children-in-ListUnordered-clause-bound : goal.returns-in_ok-children-in-ListUnordered-clause-bound
returns-in_ok-children-in-ListUnordered-clause-bound c = search rules
