use Rattle.std.proofs.Common.{rules}
use Rattle.markdown_nodes.proofs.mdast.Node.to_debug_string.Goals as goal

pub returns : goal.returns
returns c = search rules
