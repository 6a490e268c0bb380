use Rattle.std.proofs.Common.{rules}
use Rattle.markdown_nodes.proofs.mdast.Node.position.Goals as goal

pub returns : goal.returns
returns c = search rules
