use Rattle.std.proofs.Common.{rules}
use Rattle.markdown_nodes.proofs.mdast.NodeDebug.fmt.Goals as goal

pub returns : goal.returns
returns g c = search rules
