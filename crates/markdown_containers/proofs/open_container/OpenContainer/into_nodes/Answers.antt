use Rattle.std.proofs.Common.{rules}
use Rattle.markdown_containers.proofs.open_container.OpenContainer.into_nodes.Goals as goal

pub returns : goal.returns
returns c = search rules
