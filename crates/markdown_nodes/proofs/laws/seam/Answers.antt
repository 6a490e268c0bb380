use Rattle.markdown_nodes.proofs.Joining.{join_assoc}
use Rattle.markdown_nodes.proofs.laws.seam.Goals as goal

pub returns : goal.returns
returns c = join_assoc
