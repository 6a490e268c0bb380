use Rattle.markdown_nodes.specs.EqualityLaws.{tree_decides}
use Rattle.markdown_nodes.specs.View.{view}
use Rattle.markdown_nodes.proofs.laws.nodes_equal.Goals as goal

pub returns : goal.returns
returns c = λ a b. tree_decides (view a) (view b)
