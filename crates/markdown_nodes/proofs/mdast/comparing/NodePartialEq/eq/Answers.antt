use Rattle.markdown_nodes.proofs.Comparing.{answers}
use Rattle.markdown_nodes.proofs.mdast.comparing.NodePartialEq.eq.Goals as goal

pub returns-clause-answer : goal.returns-clause-answer
returns-clause-answer c = answers _ _ _ c.same_trees.ensures
