use Rattle.markdown_nodes.proofs.Dropping.{weight}
use Rattle.markdown_nodes.proofs.mdast.Node.drop.Given as goal

abbrev pub decreases-loop-level : goal.decreases-loop-level
decreases-loop-level l = weight l.node l.level.items
