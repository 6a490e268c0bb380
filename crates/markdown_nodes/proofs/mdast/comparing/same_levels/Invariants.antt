use Rattle.markdown_nodes.proofs.ComparingLevels.{Compares}
use Rattle.markdown_nodes.proofs.Levels.{to_walk}
use Rattle.markdown_nodes.proofs.mdast.comparing.same_levels.Given as goal

abbrev pub invariant-walk : goal.invariant-walk
invariant-walk l = Compares l.fn.xs l.fn.ys l.left l.right l.pairs.items

abbrev pub decreases-walk : goal.decreases-walk
decreases-walk l = to_walk (λ x. x.xs.now) l.left l.pairs.items
