use Rattle.markdown_nodes.proofs.CopyingLevels.{Copies}
use Rattle.markdown_nodes.proofs.Levels.{to_walk}
use Rattle.markdown_nodes.proofs.mdast.copying.copy.Given as goal

abbrev pub invariant-walk : goal.invariant-walk
invariant-walk l = Copies l.fn.node l.parent l.level l.copies.items l.frames.items

abbrev pub decreases-walk : goal.decreases-walk
decreases-walk l = to_walk (λ x. x.rest.now) l.level l.frames.items
