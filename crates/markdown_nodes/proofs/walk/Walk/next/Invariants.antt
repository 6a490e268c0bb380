use Rattle.std.proofs.Common.{◌≡◌, length}
use Rattle.markdown_nodes.specs.WalkLevels.{coming}
use Rattle.markdown_nodes.proofs.walk.Walk.next.Given as goal

abbrev pub invariant-levels : goal.invariant-levels
invariant-levels l = coming l.self ≡ coming l.fn.self

abbrev pub decreases-levels : goal.decreases-levels
decreases-levels l = length l.self.outer.items
