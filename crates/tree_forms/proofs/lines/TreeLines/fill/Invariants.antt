use Rattle.std.proofs.Common.{◌≤◌, length}
use Rattle.markdown_nodes.specs.WalkLevels.{coming}
use Rattle.tree_forms.proofs.lines.TreeLines.fill.Given as goal

abbrev pub decreases-lines : goal.decreases-lines
decreases-lines l = length (coming l.self.walk)

-- no node comes twice
abbrev pub invariant-lines : goal.invariant-lines
invariant-lines l = length (coming l.self.walk) ≤ length (coming l.fn.self.walk)
