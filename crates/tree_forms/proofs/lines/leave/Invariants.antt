use Rattle.std.proofs.Common.{length}
use Rattle.tree_forms.proofs.lines.leave.Given as goal

abbrev pub decreases-levels : goal.decreases-levels
decreases-levels l = length l.levels.items
