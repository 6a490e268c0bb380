use Rattle.std.proofs.Common.{ℕ, List, length}
use Rattle.std.specs.Io.KnownBytes.{Appends}
use Rattle.markdown_nodes.specs.WalkLevels.{coming}
use Rattle.tree_forms.proofs.written.write_lines.Given as goal

abbrev pub decreases-pieces : goal.decreases-pieces
decreases-pieces g l = length (coming l.lines.walk)

abbrev pub invariant-pieces : goal.invariant-pieces
invariant-pieces g l = (done : List ℕ) × Appends (g.O.Write.contents l.fn.output) (g.O.Write.contents l.output) done
