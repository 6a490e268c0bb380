use Rattle.std.proofs.Common.{◌≡◌, ◌++◌, ℕ, List, length}
use Rattle.std.specs.Io.KnownBytes.{Appends}
use Rattle.tree_forms.proofs.written.write_json.Given as goal

abbrev pub decreases-pieces : goal.decreases-pieces
decreases-pieces g l = length l.pieces

-- what is written so far is the first of the text
abbrev pub invariant-pieces : goal.invariant-pieces
invariant-pieces g l = (done : List ℕ) × Appends (g.O.Write.contents l.fn.output) (g.O.Write.contents l.output) done × (l.fn.pieces ≡ done ++ l.pieces)
