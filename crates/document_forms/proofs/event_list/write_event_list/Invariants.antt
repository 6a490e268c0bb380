use Rattle.std.proofs.Common.{◌≡◌, ◌++◌, ℕ, List, length}
use Rattle.std.specs.Io.KnownBytes.{Appends}
use Rattle.event_lines.specs.Written.{written}
use Rattle.document_forms.proofs.event_list.write_event_list.Given as goal

abbrev pub decreases-pieces : goal.decreases-pieces
decreases-pieces g l = length l.rest

-- what is written so far are the first lines
abbrev pub invariant-pieces : goal.invariant-pieces
invariant-pieces g l = (done : List ℕ) × Appends (g.O.Write.contents l.fn.output) (g.O.Write.contents l.output) done × (written l.fn.events ≡ done ++ written l.rest)
