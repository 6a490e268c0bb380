use Rattle.std.proofs.Common.{length, ◌-◌, ◌<◌, ◌≤◌}
use Rattle.markdown_text.proofs.stretches.stretch_length.Given as goal

abbrev pub invariant-pieces : goal.invariant-pieces
invariant-pieces l = record { some : 0 < l.length; within : l.length ≤ length l.pieces }

abbrev pub decreases-pieces : goal.decreases-pieces
decreases-pieces l = length l.pieces - l.length
