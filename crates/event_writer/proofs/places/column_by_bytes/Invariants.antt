use Rattle.std.proofs.Common.{◌≡◌}
use Rattle.event_writer.specs.Places.{column_at, line_at}
use Rattle.event_writer.proofs.places.column_by_bytes.Given as goal

abbrev pub invariant-loop-index : goal.invariant-loop-index
invariant-loop-index l = record { column : l.column ≡ column_at l.bytes l.index; line : l.fn.from.line ≡ line_at l.bytes l.index }
