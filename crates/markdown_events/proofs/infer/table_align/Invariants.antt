use Rattle.std.proofs.Common.{◌≡◌, ◌≤◌, ◌+◌, length}
use Rattle.markdown_events.specs.Walks.{table_walk}
use Rattle.markdown_events.proofs.infer.table_align.Given as goal

abbrev pub invariant-loop-event : goal.invariant-loop-event
invariant-loop-event l = (table_walk l.rest l.depth ≡ table_walk l.events 0) × (l.depth + length l.rest ≤ length l.events)

abbrev pub decreases-loop-event : goal.decreases-loop-event
decreases-loop-event l = length l.rest
