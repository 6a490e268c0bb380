use Rattle.std.proofs.Common.{◌≡◌, ◌≤◌, ◌+◌, length}
use Rattle.markdown_events.specs.Walks.{list_walk, no_ends}
use Rattle.markdown_events.proofs.infer.list_walk.Given as goal

abbrev pub invariant-loop-event : goal.invariant-loop-event
invariant-loop-event l = (list_walk l.include_items l.rest l.depth l.ends ≡ list_walk l.include_items l.events 0 no_ends) × (l.depth + length l.rest ≤ length l.events)

abbrev pub decreases-loop-event : goal.decreases-loop-event
decreases-loop-event l = length l.rest
