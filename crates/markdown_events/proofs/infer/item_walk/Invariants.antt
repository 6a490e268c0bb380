use Rattle.std.proofs.Common.{◌≡◌, ◌≤◌, drop}
use Rattle.markdown_events.specs.Walks.{item_walk, no_child}
use Rattle.markdown_events.proofs.infer.item_walk.Given as goal

abbrev pub invariant-loop-event : goal.invariant-loop-event
invariant-loop-event l = (item_walk (drop l.event-index l.events) l.depth l.last ≡ item_walk l.events 0 no_child) × (l.depth ≤ l.event-index)
