use Rattle.std.proofs.Common.{◌≡◌, ◌≤◌, ◌+◌, length, reverse, []}
use Rattle.markdown_events.specs.OpenSpans.{AreOpen, names_of}
use Rattle.markdown_events.specs.Walks.{run}
use Rattle.markdown_events.proofs.event.spans.last_of_span.Given as goal

abbrev pub invariant-loop-event : goal.invariant-loop-event
invariant-loop-event l =
    (run l.rest (names_of (reverse l.spans.items)) l.passed ≡ run l.events [] 0)
    × (l.passed + length l.rest ≤ length l.events)
    × AreOpen (reverse l.spans.items)

abbrev pub decreases-loop-event : goal.decreases-loop-event
decreases-loop-event l = length l.rest
