use Rattle.std.proofs.Common.{◌≡◌, ◌≤◌, ◌+◌, ◌++◌, length}
use Rattle.markdown.specs.Hidden.{hidden_from}
use Rattle.markdown.proofs.hidden.hidden_offsets.Given as goal

-- what is found and what the events that are left hide are all; and no more labels are open than events were read
abbrev pub invariant-events : goal.invariant-events
invariant-events l =
    (l.offsets.items ++ hidden_from l.bytes l.labels l.cell l.rest ≡ hidden_from l.bytes 0 0 l.events)
    × (l.labels + length l.rest ≤ length l.events)

abbrev pub decreases-events : goal.decreases-events
decreases-events l = length l.rest
