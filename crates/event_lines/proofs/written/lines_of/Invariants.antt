use Rattle.std.proofs.Common.{◌≡◌, ◌++◌, drop, string_bytes}
use Rattle.event_lines.specs.Written.{written}
use Rattle.event_lines.proofs.written.lines_of.Given as goal

-- what is written and the events to come are the whole
abbrev pub invariant-loop-event : goal.invariant-loop-event
invariant-loop-event l = string_bytes l.text ++ written (drop l.event-index l.events) ≡ written l.events
