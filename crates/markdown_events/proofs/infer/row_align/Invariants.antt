use Rattle.std.proofs.Common.{◌≡◌, ◌++◌, length, false}
use Rattle.markdown_events.specs.declared.event.Name.TheVariants as names
use Rattle.markdown_events.specs.Walks.{cells_walk}
use Rattle.markdown_events.proofs.infer.row_align.Given as goal

abbrev pub invariant-loop-event : goal.invariant-loop-event
invariant-loop-event l = l.kinds.items ++ cells_walk l.rest l.before l.first ≡ cells_walk l.events names.GfmTableDelimiterRow false

abbrev pub decreases-loop-event : goal.decreases-loop-event
decreases-loop-event l = length l.rest
