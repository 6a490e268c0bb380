use Rattle.std.proofs.Common.{◌≡◌, drop}
use Rattle.markdown_events.specs.Spelling.{first_spelled}
use Rattle.markdown_events.proofs.event.find_in_row.Given as goal

abbrev pub invariant-loop-name : goal.invariant-loop-name
invariant-loop-name l = first_spelled (drop l.name-index l.names) l.text ≡ first_spelled l.names l.text
