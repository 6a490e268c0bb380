-- How messages and faults are printed.
use Rattle.std.specs.Prelude.{ℕ, List, [], ◌++◌, Option, Some, None, codes}
use Rattle.markdown_events.specs.declared.message.Fault.{Fault}
use Rattle.markdown_events.specs.declared.message.Fault.TheVariants as faults
use Rattle.markdown_events.specs.declared.message.Message.{Message}
use Rattle.markdown_events.specs.declared.message.Place.{Place}
use Rattle.markdown_events.specs.declared.message.Place.TheVariants as places
use Rattle.markdown_events.specs.declared.unist.Point.{Point}
use Rattle.markdown_events.specs.Places.{point_text}

-- where a place begins
abbrev pub start_of : Place → Point
start_of (places.Point point) = point
start_of (places.Position position) = position.start

-- `line:column (offset): `, where there is a place
abbrev pub place_text : Option Place → List ℕ
place_text None = []
place_text (Some place) = point_text (start_of place) ++ codes ": "

-- `line:column (offset): reason (rule_id)`
abbrev pub message_text : Message → List ℕ
message_text m = place_text m.place ++ m.reason.now ++ codes " (" ++ m.rule_id.now ++ codes ")"

-- the message about the input, or that memory ran out
abbrev pub fault_text : Fault → List ℕ
fault_text (faults.Message message) = message_text message
fault_text (faults.Memory error) = codes "out of memory"
