-- The open spans, as the walk over a list of events keeps them.
use Rattle.std.specs.Prelude.{◌≡◌, List, [], ◌∷◌, Option, None, Some, if◌then◌else◌}
use Rattle.markdown_events.specs.declared.event.Name.{Name}
use Rattle.markdown_events.specs.declared.event.spans.Open.{Open}
use Rattle.markdown_events.specs.Walks.{around_of, can_enter}

-- the names of open spans
abbrev pub names_of : List Open → List Name
names_of [] = []
names_of (span ∷ spans) = span.name ∷ names_of spans

-- each span, the innermost first, records correctly what is around the spans in it
abbrev pub AreOpen : List Open → Type 0
AreOpen [] = Unit {0}
AreOpen (span ∷ spans) = (span.inside ≡ around_of (span.name ∷ names_of spans)) × AreOpen spans

-- a span with this name inside spans with those names, if it can begin there
abbrev pub opened_in : List Name → Name → Option Open
opened_in around name = if can_enter around name then Some (record { name = name; inside = around_of (name ∷ around) }) else None
