-- A filter of events, which passes on headings.
use Rattle.std.specs.Prelude.{Bool, List, [], false, if◌then◌else◌, not, suc, true, zero, ℕ, ◌&&◌, ◌∷◌}
use Rattle.markdown_events.specs.declared.event.Event.{Event}
use Rattle.markdown_events.specs.declared.event.Kind.{Kind}
use Rattle.markdown_events.specs.declared.event.Kind.TheVariants.{Enter, Exit}
use Rattle.markdown_events.specs.declared.event.Name.{Name}
use Rattle.markdown_outline.specs.Headings.{is_heading, is_searched}

-- where a filter stands: where headings are searched for, in a span where none is, or in a heading; with the number of spans open in that
pub data Standing : Type 0 where
  outside : Standing
  closed within : (depth : ℕ) → Standing

-- after an enter
abbrev pub entered : Standing → Name → Standing
entered outside name = if is_heading name then within 0 else (if is_searched name then outside else closed 0)
entered (closed depth) name = closed (suc depth)
entered (within depth) name = within (suc depth)

-- after an exit
abbrev pub exited : Standing → Standing
exited outside = outside
exited (closed zero) = outside
exited (closed (suc depth)) = closed depth
exited (within zero) = outside
exited (within (suc depth)) = within depth

-- after an event
abbrev pub moved : Standing → Kind → Name → Standing
moved filter Enter name = entered filter name
moved filter Exit name = exited filter

-- an event is passed on: in a heading, and its enter
abbrev pub passes_on : Standing → Kind → Name → Bool
passes_on outside Enter name = is_heading name
passes_on outside Exit name = false
passes_on (closed depth) kind name = false
passes_on (within depth) kind name = true

-- a heading begins where none is searched for, and is lost
abbrev pub loses_heading : Standing → Kind → Name → Bool
loses_heading (closed depth) Enter name = is_heading name
loses_heading filter kind name = false

-- an event before others, if it is passed on
abbrev pub with_event : Bool → Event → List Event → List Event
with_event true event events = event ∷ events
with_event false event events = events

-- the events that are passed on
abbrev pub filtered : Standing → List Event → List Event
filtered filter [] = []
filtered filter (event ∷ events) = with_event (passes_on filter event.kind event.name) event (filtered (moved filter event.kind event.name) events)

-- where the filter stands after the events
abbrev pub after_all : Standing → List Event → Standing
after_all filter [] = filter
after_all filter (event ∷ events) = after_all (moved filter event.kind event.name) events

-- no heading is lost
abbrev pub loses_none : Standing → List Event → Bool
loses_none filter [] = true
loses_none filter (event ∷ events) = not (loses_heading filter event.kind event.name) && loses_none (moved filter event.kind event.name) events
