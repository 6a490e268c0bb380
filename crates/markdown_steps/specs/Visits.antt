-- The number of nodes that a compilation visits to make the texts of buffers.
use Rattle.std.specs.Prelude.{Bool, Err, List, None, Ok, Option, Result, Some, [], false, if◌then◌else◌, not, true, ℕ, ◌&&◌, ◌+◌, ◌∷◌}
use Rattle.markdown_events.specs.Names.{is_same_name}
use Rattle.markdown_events.specs.declared.event.Event.{Event}
use Rattle.markdown_events.specs.declared.event.Kind.{Kind}
use Rattle.markdown_events.specs.declared.event.Name.{Name}
use Rattle.markdown_events.specs.declared.role.ItemKind.{ItemKind}
use Rattle.markdown_grammar.specs.Buffers.{is_buffer, node_count}
use Rattle.markdown_steps.specs.Compiler.{ContainerState, OpenSpan, State, step}
use Rattle.markdown_grammar.specs.Items.{is_part}
use Rattle.markdown_steps.specs.Summaries.{Summary}
use Rattle.markdown_grammar.specs.Refusals.{ErrorAt}
use Rattle.markdown_grammar.specs.Document.{Source}
use Rattle.markdown_events.specs.declared.event.Kind.TheVariants.{Enter, Exit}
use Rattle.markdown_events.specs.declared.role.ItemKind.TheVariants.{Content as content}
use Rattle.markdown_events.specs.declared.role.Content.TheVariants as contents
use Rattle.markdown_events.specs.declared.role.Part.TheVariants as parts

-- a span that makes the text of its label where it ends
abbrev pub reads_label : ItemKind → Bool
reads_label (content contents.Link) = true
reads_label (content contents.Image) = true
reads_label (content contents.FootnoteCall) = true
reads_label _ = false

-- the visits where a span ends: the nodes of a buffer, except those of a label, which are visited where the span around it ends
abbrev pub visits_at_end : ItemKind → Summary → ℕ
visits_at_end what i = if is_buffer what && not (is_part parts.LabelText what) then node_count i.nodes else (if reads_label what then node_count i.label else 0)

-- these visits, from what the span belongs to; none for a transparent span
abbrev pub visits_by_owner : Option (ItemKind × ContainerState) → Summary → ℕ
visits_by_owner None i = 0
visits_by_owner (Some outer) i = visits_at_end outer.0 i

-- the visits at an exit with this name; none if it does not match the innermost open span
abbrev pub exit_visits : Name → List OpenSpan → Summary → ℕ
exit_visits name [] i = 0
exit_visits name (f ∷ fs) i = if is_same_name f.name name then visits_by_owner f.outer i else 0

-- the visits of a step, by its kind; none for an enter
abbrev pub visits_by : Kind → Name → State → ℕ
visits_by Enter name st = 0
visits_by Exit name st = exit_visits name st.frames st.top.inner

-- the visits of the step of an event
abbrev pub step_visits : Event → State → ℕ
step_visits event st = visits_by event.kind event.name st

-- the visits of the steps after a step, if it succeeds
abbrev pub visits_after : Result State ErrorAt → (State → ℕ) → ℕ
visits_after (Ok st) on = on st
visits_after (Err _) on = 0

-- the visits of the steps of events, up to and including the first step that is refused
unfoldable pub run_visits : Source → List Event → State → ℕ
run_visits s [] st = 0
run_visits s (event ∷ events) st = step_visits event st + visits_after (step s event st) (run_visits s events)
