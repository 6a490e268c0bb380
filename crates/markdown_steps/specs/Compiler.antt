-- The steps of a compilation on values: the state of a container, what a span inherits at its enter, and what it gives at its exit.
use Rattle.std.specs.Prelude.{Bool, List, None, Ok, Option, Result, Some, [], cond, false, is_some, not, true, ◌&&◌, ◌||◌, ◌∷◌}
use Rattle.std.specs.List.{list_any}
use Rattle.std.specs.Option.{option_or}
use Rattle.markdown_events.specs.Names.{is_same_name, role_of}
use Rattle.markdown_events.specs.Slices.{to_unist}
use Rattle.markdown_steps.specs.ChildFacts.{ChildFacts}
use Rattle.markdown_nodes.specs.Tree.{Tree, Trees, join, node, nothing, root}
use Rattle.markdown_events.specs.declared.event.Event.{Event}
use Rattle.markdown_events.specs.declared.event.Kind.{Kind}
use Rattle.markdown_events.specs.declared.event.Name.{Name}
use Rattle.markdown_events.specs.declared.event.Point.{Point}
use Rattle.markdown_events.specs.declared.role.ItemKind.{ItemKind}
use Rattle.markdown_events.specs.declared.role.Part.{Part}
use Rattle.markdown_events.specs.declared.role.Role.{Role}
use Rattle.markdown_events.specs.declared.unist.Point.{Point as UnistPoint}
use Rattle.markdown_events.specs.declared.unist.Position.{Position}
use Rattle.markdown_events.specs.Around.{in_the_open, may_begin, under}
use Rattle.markdown_steps.specs.Columns.{Columns, columns_entered, columns_left, no_columns, child_facts}
use Rattle.markdown_steps.specs.Extents.{extent_of, last_event}
use Rattle.markdown_grammar.specs.Attributes.{Place, mark_given, inherited_after, inherited_in, inherited_at_root, value_given}
use Rattle.markdown_grammar.specs.Grammar.{ContentModel, Rule, any_content, character_reference, code_fenced, heading_atx, heading_setext, model_after, model_of, list_ordered, math_flow, none_of, at_most_one, only, only_before, only_after, rules}
use Rattle.markdown_grammar.specs.Items.{is_frontmatter, is_hard_break, is_line_ending, is_one_of, is_part, is_table}
use Rattle.markdown_steps.specs.SummaryNodes.{node_of}
use Rattle.markdown_steps.specs.Summaries.{Summary, PartSummary, PartPath, into, itself, kept_from, path_to}
use Rattle.markdown_grammar.specs.Document.{Source, byte_at}
use Rattle.markdown_grammar.specs.Values.{is_read}
use Rattle.markdown_grammar.specs.Refusals.{ErrorAt, rule_error, missing_error, value_error}
use Rattle.markdown_steps.specs.Checks.{checked, refused, ◌>>=◌}
use Rattle.markdown_steps.specs.Siblings.{Marks, marks_with, no_marks}
use Rattle.markdown_events.specs.declared.around.Around.{Around}
use Rattle.markdown_grammar.specs.declared.error_kind.ErrorKind.{ErrorKind}
use Rattle.markdown_events.specs.declared.event.Kind.TheVariants.{Enter, Exit}
use Rattle.markdown_events.specs.declared.role.Role.TheVariants.{Significant as significant, Transparent as transparent}
use Rattle.markdown_grammar.specs.declared.error_kind.ErrorKind.TheVariants.{Held, InvalidSlice, Misplaced, Unbalanced, UnfinishedBreak}
use Rattle.markdown_events.specs.declared.role.Part.TheVariants as parts

-- ---- The state of a container

-- a container, and what its items have given so far
pub record ContainerState : Type 0 where
  -- its content model at first, and the one for what follows
  pub initial_model : ContentModel
  pub model : ContentModel
  -- the place of the next item
  pub place : Place
  -- whether its last item is a break that waits for its line ending
  pub after_break : Bool
  pub inner : Summary

-- no item has given anything
abbrev pub nothing_yet : Summary
nothing_yet = record { nodes = nothing; label = nothing; part = λ way. None; mark = None; value = None }

-- a container at a place, before its items
abbrev pub fresh : ContentModel → Place → ContainerState
fresh h p = record { initial_model = h; model = h; place = p; after_break = false; inner = nothing_yet }

-- an item in a container, as a container before its own items
abbrev pub entered : ContainerState → ItemKind → ContainerState
entered top what = fresh (model_of top.model what) (inherited_in what top.place)

-- ---- Tests at an enter

-- this part has occurred
abbrev pub has_stood : Part → Summary → Bool
has_stood p i = is_some (i.part (path_to p))

-- one of these parts has occurred
abbrev pub has_one_of : List Part → Summary → Bool
has_one_of ps i = list_any (λ p. has_stood p i) ps

-- one more item keeps the rule; `stood` says whether any of some parts has occurred
abbrev pub allows_after : (List Part → Bool) → Rule → ItemKind → Bool
allows_after stood (only test) what = test what
allows_after stood (at_most_one ps) what = not (is_one_of ps what) || not (stood ps)
allows_after stood (none_of ps) what = not (is_one_of ps what)
allows_after stood (only_after ps test) what = not (stood ps) || test what
allows_after stood (only_before ps test) what = stood ps || (is_one_of ps what || test what)

-- one more item keeps the rule, after the items of this summary
abbrev pub allows : Rule → Summary → ItemKind → Bool
allows rule i what = allows_after (λ ps. has_one_of ps i) rule what

-- the tests of these rules, followed by others
abbrev pub rule_checks : ContentModel → List Rule → Summary → ItemKind → List (Bool × ErrorKind) → List (Bool × ErrorKind)
rule_checks h [] i what others = others
rule_checks h (rule ∷ rules) i what others = (allows rule i what, rule_error h rule) ∷ rule_checks h rules i what others

-- the tests of an item where it begins
abbrev pub enter_checks : Source → ContainerState → ItemKind → Point → List (Bool × ErrorKind)
enter_checks s top what start =
    (not top.after_break || is_line_ending what, UnfinishedBreak)
    ∷ rule_checks top.initial_model (rules top.initial_model) top.inner what
    ((not (top.place.in_table && is_table what), Misplaced)
    ∷ (not (is_frontmatter what) || is_some (byte_at s.bytes start), InvalidSlice) ∷ [])

-- ---- Tests at an exit

-- the container has what it requires
abbrev pub all_stood : ContentModel → Summary → Bool
all_stood character_reference i = has_stood parts.CharacterReferenceValue i
all_stood heading_atx i = has_stood parts.HeadingAtxSequence i
all_stood heading_setext i = has_stood parts.HeadingSetextUnderlineSequence i
all_stood code_fenced i = has_stood parts.CodeFencedFence i
all_stood math_flow i = has_stood parts.MathFlowFence i
all_stood list_ordered i = is_some i.value
all_stood _ i = true

-- the tests of an item where it ends
abbrev pub exit_checks : Source → ContainerState → ItemKind → Point → Point → ContainerState → List (Bool × ErrorKind)
exit_checks s top what a b own =
    (not own.after_break, UnfinishedBreak) ∷ (all_stood own.initial_model own.inner, missing_error own.initial_model) ∷ (is_read s top.model top.place top.after_break what a b, value_error s what a b) ∷ []

-- ---- The summary that a span gives at its exit

-- the summary for a path that begins with this part
abbrev pub kept_under : Source → Place → Part → PartPath → Point → Point → Summary → Option PartSummary
kept_under s p q itself a b i = Some (kept_from s p q a b i.nodes)
kept_under s p q (into r way) a b i = i.part (into r way)

-- the summaries of the parts; of the parts of each kind, the first counts
abbrev pub part_with : Source → Place → ItemKind → Point → Point → Summary → (PartPath → Option PartSummary) → PartPath → Option PartSummary
part_with s p what a b i old itself = None
part_with s p what a b i old (into q way) = elim (old (path_to q)) [ Some k ↦ old (into q way) | None ↦ cond (is_part q what) (kept_under s p q way a b i) None ]

-- the nodes of the first LabelText
abbrev pub label_with : ItemKind → Trees → Option PartSummary → Trees → Trees
label_with what ts (Some k) old = old
label_with what ts None old = cond (is_part parts.LabelText what) ts nothing

-- a position with another end
abbrev pub ending_at : UnistPoint → Option Position → Option Position
ending_at end None = None
ending_at end (Some here) = Some (record here { end = end })

-- the nodes, with another end for the last one
abbrev pub lengthened : UnistPoint → Trees → Trees
lengthened end nothing = nothing
lengthened end (node label children here nothing) = node label children (ending_at end here) nothing
lengthened end (node label children here (node other inner there rest)) = node label children here (lengthened end (node other inner there rest))

-- the nodes with those of one more item; a line ending after a break ends the break
abbrev pub nodes_with : Bool → Point → Trees → Trees → Trees
nodes_with true b made old = lengthened (to_unist b) old
nodes_with false b made old = join old made

-- the summary after one more item
abbrev pub with_child_summary : Source → ContainerState → ItemKind → Point → Point → ChildFacts → Summary → Summary
with_child_summary s top what a b children i = record {
  nodes = nodes_with top.after_break b (node_of s top.place what a b children i) top.inner.nodes;
  label = label_with what i.nodes (top.inner.part (path_to parts.LabelText)) top.inner.label;
  part = part_with s top.place what a b i top.inner.part;
  mark = option_or top.inner.mark (mark_given what i.mark);
  value = option_or top.inner.value (value_given s what a b i.value);
}

-- a container after one more item
abbrev pub with_child : Source → ContainerState → ItemKind → Point → Point → ChildFacts → Summary → ContainerState
with_child s top what a b children i = record {
  initial_model = top.initial_model;
  model = model_after top.model what (is_some i.mark);
  place = inherited_after what top.place;
  after_break = is_hard_break what;
  inner = with_child_summary s top what a b children i;
}

-- ---- The state

-- an open span: its start, its surroundings, the marks of the children before it, and, if it is significant, what it is
-- and the container around it
pub record OpenSpan : Type 0 where
  pub name : Name
  pub start : Point
  pub around : Around
  pub before : Marks
  pub outer : Option (ItemKind × ContainerState)

-- the open spans, the innermost first; the surroundings, the marks of the children so far, the columns of the table,
-- and the innermost container
pub record State : Type 0 where
  pub frames : List OpenSpan
  pub around : Around
  pub marks : Marks
  pub columns : Columns
  pub top : ContainerState

-- before the first event
abbrev pub opening : State
opening = record { frames = []; around = in_the_open; marks = no_marks; columns = no_columns; top = fresh any_content inherited_at_root }

-- ---- The steps

-- one more span is open
abbrev pub push : Name → Point → State → Option (ItemKind × ContainerState) → ContainerState → State
push name point st outer top = record {
  frames = record { name = name; start = point; around = st.around; before = st.marks; outer = outer } ∷ st.frames;
  around = under st.around (role_of name);
  marks = no_marks;
  columns = columns_entered st.top.place.in_table (role_of name) st.columns;
  top = top;
}

-- an enter, by the role of the span
abbrev pub enter_as : Source → Role → Name → Point → State → Result State ErrorAt
enter_as s (transparent _) name point st = Ok (push name point st None st.top)
enter_as s (significant what) name point st = checked (enter_checks s st.top what point) point (Ok (push name point st (Some (what, st.top)) (entered st.top what)))

-- the step of an enter: a span may begin here, and its container accepts it
unfoldable pub enter_step : Source → Name → Point → State → Result State ErrorAt
enter_step s name point st = checked ((may_begin st.around (role_of name), Held) ∷ []) point (enter_as s (role_of name) name point st)

-- an item is added to its container
unfoldable pub leave : Source → ItemKind → Point → Point → ChildFacts → ContainerState → ContainerState → Result ContainerState ErrorAt
leave s what start end children own top = checked (exit_checks s top what start end own) end (Ok (with_child s top what start end children own.inner))

-- the container around a span after its exit; a transparent span leaves it as it is
abbrev pub leave_to : Source → Point → Point → ChildFacts → ContainerState → Option (ItemKind × ContainerState) → Result ContainerState ErrorAt
leave_to s start end children own None = Ok own
leave_to s start end children own (Some outer) = leave s outer.0 start end children own outer.1

-- after the exit of the innermost span
abbrev pub pop : OpenSpan → List OpenSpan → State → ContainerState → State
pop f fs st top = record { frames = fs; around = f.around; marks = marks_with f.before (role_of f.name) st.marks; columns = columns_left (role_of f.name) st.marks st.columns; top = top }

-- an exit, by the open spans
abbrev pub exit_from : Source → Name → Point → List OpenSpan → State → Result State ErrorAt
exit_from s name point [] st = refused Unbalanced point
exit_from s name point (f ∷ fs) st =
    checked ((is_same_name f.name name, Unbalanced) ∷ []) point (leave_to s f.start point (child_facts st.marks st.columns) st.top f.outer >>= λ top. Ok (pop f fs st top))

-- the step of an exit
unfoldable pub exit_step : Source → Name → Point → State → Result State ErrorAt
exit_step s name point st = exit_from s name point st.frames st

-- a step, by the kind of its event
abbrev pub step_by : Kind → Source → Name → Point → State → Result State ErrorAt
step_by Enter s name point st = enter_step s name point st
step_by Exit s name point st = exit_step s name point st

-- the step of an event
abbrev pub step : Source → Event → State → Result State ErrorAt
step s event st = step_by event.kind s event.name event.point st

-- the steps of events, one after the other
unfoldable pub run : Source → List Event → State → Result State ErrorAt
run s [] st = Ok st
run s (event ∷ events) st = step s event st >>= run s events

-- ---- The whole

-- no span is open
abbrev pub no_open_span : List OpenSpan → Bool
no_open_span [] = true
no_open_span (f ∷ fs) = false

-- the tests after the last event
abbrev pub last_checks : State → List (Bool × ErrorKind)
last_checks st = (no_open_span st.frames, Unbalanced) ∷ (not st.top.after_break, UnfinishedBreak) ∷ []

-- the point of an event, or the start of the document if there is none
abbrev pub point_of : Option Event → Point
point_of None = record { line = 1; column = 1; index = 0; vs = 0 }
point_of (Some event) = event.point

-- a Root with the nodes of all items
abbrev pub tree_of : List Event → State → Tree
tree_of events st = record { label = root; children = st.top.inner.nodes; position = Some (extent_of events) }

-- the tree of the events, or the first refusal
abbrev pub compiled : Source → List Event → Result Tree ErrorAt
compiled s events = run s events opening >>= λ st. checked (last_checks st) (point_of (last_event events)) (Ok (tree_of events st))
