-- The values of the program, as those of the steps of a compilation.
use Rattle.std.specs.Prelude.{◌≡◌, ◌||◌, is_some, not, ℕ, Bool, true, false, Option, Some, None, Result, Ok, Err, List, [], ◌∷◌, ◌++◌, cond, reverse}
use Rattle.markdown_events.specs.Names.{role_of}
use Rattle.markdown_events.specs.declared.role.Content.{Content}
use Rattle.markdown_events.specs.declared.role.ItemKind.{ItemKind}
use Rattle.markdown_events.specs.declared.role.ItemKind.TheVariants as item_kinds
use Rattle.markdown_events.specs.declared.role.Role.{Role}
use Rattle.markdown_events.specs.declared.role.Role.TheVariants.{Transparent as transparent, Significant as significant}
use Rattle.markdown_events.specs.declared.message.Fault.{Fault}
use Rattle.markdown_events.specs.declared.message.Fault.TheVariants as faults
use Rattle.markdown_grammar.specs.Refusals.{Says}
use Rattle.markdown_steps.specs.Visits.{visits_by_owner}
use Rattle.markdown_containers.specs.declared.container.Container.{Container}
use Rattle.markdown_tree.specs.declared.context.Context.{Context}
use Rattle.markdown_tree.specs.declared.context.Frame.{Frame}
use Rattle.markdown_tree.specs.declared.context.TokenStop.{TokenStop}
use Rattle.markdown_tree.specs.declared.context.TokenStop.TheVariants.{AtEnd, AtStart}
use Rattle.markdown_containers.specs.declared.open_container.OpenContainer.{OpenContainer}
use Rattle.markdown_parts.specs.Nest.{around_innermost, innermost}
use Rattle.markdown_grammar.specs.declared.error_kind.Stop.{Stop}
use Rattle.markdown_grammar.specs.declared.error_kind.Stop.TheVariants as stops
use Rattle.markdown_events.specs.declared.event.Point.{Point}
use Rattle.markdown_steps.specs.Compiler.{ContainerState, OpenSpan, State, enter_checks, fresh, leave_to}
use Rattle.markdown_grammar.specs.Grammar.{model_of, leaf}
use Rattle.markdown_containers.specs.ContainerStates.{Gives, Stops, container_state_of}
use Rattle.markdown_containers.specs.Containers.{IsFresh, misfit_of, current_model_of, initial_model_of}
use Rattle.markdown_parts.specs.Marks.{marks_of}
use Rattle.markdown_parts.specs.PartsSoFar.{first_failing, place_with}
use Rattle.markdown_grammar.specs.Refusals.{ErrorAt}
use Rattle.markdown_grammar.specs.Attributes.{Place, line_ending_is_text}
use Rattle.markdown_grammar.specs.Document.{Source}
use Rattle.markdown_events.specs.declared.event.Name.{Name}
use Rattle.markdown_events.specs.Around.{under}
use Rattle.markdown_blocks.specs.Columns.{columns_of}
use Rattle.markdown_blocks.specs.Parents.{is_parent}
use Rattle.markdown_steps.specs.Columns.{columns_entered, columns_left, child_facts}
use Rattle.markdown_grammar.specs.Items.{is_line_ending}
use Rattle.markdown_steps.specs.Siblings.{marks_with, no_marks}

-- a fault agrees with the expected result: it names the refusal and its point
abbrev pub Fails : {Y : Type 0} → Fault → Result Y ErrorAt → Type 0
Fails (faults.Memory error) expected = Unit {0}
Fails (faults.Message message) expected = (why : ErrorAt) × (expected ≡ Err why) × Says message why.error_kind why.point

-- a function returned the expected result, seen in this way, or a fault that agrees with it
abbrev pub Completes : {X Y : Type 0} → (X → Y) → Result X Fault → Result Y ErrorAt → Type 0
Completes seen (Ok x) expected = expected ≡ Ok (seen x)
Completes seen (Err fault) expected = Fails fault expected

-- ---- The state

-- the container around an open significant span: that of the innermost leaf, or otherwise the next one on the stack
abbrev pub outer_of : Role → Bool → Option ContainerState → List OpenContainer → Option (ItemKind × ContainerState)
outer_of (transparent k) in_table held hs = None
outer_of (significant what) in_table (Some around) hs = Some (what, around)
outer_of (significant what) in_table None [] = None
outer_of (significant what) in_table None (h ∷ hs) = Some (what, container_state_of in_table None h)

-- the container around a leaf, as it is left for the spans outside
abbrev pub leaf_left : Role → Option ContainerState → Option ContainerState
leaf_left (transparent k) held = held
leaf_left (significant what) held = None

-- the open containers, as they are left for the spans outside
abbrev pub containers_left : Role → Option ContainerState → List OpenContainer → List OpenContainer
containers_left (significant what) None (h ∷ hs) = hs
containers_left role held hs = hs

-- the open spans, the innermost first
abbrev pub opens : List Frame → Option ContainerState → List OpenContainer → List OpenSpan
opens [] held hs = []
opens (f ∷ fs) held hs = record {
  name = f.name;
  start = f.start;
  around = f.outside.around;
  before = marks_of f.outside.marks;
  outer = outer_of (role_of f.name) f.in_table held hs;
} ∷ opens fs (leaf_left (role_of f.name) held) (containers_left (role_of f.name) held hs)

-- the innermost container that the program keeps; a leaf has none of its own
abbrev pub kept_top : Context → ContainerState
kept_top c = container_state_of c.in_table c.pending (innermost c.containers)

-- the place of items in a leaf, which has no items
abbrev pub leaf_place : Bool → Place
leaf_place in_table = place_with true in_table None

-- the innermost container; a leaf has kept nothing
abbrev pub top_of : Context → ContainerState
top_of c = cond c.is_leaf (fresh leaf (leaf_place c.in_table)) (kept_top c)

-- the container around a leaf
abbrev pub leaf_container : Context → Option ContainerState
leaf_container c = cond c.is_leaf (Some (kept_top c)) None

-- a context with these open spans in place of its own, as the state of a compilation
abbrev pub state_in : List Frame → Context → State
state_in frames c = record {
  frames = opens (reverse frames) (leaf_container c) (around_innermost c.containers);
  around = c.interior.around;
  marks = marks_of c.interior.marks;
  columns = columns_of c.columns;
  top = top_of c;
}

-- a context, as the state of a compilation
abbrev pub state_of : Context → State
state_of c = state_in c.frames.items c

-- a context with one more open span, as the state of a compilation
abbrev pub state_with : Frame → Context → State
state_with frame c = state_in (c.frames.items ++ frame ∷ []) c

-- a context took a token from one point to another: it has the expected state, or the stop at one of them agrees with what was
-- expected
abbrev pub TakesToken : Context → Point → Point → Result (Unit {0}) TokenStop → Result State ErrorAt → Type 0
TakesToken context start end (Ok _) expected = expected ≡ Ok (state_of context)
TakesToken context start end (Err (AtStart stop)) expected = Stops stop start expected
TakesToken context start end (Err (AtEnd stop)) expected = Stops stop end expected

-- the context after a function is the expected state, unless memory ran out
abbrev pub Reaches : {X : Type 0} → Context → Point → Result X Stop → Result State ErrorAt → Type 0
Reaches new point result expected = Gives (λ _. state_of new) point result expected

-- the innermost container after a function is the expected one, unless memory ran out
abbrev pub ReachesTop : {X : Type 0} → Context → Point → Result X Stop → Result ContainerState ErrorAt → Type 0
ReachesTop new point result expected = Gives (λ _. top_of new) point result expected

-- a leaf begins: nothing changes in the context
pub record OpenedLeaf (s : Source) (what : ItemKind) (point : Point) (old new : Context) : Type 0 where
  pub taken : first_failing (enter_checks s (top_of old) what point) ≡ None
  pub leaf_row : model_of (current_model_of (innermost old.containers).container) what ≡ leaf
  pub same : new ≡ old

-- a container begins: it is the innermost, inside the one that was
pub record OpenedContainer (s : Source) (what : ItemKind) (point : Point) (old new : Context) : Type 0 where
  pub taken : first_failing (enter_checks s (top_of old) what point) ≡ None
  pub fresh_container : IsFresh (innermost new.containers).container (model_of (current_model_of (innermost old.containers).container) what)
  pub line_endings : (innermost new.containers).line_endings ≡ line_ending_is_text what
  pub nodes : (innermost new.containers).nodes.items ≡ []
  pub outer : around_innermost new.containers ≡ innermost old.containers ∷ around_innermost old.containers
  pub others : new ≡ record old { containers = new.containers }

-- a container without nodes was put into the innermost one
pub record PutIn (what : ItemKind) (container : Container) (old new : Context) : Type 0 where
  pub is : (innermost new.containers).container ≡ container
  pub line_endings : (innermost new.containers).line_endings ≡ line_ending_is_text what
  pub nodes : (innermost new.containers).nodes.items ≡ []
  pub outer : around_innermost new.containers ≡ innermost old.containers ∷ around_innermost old.containers
  pub others : new ≡ record old { containers = new.containers }

-- a significant span begins, as a leaf or as a container, or is refused
abbrev pub Opened : Source → ItemKind → Point → Context → Context → Result Bool Stop → Type 0
Opened s what point old new (Ok true) = OpenedLeaf s what point old new
Opened s what point old new (Ok false) = OpenedContainer s what point old new
Opened s what point old new (Err (stops.Refused why)) = first_failing (enter_checks s (top_of old) what point) ≡ Some why
Opened s what point old new (Err (stops.Memory error)) = Unit {0}

-- the frame of a span that begins, with its surroundings
abbrev pub frame_of : Name → Point → Context → Frame
frame_of name start c = record { start = start; outside = c.interior; name = name; in_table = c.in_table }

-- the interior of a span begins; its frame is not on the stack yet
pub record Begun (role : Role) (is_leaf in_table : Bool) (old new : Context) : Type 0 where
  pub marks : marks_of new.interior.marks ≡ no_marks
  pub columns : columns_of new.columns ≡ columns_entered old.in_table role (columns_of old.columns)
  pub others : new ≡ record old { columns = new.columns; interior = record { around = under old.interior.around role; marks = new.interior.marks }; is_leaf = is_leaf; in_table = in_table }

-- a span that contains no span and gives nothing is one more sibling
pub record Passed (role : Role) (old new : Context) : Type 0 where
  pub marks : marks_of new.interior.marks ≡ marks_with (marks_of old.interior.marks) role no_marks
  pub columns : columns_of new.columns ≡ columns_left role no_marks (columns_entered old.in_table role (columns_of old.columns))
  pub others : new ≡ record old { columns = new.columns; interior = record { around = old.interior.around; marks = new.interior.marks } }

-- ---- The end of a span

-- the innermost span, a leaf, ends: the innermost container accepted it
pub record LeafEnds (what : ItemKind) (c : Context) : Type 0 where
  pub initial_model : model_of (current_model_of (innermost c.containers).container) what ≡ leaf
  pub fits : misfit_of (innermost c.containers).container what ≡ None
  pub awaited : (not (is_some c.pending) || is_line_ending what) ≡ true

-- the innermost span, which has a container of its own, ends: the container around it accepted it
pub record ContainerEnds (what : ItemKind) (c : Context) : Type 0 where
  pub outer : OpenContainer
  pub others : List OpenContainer
  pub stack : around_innermost c.containers ≡ outer ∷ others
  pub initial_model : initial_model_of (innermost c.containers).container ≡ model_of (current_model_of outer.container) what
  pub fits : misfit_of outer.container what ≡ None

-- the innermost span may end, by whether it is a leaf and by its role; a transparent span has no conditions
abbrev pub EndsAs : Bool → Role → Context → Type 0
EndsAs leaves (transparent k) c = Unit {0}
EndsAs true (significant what) c = LeafEnds what c
EndsAs false (significant what) c = ContainerEnds what c

-- the innermost span may end, by its role
abbrev pub Ends : Role → Context → Type 0
Ends role c = EndsAs c.is_leaf role c

-- the container around the innermost span, after the end of that span
abbrev pub left_to : Source → Role → Frame → Point → Context → Result ContainerState ErrorAt
left_to s role f end c = leave_to s f.start end (child_facts (marks_of c.interior.marks) (columns_of c.columns)) (top_of c) (outer_of role f.in_table (leaf_container c) (around_innermost c.containers))

-- the container around the innermost span, after the end of that span, if the span is significant
abbrev pub item_left : Source → ItemKind → Frame → Point → Context → Result ContainerState ErrorAt
item_left s what f end c = left_to s (significant what) f end c

-- an item is not a parent
abbrev pub IsNoParent : ItemKind → Type 0
IsNoParent what = (content : Content) → what ≡ item_kinds.Content content → is_parent content ≡ false

-- the number of nodes visited at the end of the innermost span
abbrev pub left_visits : Role → Frame → Context → ℕ
left_visits role f c = visits_by_owner (outer_of role f.in_table (leaf_container c) (around_innermost c.containers)) (top_of c).inner

-- the innermost span has left the stack, and the container around it is on top
pub record Closed (role : Role) (old new : Context) : Type 0 where
  pub frames : new.frames ≡ old.frames
  pub marks : new.interior.marks ≡ old.interior.marks
  pub columns : columns_of new.columns ≡ columns_left role (marks_of old.interior.marks) (columns_of old.columns)
  pub leaf : leaf_container new ≡ leaf_left role (leaf_container old)
  pub containers : around_innermost new.containers ≡ containers_left role (leaf_container old) (around_innermost old.containers)
