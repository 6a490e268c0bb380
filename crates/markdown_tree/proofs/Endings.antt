-- What the exit of a span makes of the state, in the program and in the steps.
use Rattle.std.proofs.Common.{◌≡◌, ◌≢◌, ◌<◌, ℕ, arith, length, Bool, true, false, ◌||◌, not, is_some, List, [], ◌∷◌, ◌++◌, Option, None, Some, Result, Ok, Vec, Global, refl, sym, ap, ◌∙◌, cond, reverse, subst}
use Rattle.std.specs.Prelude.{if◌then◌else◌}
use Rattle.markdown_events.specs.Names.{is_same_name, role_of}
use Rattle.markdown_events.specs.declared.event.Name.{Name}
use Rattle.markdown_events.specs.declared.event.Point.{Point}
use Rattle.markdown_steps.specs.ChildFacts.{ChildFacts}
use Rattle.markdown_events.specs.declared.role.ItemKind.{ItemKind}
use Rattle.markdown_events.specs.declared.role.ItemKind.TheVariants.{Content as content, Part as part}
use Rattle.markdown_events.specs.declared.role.Content.{Content}
use Rattle.markdown_events.specs.declared.role.Content.TheVariants as contents
use Rattle.markdown_events.specs.declared.role.Part.{Part}
use Rattle.markdown_events.specs.declared.role.Part.TheVariants as parts
use Rattle.markdown_events.specs.declared.role.Role.{Role}
use Rattle.markdown_events.specs.declared.role.Role.TheVariants.{Transparent as transparent, Significant as significant}
use Rattle.markdown_events.specs.declared.unist.Position.{Position}
use Rattle.markdown_tree.specs.declared.context.Context.{Context}
use Rattle.markdown_tree.specs.declared.context.Frame.{Frame}
use Rattle.markdown_containers.specs.declared.container.Container.{Container}
use Rattle.markdown_containers.specs.declared.open_container.OpenContainer.{OpenContainer}
use Rattle.markdown_parts.specs.declared.marks.Marks.{Marks as OpenMarks}
use Rattle.markdown_nodes.specs.View.{views}
use Rattle.markdown_nodes.specs.declared.mdast.Node.{Node}
use Rattle.markdown_grammar.specs.declared.error_kind.ErrorKind.{ErrorKind}
use Rattle.markdown_grammar.specs.declared.error_kind.ErrorKind.TheVariants.{Unbalanced, UnfinishedBreak}
use Rattle.markdown_grammar.specs.declared.error_kind.Stop.{Stop}
use Rattle.markdown_grammar.specs.declared.error_kind.Stop.TheVariants as stops
use Rattle.markdown_steps.specs.Columns.{columns_left, child_facts}
use Rattle.markdown_steps.specs.Compiler.{ContainerState, OpenSpan, State, with_child, enter_checks, exit_from, exit_step, fresh, leave, leave_to, rule_checks, pop}
use Rattle.markdown_grammar.specs.Refusals.{missing_error, value_error}
use Rattle.markdown_grammar.specs.Grammar.{rules}
use Rattle.markdown_steps.specs.Compiler.{all_stood}
use Rattle.markdown_grammar.specs.Grammar.{ContentModel, code_fenced, model_of, leaf, list_item, list_ordered, marked_item, marked_numbered_item, math_flow, numbered_item}
use Rattle.markdown_containers.specs.Containers.{is_part_model, is_model_of, misfit_of, initial_model_of, summary_with}
use Rattle.markdown_parts.specs.PartsSoFar.{first_failing}
use Rattle.markdown_grammar.specs.Items.{is_line_ending, is_table}
use Rattle.markdown_grammar.specs.Values.{is_read}
use Rattle.markdown_grammar.specs.Refusals.{ErrorAt}
use Rattle.markdown_steps.specs.Checks.{checked, passes, refused, ◌>>=◌}
use Rattle.markdown_steps.specs.Siblings.{marks_with}
use Rattle.markdown_grammar.specs.Document.{Source}
use Rattle.markdown_parts.specs.Nest.{IsPut, around_innermost, first_or, innermost, with_innermost}
use Rattle.markdown_parts.specs.declared.nest.Nest.{Nest}
use Rattle.markdown_parts.proofs.Nesting.{put_around, put_innermost, turned, written_around, written_innermost}
use Rattle.markdown_containers.specs.Takings.{TakesParent}
use Rattle.markdown_containers.specs.declared.container.Container.TheVariants as containers
use Rattle.markdown_blocks.specs.Parents.{is_parent}
use Rattle.markdown_steps.specs.Columns.{no_columns}
use Rattle.markdown_containers.specs.ContainerStates.{Gives, Stops, container_state_of, summary_of_container}
use Rattle.markdown_tree.specs.States.{Closed, Ends, EndsAs, ContainerEnds, containers_left, kept_top, leaf_container, leaf_left, leaf_place, left_to, left_visits, opens, outer_of, state_in, state_of, state_with, top_of}
use Rattle.markdown_blocks.specs.Columns.{columns_of}
use Rattle.markdown_parts.specs.Marks.{marks_of}
use Rattle.markdown_steps.specs.Visits.{exit_visits, visits_at_end, visits_by_owner}
use Rattle.markdown_steps.specs.Well.{AllStand, Stands, Well, is_transparent}
use Rattle.markdown_tree.proofs.Beginnings.{no_leaf_row}
use Rattle.markdown_events.proofs.Booleans.{and-right}
use Rattle.markdown_tree.proofs.Misfits.{checks_after, left_none, misfit_first, none_fails}
use Rattle.markdown_containers.proofs.Stopping.{gives_same}
use Rattle.markdown_steps.proofs.WellKept.{taken-awaited}

-- ---- What is known of a span that ends

-- a container that takes an item has no rule against it
fits_of : (s : Source) (in_table : Bool) (pending : Option Position) (h : OpenContainer) (what : ItemKind) (start : Point) → passes (enter_checks s (container_state_of in_table pending h) what start) ≡ true → misfit_of h.container what ≡ None
fits_of s in_table pending h what start passed =
    let top : ContainerState = container_state_of in_table pending h in
    let others : List (Bool × ErrorKind) = checks_after s in_table what start in
    let tests : List (Bool × ErrorKind) = rule_checks (initial_model_of h.container) (rules (initial_model_of h.container)) top.inner what others in
    left_none (misfit_of h.container what) (first_failing others)
    (sym (misfit_first h.container top.inner what others refl) ∙ none_fails tests (and-right (not top.after_break || is_line_ending what) (passes tests) passed))

-- a leaf, or a container around which there is another
stands_ends : (s : Source) (o : OpenSpan) (role : Role) (in_table leaves : Bool) (c : Context) (hs : List OpenContainer) (Outside : ContainerState → Type 0) → role_of o.name ≡ role → around_innermost c.containers ≡ hs
    → Stands s o (cond leaves (fresh leaf (leaf_place c.in_table)) (kept_top c)) Outside (outer_of role in_table (cond leaves (Some (kept_top c)) None) hs) → EndsAs leaves role c
stands_ends s o (transparent k) in_table leaves c hs Outside is at stands = tt
stands_ends s o (significant what) in_table true c hs Outside is at stands =
    let own : ContainerState = fresh leaf (leaf_place c.in_table) in
    record {
      initial_model = sym (stands.0).initial_model;
      fits = fits_of s c.in_table c.pending (innermost c.containers) what o.start (stands.0).passed;
      awaited = taken-awaited s o what own (kept_top c) stands.0;
    }
stands_ends s o (significant what) in_table false c [] Outside is at stands = let wrong : true ≡ false = sym stands.0 ∙ ap is_transparent is in absurd cc
stands_ends s o (significant what) in_table false c (h ∷ hs) Outside is at stands = record {
  outer = h;
  others = hs;
  stack = at;
  initial_model = (stands.0).initial_model;
  fits = fits_of s in_table None h what o.start (stands.0).passed;
}

-- the open span that a frame is
abbrev open_of : Frame → Context → OpenSpan
open_of f c = record {
  name = f.name;
  start = f.start;
  around = f.outside.around;
  before = marks_of f.outside.marks;
  outer = outer_of (role_of f.name) f.in_table (leaf_container c) (around_innermost c.containers);
}

-- those around it
abbrev around_it : Frame → List Frame → Context → List OpenSpan
around_it f fs c = opens (reverse fs) (leaf_left (role_of f.name) (leaf_container c)) (containers_left (role_of f.name) (leaf_container c) (around_innermost c.containers))

-- the innermost of the open spans, and those around it
last_in : (c : Context) (f : Frame) (fs : List Frame) → (state_in (fs ++ f ∷ []) c).frames ≡ open_of f c ∷ around_it f fs c
last_in c f fs = ap (λ (x : List Frame). opens x (leaf_container c) (around_innermost c.containers)) (turned fs f)

last_open : (c : Context) (f : Frame) (fs : List Frame) → c.frames.items ≡ fs ++ f ∷ [] → (state_of c).frames ≡ open_of f c ∷ around_it f fs c
last_open c f fs at = ap (λ (x : List Frame). (state_in x c).frames) at ∙ last_in c f fs

-- where all open spans stand, the innermost may end
pub ends : (s : Source) (c : Context) (f : Frame) (role : Role) → Well s (state_with f c) → role ≡ role_of f.name → Ends role c
ends s c f role well is =
    let stands : AllStand s (open_of f c ∷ around_it f c.frames.items c) (top_of c) = subst (λ (fs : List OpenSpan). AllStand s fs (top_of c)) (last_in c f c.frames.items) well in
    subst (λ (r : Role). Ends r c) (sym is)
    (stands_ends s (open_of f c) (role_of f.name) f.in_table c.is_leaf c (around_innermost c.containers) (AllStand s (around_it f c.frames.items c)) refl refl stands)

-- ---- The step of an exit

-- nothing is popped where no frame is left
pub none_left : (fs : List Frame) (n : ℕ) (last : Frame → Frame) → n ≡ length fs → ((d : Frame) → 0 < n → None ≡ Some (last d)) → fs ≡ []
none_left [] n last l h = refl
none_left (f ∷ fs) n last l h = let more : 0 < n = omega (arith, l) in let wrong : None ≡ Some (last f) = h f more in absurd cc

-- where no span is open
pub exit_none : (s : Source) (name : Name) (point : Point) (c : Context) → c.frames.items ≡ [] → exit_step s name point (state_of c) ≡ refused Unbalanced point
unfolding exit_step
exit_none s name point c none = ap (λ (x : List Frame). exit_from s name point (opens (reverse x) (leaf_container c) (around_innermost c.containers)) (state_of c)) none

-- the step by whether the names are the same
exit_by : (s : Source) (name : Name) (point : Point) (c : Context) (f : Frame) (fs : List Frame) (same : Bool) → is_same_name f.name name ≡ same
    → exit_step s name point (state_in (fs ++ f ∷ []) c)
    ≡ cond same (left_to s (role_of f.name) f point c >>= λ top. Ok (pop (open_of f c) (around_it f fs c) (state_of c) top)) (refused Unbalanced point)
unfolding exit_step
exit_by s name point c f fs same is =
    ap (λ (x : List OpenSpan). exit_from s name point x (state_in (fs ++ f ∷ []) c)) (last_in c f fs)
    ∙ ap (λ (b : Bool). cond b (left_to s (role_of f.name) f point c >>= λ top. Ok (pop (open_of f c) (around_it f fs c) (state_of c) top)) (refused Unbalanced point)) is

-- where another span is open
pub exit_other : (s : Source) (name : Name) (point : Point) (c : Context) (f : Frame) (fs : List Frame) → c.frames.items ≡ fs ++ f ∷ [] → is_same_name f.name name ≡ false → exit_step s name point (state_of c) ≡ refused Unbalanced point
exit_other s name point c f fs at is = ap (λ (x : List Frame). exit_step s name point (state_in x c)) at ∙ exit_by s name point c f fs false is

-- where its container does not take it
pub exit_stops : (s : Source) (name : Name) (point : Point) (old : Context) (f : Frame) (role : Role) (stop : Stop) → role ≡ role_of f.name
    → is_same_name f.name name ≡ true → Stops stop point (left_to s role f point old) → Stops stop point (exit_step s name point (state_with f old))
exit_stops s name point old f role (stops.Memory error) is same left = tt
exit_stops s name point old f role (stops.Refused why) is same left =
    exit_by s name point old f old.frames.items true same
    ∙ (λ t. left_to s (sym is t) f point old >>= λ top. Ok (pop (open_of f old) (around_it f old.frames.items old) (state_of old) top))
    ∙ ap (λ (r : Result ContainerState ErrorAt). r >>= λ top. Ok (pop (open_of f old) (around_it f old.frames.items old) (state_of old) top)) left

-- where it takes it
pub exit_done : (s : Source) (name : Name) (point : Point) (old mid : Context) (f : Frame) (role : Role) (marks : OpenMarks) → role ≡ role_of f.name
    → is_same_name f.name name ≡ true → left_to s role f point old ≡ Ok (top_of mid) → Closed role old mid
    → marks_of marks ≡ marks_with (marks_of f.outside.marks) role (marks_of mid.interior.marks)
    → exit_step s name point (state_with f old) ≡ Ok (state_of (record mid { interior = record { around = f.outside.around; marks = marks } }))
exit_done s name point old mid f role marks is same left pops with =
    let on : ContainerState → Result State ErrorAt = λ top. Ok (pop (open_of f old) (around_it f old.frames.items old) (state_of old) top) in
    exit_by s name point old f old.frames.items true same
    ∙ (λ t. left_to s (sym is t) f point old >>= on)
    ∙ ap (λ (r : Result ContainerState ErrorAt). r >>= on) left
    ∙ (λ t. Ok (record {
      frames = ((λ u. opens (reverse old.frames.items) (leaf_left (sym is u) (leaf_container old)) (containers_left (sym is u) (leaf_container old) (around_innermost old.containers)))
          ∙ (λ u. opens (reverse (sym pops.frames u).items) (sym pops.leaf u) (sym pops.containers u))) t;
      around = f.outside.around;
      marks = ((λ u. marks_with (marks_of f.outside.marks) (sym is u) (marks_of (sym pops.marks u))) ∙ sym with) t;
      columns = ((λ u. columns_left (sym is u) (marks_of old.interior.marks) (columns_of old.columns)) ∙ sym pops.columns) t;
      top = top_of mid;
    }))

-- ---- The end of a container

-- no break waits
no_break : (pending : Option Position) → is_some pending ≡ false → pending ≡ None
no_break None h = refl
no_break (Some here) h = let z : ⊥ = cc in absurd z

-- it goes into the container around it
container_leaves : (s : Source) (what : ItemKind) (f : Frame) (end : Point) (c : Context) (outer : OpenContainer) (others : List OpenContainer) → c.is_leaf ≡ false → around_innermost c.containers ≡ outer ∷ others
    → left_to s (significant what) f end c ≡ leave s what f.start end (child_facts (marks_of c.interior.marks) (columns_of c.columns)) (kept_top c) (container_state_of f.in_table None outer)
container_leaves s what f end c outer others grows at =
    λ t. leave_to s f.start end (child_facts (marks_of c.interior.marks) (columns_of c.columns)) (cond (grows t) (fresh leaf (leaf_place c.in_table)) (kept_top c))
    (outer_of (significant what) f.in_table (cond (grows t) (Some (kept_top c)) None) (at t))

-- where a break waits for its line ending
pub container_waits : (s : Source) (what : ItemKind) (f : Frame) (end : Point) (c : Context) → c.is_leaf ≡ false → ContainerEnds what c → is_some c.pending ≡ true → left_to s (significant what) f end c ≡ refused UnfinishedBreak end
unfolding leave
container_waits s what f end c grows h waits =
    let children : ChildFacts = child_facts (marks_of c.interior.marks) (columns_of c.columns) in
    let own : ContainerState = kept_top c in
    let top : ContainerState = container_state_of f.in_table None h.outer in
    let out : Result ContainerState ErrorAt = Ok (with_child s top what f.start end children own.inner) in
    container_leaves s what f end c h.outer h.others grows h.stack
    ∙ (λ t. cond (not (waits t)) (checked ((all_stood own.initial_model own.inner, missing_error own.initial_model) ∷ (is_read s top.model top.place top.after_break what f.start end, value_error s what f.start end) ∷ []) end out) (refused UnfinishedBreak end))

-- where none does
pub container_left : (s : Source) (what : ItemKind) (f : Frame) (end : Point) (c : Context) (outer : OpenContainer) (others : List OpenContainer) → c.is_leaf ≡ false → around_innermost c.containers ≡ outer ∷ others → is_some c.pending ≡ false
    → left_to s (significant what) f end c ≡ leave s what f.start end (child_facts (marks_of c.interior.marks) (columns_of c.columns)) (container_state_of c.in_table None (innermost c.containers)) (container_state_of f.in_table None outer)
container_left s what f end c outer others grows at none =
    container_leaves s what f end c outer others grows at
    ∙ (λ t. leave s what f.start end (child_facts (marks_of c.interior.marks) (columns_of c.columns)) (container_state_of c.in_table (no_break c.pending none t) (innermost c.containers)) (container_state_of f.in_table None outer))

-- where it is on top then
pub container_gives : (s : Source) (what : ItemKind) (f : Frame) (end : Point) (old new : Context) (outer : OpenContainer) (others : List OpenContainer) (result : Result (Unit {0}) Stop) → old.is_leaf ≡ false → around_innermost old.containers ≡ outer ∷ others
    → is_some old.pending ≡ false → new.is_leaf ≡ old.is_leaf → new.pending ≡ old.pending → new.in_table ≡ f.in_table
    → Gives {X = Unit {0}} {Y = ContainerState} (λ x. container_state_of f.in_table None (innermost new.containers)) end result (leave s what f.start end (child_facts (marks_of old.interior.marks) (columns_of old.columns)) (container_state_of old.in_table None (innermost old.containers)) (container_state_of f.in_table None outer))
    → Gives {X = Unit {0}} {Y = ContainerState} (λ x. top_of new) end result (left_to s (significant what) f end old)
container_gives s what f end old new outer others result grows at none same_leaf same_break same_table given =
    let after : Result ContainerState ErrorAt = leave s what f.start end (child_facts (marks_of old.interior.marks) (columns_of old.columns)) (container_state_of old.in_table None (innermost old.containers)) (container_state_of f.in_table None outer) in
    let tops : top_of new ≡ container_state_of f.in_table None (innermost new.containers) =
    (λ t. cond ((same_leaf ∙ grows) t) (fresh leaf (leaf_place new.in_table)) (kept_top new)) ∙ (λ t. container_state_of (same_table t) ((same_break ∙ no_break old.pending none) t) (innermost new.containers)) in
    gives_same (λ x. top_of new) end result after (left_to s (significant what) f end old) (container_left s what f end old outer others grows at none)
    (subst (λ (h : ContainerState). Gives {X = Unit {0}} {Y = ContainerState} (λ x. h) end result after) (sym tops) given)

-- the same by the containers once the innermost is taken out, and once the one around it has taken it
pub closed_gives : (s : Source) (what : ItemKind) (f : Frame) (end : Point) (old new : Context) (rest : Nest OpenContainer) (own lent taken : OpenContainer) (result : Result (Unit {0}) Stop)
    → old.is_leaf ≡ false → is_some old.pending ≡ false → IsPut own rest old.containers → lent ≡ innermost rest
    → new.is_leaf ≡ old.is_leaf → new.pending ≡ old.pending → new.in_table ≡ f.in_table → new.containers ≡ with_innermost rest taken
    → Gives {X = Unit {0}} {Y = ContainerState} (λ x. container_state_of f.in_table None taken) end result (leave s what f.start end (child_facts (marks_of old.interior.marks) (columns_of old.columns)) (container_state_of old.in_table None own) (container_state_of f.in_table None lent))
    → Gives {X = Unit {0}} {Y = ContainerState} (λ x. top_of new) end result (left_to s (significant what) f end old)
closed_gives s what f end old new rest own lent taken result grows none put is_lent same_leaf same_break same_table written given =
    let top : innermost new.containers ≡ taken = ap (λ (n : Nest OpenContainer). innermost n) written ∙ written_innermost rest taken in
    let children : ChildFacts = child_facts (marks_of old.interior.marks) (columns_of old.columns) in
    container_gives s what f end old new (innermost rest) (around_innermost rest) result grows (put_around rest old.containers own put) none same_leaf same_break same_table
    (gives_same (λ x. container_state_of f.in_table None (innermost new.containers)) end result _ _
    (λ t. leave s what f.start end children (container_state_of old.in_table None (put_innermost rest old.containers own put t)) (container_state_of f.in_table None (sym is_lent t)))
    (subst (λ (h : OpenContainer). Gives {X = Unit {0}} {Y = ContainerState} (λ x. container_state_of f.in_table None h) end result (leave s what f.start end children (container_state_of old.in_table None own) (container_state_of f.in_table None lent))) (sym top) given))

-- what is taken out is the container that ends, and what it is lent to is the one around it
pub closed_own : (what : ItemKind) (c : Context) (rest : Nest OpenContainer) (own lent : OpenContainer) (ends : ContainerEnds what c)
    → IsPut own rest c.containers → lent ≡ innermost rest
    → (innermost c.containers ≡ own) × (ends.outer ≡ lent)
closed_own what c rest own lent ends put is_lent = (
  put_innermost rest c.containers own put,
  ap (λ (hs : List OpenContainer). first_or hs ends.outer) (sym ends.stack ∙ put_around rest c.containers own put) ∙ sym is_lent,
)

-- the context after it
pub closed_so : (what : ItemKind) (old new : Context) (rest : Nest OpenContainer) (own taken : OpenContainer)
    → old.is_leaf ≡ false → IsPut own rest old.containers
    → new.frames ≡ old.frames → new.interior.marks ≡ old.interior.marks → new.is_leaf ≡ old.is_leaf → new.containers ≡ with_innermost rest taken
    → columns_of new.columns ≡ columns_left (significant what) (marks_of old.interior.marks) (columns_of old.columns) → Closed (significant what) old new
closed_so what old new rest own taken grows put same_frames same_marks same_leaf written left = record {
  frames = same_frames;
  marks = same_marks;
  columns = left;
  leaf = λ t. cond ((same_leaf ∙ grows) t) (Some (kept_top new)) None;
  containers = ap (λ (n : Nest OpenContainer). around_innermost n) written ∙ written_around rest taken
      ∙ (λ t. containers_left (significant what) (cond (sym grows t) (Some (kept_top old)) None) (sym (put_around rest old.containers own put) t));
}

-- ---- The end of a leaf

-- the innermost container has taken it
pub leaf_gives : (s : Source) (what : ItemKind) (f : Frame) (end : Point) (old new : Context) (lent taken : OpenContainer) (result : Result (Unit {0}) Stop)
    → old.is_leaf ≡ true → lent ≡ innermost old.containers → new.is_leaf ≡ false → new.in_table ≡ old.in_table → new.containers ≡ with_innermost old.containers taken
    → Gives {X = Unit {0}} {Y = ContainerState} (λ x. container_state_of old.in_table new.pending taken) end result (leave s what f.start end (child_facts (marks_of old.interior.marks) (columns_of old.columns)) (fresh leaf (leaf_place old.in_table)) (container_state_of old.in_table old.pending lent))
    → Gives {X = Unit {0}} {Y = ContainerState} (λ x. top_of new) end result (left_to s (significant what) f end old)
leaf_gives s what f end old new lent taken result is_leaf is_lent grows same_table written given =
    let children : ChildFacts = child_facts (marks_of old.interior.marks) (columns_of old.columns) in
    let after : Result ContainerState ErrorAt = leave s what f.start end children (fresh leaf (leaf_place old.in_table)) (container_state_of old.in_table old.pending lent) in
    let top : innermost new.containers ≡ taken = ap (λ (n : Nest OpenContainer). innermost n) written ∙ written_innermost old.containers taken in
    let tops : top_of new ≡ container_state_of old.in_table new.pending taken =
    (λ t. cond (grows t) (fresh leaf (leaf_place new.in_table)) (kept_top new)) ∙ (λ t. container_state_of (same_table t) new.pending (top t)) in
    gives_same (λ x. top_of new) end result after (left_to s (significant what) f end old)
    ((λ t. leave_to s f.start end children (cond (is_leaf t) (fresh leaf (leaf_place old.in_table)) (kept_top old)) (outer_of (significant what) f.in_table (cond (is_leaf t) (Some (kept_top old)) None) (around_innermost old.containers)))
    ∙ (λ t. leave s what f.start end children (fresh leaf (leaf_place old.in_table)) (container_state_of old.in_table old.pending (sym is_lent t))))
    (subst (λ (h : ContainerState). Gives {X = Unit {0}} {Y = ContainerState} (λ x. h) end result after) (sym tops) given)

-- the context after it
pub leaf_closed : (what : ItemKind) (old new : Context) (taken : OpenContainer) → old.is_leaf ≡ true → new.is_leaf ≡ false → new.frames ≡ old.frames → new.interior.marks ≡ old.interior.marks → new.containers ≡ with_innermost old.containers taken
    → columns_of new.columns ≡ columns_left (significant what) (marks_of old.interior.marks) (columns_of old.columns) → Closed (significant what) old new
leaf_closed what old new taken is_leaf grows same_frames same_marks written left = record {
  frames = same_frames;
  marks = same_marks;
  columns = left;
  leaf = λ t. cond (grows t) (Some (kept_top new)) None;
  containers = ap (λ (n : Nest OpenContainer). around_innermost n) written ∙ written_around old.containers taken
      ∙ (λ t. containers_left (significant what) (cond (sym is_leaf t) (Some (kept_top old)) None) (around_innermost old.containers));
}

-- what is no table leaves the columns as they are
pub columns_kept : (what : ItemKind) (old new : Context) → is_table what ≡ false → columns_of new.columns ≡ columns_of old.columns → columns_of new.columns ≡ columns_left (significant what) (marks_of old.interior.marks) (columns_of old.columns)
columns_kept what old new none same = same ∙ sym (ap (λ (b : Bool). cond b no_columns (columns_of old.columns)) none)

-- a parent is none
pub parent_no_table : (c : Content) → is_parent c ≡ true → is_table (content c) ≡ false
parent_no_table contents.Table such = let z : ⊥ = cc in absurd z
parent_no_table c such = refl

-- nor is what has parts of its own
pub parts_no_table : (what : ItemKind) (h : Container) (x : ContentModel) → initial_model_of h ≡ model_of x what → h ≢ containers.AnyContent → is_table what ≡ false
parts_no_table (content contents.Table) containers.AnyContent x e other = absurd (other refl)
parts_no_table (content contents.Table) h x e other = let z : ⊥ = cc in absurd z
parts_no_table (content c) h x e other = refl
parts_no_table (part q) h x e other = refl

-- of what is taken out nothing but nodes is kept, where that is so of the innermost container
pub any_kept : (c : Context) (rest : Nest OpenContainer) (own : OpenContainer) → (innermost c.containers).container ≡ containers.AnyContent → IsPut own rest c.containers → own.container ≡ containers.AnyContent
any_kept c rest own any put = ap (λ (h : OpenContainer). h.container) (sym (put_innermost rest c.containers own put)) ∙ any

-- a parent, and nothing but nodes is in it
pub parent_taken : (s : Source) (c : Content) (f : Frame) (end : Point) (old new : Context) (rest : Nest OpenContainer) (own lent taken : OpenContainer)
    → old.is_leaf ≡ false → is_some old.pending ≡ false → (innermost old.containers).container ≡ containers.AnyContent
    → IsPut own rest old.containers → lent ≡ innermost rest
    → new.is_leaf ≡ old.is_leaf → new.pending ≡ old.pending → new.in_table ≡ f.in_table → new.containers ≡ with_innermost rest taken
    → TakesParent c f.start end own.nodes lent taken → left_to s (significant (content c)) f end old ≡ Ok (top_of new)
parent_taken s c f end old new rest own lent taken grows none any put is_lent same_leaf same_break same_table written takes =
    let children : ChildFacts = child_facts (marks_of old.interior.marks) (columns_of old.columns) in
    let is : own.container ≡ containers.AnyContent = any_kept old rest own any put in
    closed_gives s (content c) f end old new rest own lent taken (Ok tt) grows none put is_lent same_leaf same_break same_table written
    ((λ t. leave s (content c) f.start end children (container_state_of old.in_table None (record own { container = is t })) (container_state_of f.in_table None lent))
    ∙ takes s f.in_table old.in_table own.line_endings children)

-- a parent is taken with the same nodes in another list
pub same_nodes : (c : Content) (start end : Point) (ns ms : Vec Node Global) (old new : OpenContainer) → ms.items ≡ ns.items → TakesParent c start end ns old new → TakesParent c start end ms old new
same_nodes c start end ns ms old new is takes s in_table inner_table line_endings children =
    (λ t. leave s (content c) start end children
    (record (container_state_of inner_table None (record { container = containers.AnyContent; line_endings = line_endings; nodes = ns })) { inner = summary_with containers.AnyContent (views (is t)) })
    (container_state_of in_table None old))
    ∙ takes s in_table inner_table line_endings children

-- ---- Rows

-- the content model of content that is no leaf is one that it may have
pub content_row : (h : Container) (x : ContentModel) (c : Content) → initial_model_of h ≡ model_of x (content c) → is_model_of c (initial_model_of h) ≡ true
content_row h x contents.Data e = absurd (no_leaf_row h e)
content_row h x contents.AutolinkLiteralEmail e = absurd (no_leaf_row h e)
content_row h x contents.AutolinkLiteralWww e = absurd (no_leaf_row h e)
content_row h x contents.AutolinkLiteralWhole e = absurd (no_leaf_row h e)
content_row h x contents.HardBreak e = absurd (no_leaf_row h e)
content_row h x contents.ThematicBreak e = absurd (no_leaf_row h e)
content_row h x contents.LineEnding e = absurd (no_leaf_row h e)
content_row h list_ordered contents.ListItem e = ap (is_model_of contents.ListItem) e
content_row h x contents.ListItem e = ap (is_model_of contents.ListItem) e
content_row h list_item contents.Paragraph e = ap (is_model_of contents.Paragraph) e
content_row h numbered_item contents.Paragraph e = ap (is_model_of contents.Paragraph) e
content_row h marked_item contents.Paragraph e = ap (is_model_of contents.Paragraph) e
content_row h marked_numbered_item contents.Paragraph e = ap (is_model_of contents.Paragraph) e
content_row h x contents.Paragraph e = ap (is_model_of contents.Paragraph) e
content_row h x c e = ap (is_model_of c) e

-- and so is that of a part
pub part_row : (h : Container) (x : ContentModel) (q : Part) → initial_model_of h ≡ model_of x (part q) → is_part_model q (initial_model_of h) ≡ true
part_row h code_fenced parts.CodeFencedFence e = ap (is_part_model parts.CodeFencedFence) e
part_row h x parts.CodeFencedFence e = absurd (no_leaf_row h e)
part_row h math_flow parts.MathFlowFence e = ap (is_part_model parts.MathFlowFence) e
part_row h x parts.MathFlowFence e = absurd (no_leaf_row h e)
part_row h x parts.AutolinkEmail e = absurd (no_leaf_row h e)
part_row h x parts.AutolinkProtocol e = absurd (no_leaf_row h e)
part_row h x parts.CharacterReferenceMarker e = absurd (no_leaf_row h e)
part_row h x parts.CharacterReferenceMarkerNumeric e = absurd (no_leaf_row h e)
part_row h x parts.CharacterReferenceMarkerHexadecimal e = absurd (no_leaf_row h e)
part_row h x parts.CharacterReferenceValue e = absurd (no_leaf_row h e)
part_row h x parts.TaskMarkChecked e = absurd (no_leaf_row h e)
part_row h x parts.TaskMarkUnchecked e = absurd (no_leaf_row h e)
part_row h x parts.HeadingAtxSequence e = absurd (no_leaf_row h e)
part_row h x parts.HeadingSetextUnderlineSequence e = absurd (no_leaf_row h e)
part_row h x parts.ListItemValue e = absurd (no_leaf_row h e)
part_row h x q e = ap (is_part_model q) e

-- ---- Nodes that are walked over

-- the exit walks over what the span that it closes is left with
pub exit_visits_left : (name : Name) (old : Context) (frames : Vec Frame Global) (f : Frame) (role : Role) → old.frames.items ≡ frames.items ++ f ∷ [] → role ≡ role_of f.name → is_same_name f.name name ≡ true
    → left_visits role f (record old { frames = frames }) ≡ exit_visits name (state_of old).frames (top_of old).inner
exit_visits_left name old frames f role at is same =
    (λ t. visits_by_owner (outer_of (is t) f.in_table (leaf_container old) (around_innermost old.containers)) (top_of old).inner)
    ∙ sym (ap (λ (x : List OpenSpan). exit_visits name x (top_of old).inner) (last_open old f frames.items at)
    ∙ ap (λ (b : Bool). if b then visits_by_owner (open_of f old).outer (top_of old).inner else 0) same)

-- those of a container, where no break waits in it
pub container_walks : (what : ItemKind) (f : Frame) (c : Context) (outer : OpenContainer) (others : List OpenContainer) → c.is_leaf ≡ false → around_innermost c.containers ≡ outer ∷ others → is_some c.pending ≡ false
    → left_visits (significant what) f c ≡ visits_at_end what (summary_of_container (innermost c.containers))
container_walks what f c outer others grows at none =
    (λ t. visits_by_owner (outer_of (significant what) f.in_table (cond (grows t) (Some (kept_top c)) None) (at t)) (cond (grows t) (fresh leaf (leaf_place c.in_table)) (kept_top c)).inner)
    ∙ (λ t. visits_at_end what (container_state_of c.in_table (no_break c.pending none t) (innermost c.containers)).inner)

-- the same of one that is taken out
pub closed_walks : (what : ItemKind) (f : Frame) (c : Context) (rest : Nest OpenContainer) (own : OpenContainer) → c.is_leaf ≡ false → is_some c.pending ≡ false
    → IsPut own rest c.containers → left_visits (significant what) f c ≡ visits_at_end what (summary_of_container own)
closed_walks what f c rest own grows none put =
    container_walks what f c (innermost rest) (around_innermost rest) grows (put_around rest c.containers own put) none
    ∙ ap (λ (h : OpenContainer). visits_at_end what (summary_of_container h)) (put_innermost rest c.containers own put)
