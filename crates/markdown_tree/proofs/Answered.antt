-- From what the steps give to what `compile` says.
use Rattle.std.proofs.Common.{◌≡◌, ℕ, ◌+◌, ◌*◌, ◌<◌, ◌≤◌, ◌^◌, arith, Bool, true, false, not, List, [], ◌∷◌, length, Option, None, Some, Result, Ok, Err, cond, reverse, refl, sym, ap, subst, ◌∙◌}
use Rattle.std.specs.Prelude.{IfErr, IfOk, is_some}
use Rattle.markdown_events.specs.Forest.{Forest, events_of}
use Rattle.markdown_events.proofs.Unique.{one_forest}
use Rattle.markdown_events.specs.declared.event.Event.{Event}
use Rattle.markdown_events.specs.declared.event.Point.{Point}
use Rattle.markdown_events.specs.declared.unist.Position.{Position}
use Rattle.markdown_events.specs.declared.message.Fault.{Fault}
use Rattle.markdown_events.specs.declared.message.Fault.TheVariants as faults
use Rattle.markdown_nodes.specs.Tree.{Tree, only, root}
use Rattle.markdown_nodes.specs.View.{view, views}
use Rattle.markdown_nodes.specs.declared.mdast.Node.{Node}
use Rattle.markdown_nodes.specs.declared.mdast.Node.TheVariants as nodes
use Rattle.markdown_nodes.specs.Kinds.{Root as RootNode}
use Rattle.markdown_nodes.proofs.Views.{view-Root}
use Rattle.markdown_steps.specs.OneTest.{accepted}
use Rattle.markdown_grammar.specs.Buffers.{buffered_events, buffered_nodes}
use Rattle.markdown_steps.specs.Compiler.{ContainerState, State, compiled, fresh, no_open_span, last_checks, opening, point_of, run, tree_of}
use Rattle.markdown_grammar.specs.Correct.{FailsRightly, IsMeaning, IsRefused}
use Rattle.markdown_steps.specs.Extents.{extent_of, last_event}
use Rattle.markdown_grammar.specs.Grammar.{any_content, leaf}
use Rattle.markdown_parts.specs.PartsSoFar.{first_failing}
use Rattle.markdown_grammar.specs.Ordered.{IsOrdered, NeverGoesBack}
use Rattle.markdown_grammar.specs.Refusals.{IsFaultOf}
use Rattle.markdown_grammar.specs.Refusals.{ErrorAt}
use Rattle.markdown_steps.specs.Checks.{checked, refused, ◌>>=◌}
use Rattle.markdown_grammar.specs.Document.{Source}
use Rattle.markdown_parts.specs.Nest.{around_innermost, innermost}
use Rattle.markdown_tree.specs.ContainerStates.{with_break}
use Rattle.markdown_tree.specs.States.{Completes, Fails, kept_top, leaf_container, leaf_place, opens, state_of, top_of}
use Rattle.markdown_steps.specs.Visits.{run_visits}
use Rattle.markdown_steps.specs.Well.{AllStand}
use Rattle.markdown_tree.specs.declared.context.Context.{Context}
use Rattle.markdown_tree.specs.declared.context.Frame.{Frame}
use Rattle.markdown_grammar.specs.declared.error_kind.ErrorKind.{ErrorKind}
use Rattle.markdown_grammar.specs.declared.error_kind.ErrorKind.TheVariants.{Unbalanced, UnfinishedBreak}
use Rattle.markdown_grammar.specs.declared.error_kind.Stop.TheVariants as stops
use Rattle.markdown_tree.proofs.Beginnings.{checked_fails, checked_through}
use Rattle.markdown_tree.proofs.Unfinished.{no_frames, pop_none}
use Rattle.markdown_steps.proofs.Compiled.{sound}
use Rattle.markdown_steps.proofs.Conditions.{conditions-accept, conditions-hold}
use Rattle.markdown_steps.proofs.BufferVisits.{accepted-walks}
use Rattle.markdown_steps.proofs.EventVisits.{any-walks}
use Rattle.markdown_steps.proofs.Outcomes.{ok_is}
use Rattle.markdown_steps.proofs.Reasons.{explained}
use Rattle.markdown_steps.proofs.Refused.{refuses}
use Rattle.markdown_steps.proofs.SpanLaw.{span_law}
use Rattle.markdown_steps.proofs.Extents.{extent-is}
use Rattle.markdown_grammar.specs.Meaning.{extent}
use Rattle.markdown_steps.proofs.Unbalanced.{unbalanced}
use Rattle.markdown_steps.proofs.WellKept.{well-opening, well-run}

-- ---- A tree, and a message

-- a tree that the steps give is the meaning of an accepted forest
pub means : (s : Source) (es : List Event) (tree : Node) → compiled s es ≡ Ok (view tree) → IsMeaning tree es s
means s es tree h =
    let m = sound s es (view tree) h in
    record { forest = m.forest; from_events = m.has_events; accepted = conditions-hold s m.forest m.is_accepted; is_meaning = m.is_meaning }

-- and its nodes nest and stand in order, where the indexes never go back
is_ordered : (s : Source) (es : List Event) (tree : Node) → IsMeaning tree es s → (extent_of es).end.offset < 2 ^ 64 → NeverGoesBack es → IsOrdered (only (view tree))
is_ordered s es tree m fits rises =
    let same : extent_of es ≡ extent m.forest = ap extent_of (sym m.from_events) ∙ extent-is m.forest in
    subst (λ (t : Tree). IsOrdered (only t)) (sym m.is_meaning) (span_law s m.forest (subst NeverGoesBack (sym m.from_events) rises) (subst (λ (at : Position). at.end.offset < 2 ^ 64) same fits))

-- what the steps refuse are the events of no accepted forest
pub is_refused : (s : Source) (es : List Event) (m : ErrorAt) → compiled s es ≡ Err m → IsRefused m es s
is_refused s es m h = record {
  none_accepted = λ f e a. refuses s es m h f e (conditions-accept s f a);
  unbalanced = unbalanced s es m h;
  reason = explained s es m h;
}

-- a message that the steps give says so
pub fails_rightly : (f : Fault) (es : List Event) (s : Source) → Fails f (compiled s es) → FailsRightly f es s
fails_rightly (faults.Memory e) es s h = tt
fails_rightly (faults.Message m) es s h = record { why = h.0; says = h.2; is_refused = is_refused s es h.0 h.1 }

-- ---- After the last event

-- a run after which something is left open
pub left_fails : (f : Fault) (s : Source) (es : List Event) (st : State) (why : ErrorKind) (p : Point) → run s es opening ≡ Ok st → first_failing (last_checks st) ≡ Some why → p ≡ point_of (last_event es)
    → IsFaultOf (stops.Refused why) p f → Fails f (compiled s es)
left_fails (faults.Memory e) s es st why p h fails at says = absurd says
left_fails (faults.Message m) s es st why p h fails at says = (
  record { error_kind = why; point = p },
  ap (λ (r : Result State ErrorAt). r >>= λ x. checked (last_checks x) (point_of (last_event es)) (Ok (tree_of es x))) h
      ∙ checked_fails (last_checks st) (point_of (last_event es)) (Ok (tree_of es st)) why fails
      ∙ ap (λ (x : Point). refused why x) (sym at),
  says,
)

-- where something is, there is an event
pub some_event : (s : Source) (es : List Event) (st : State) (why : ErrorKind) → run s es opening ≡ Ok st → first_failing (last_checks st) ≡ Some why → 0 < length es
unfolding run
some_event s [] st why h fails =
    let same : opening ≡ st = ok_is opening st h in
    let wrong : None ≡ Some why = ap (λ (x : State). first_failing (last_checks x)) same ∙ fails in
    absurd cc
some_event s (e ∷ es) st why h fails = omega arith

-- and one after which nothing comes
pub tree_gives : (s : Source) (es : List Event) (st : State) (r : RootNode) → run s es opening ≡ Ok st → first_failing (last_checks st) ≡ None → views r.children.items ≡ st.top.inner.nodes → r.position ≡ Some (extent_of es)
    → compiled s es ≡ Ok (view (nodes.Root r))
tree_gives s es st r h none children position =
    ap (λ (x : Result State ErrorAt). x >>= λ y. checked (last_checks y) (point_of (last_event es)) (Ok (tree_of es y))) h
    ∙ checked_through (last_checks st) (point_of (last_event es)) (Ok (tree_of es st)) none
    ∙ (λ t. Ok (record { label = root; children = sym children t; position = sym position t }))
    ∙ ap Ok (sym (view-Root r))

-- ---- What is open after it

-- where no span is open, no leaf is
leaf_outermost : (b : Bool) (kept : ContainerState) (in_table : Bool) → (cond b (fresh leaf (leaf_place in_table)) kept).initial_model ≡ any_content → b ≡ false
leaf_outermost true kept in_table h = let z : ⊥ = cc in absurd z
leaf_outermost false kept in_table h = refl

pub no_leaf_open : (s : Source) (es : List Event) (c : Context) → run s es opening ≡ Ok (state_of c) → c.frames.items ≡ [] → c.is_leaf ≡ false
no_leaf_open s es c h none =
    let stands : AllStand s (opens (reverse c.frames.items) (leaf_container c) (around_innermost c.containers)) (top_of c) = well-run s es opening (state_of c) h (well-opening s) in
    let outermost : AllStand s [] (top_of c) = subst (λ (fs : List Frame). AllStand s (opens (reverse fs) (leaf_container c) (around_innermost c.containers)) (top_of c)) none stands in
    leaf_outermost c.is_leaf (kept_top c) c.in_table outermost

-- a break waits in the container that the program keeps
pub waits_on_top : (c : Context) → c.is_leaf ≡ false → (top_of c).after_break ≡ is_some c.pending
waits_on_top c no_leaf = λ t. (cond (no_leaf t) (fresh leaf (leaf_place c.in_table)) (kept_top c)).after_break

-- where nothing is left, the nodes of the innermost container are those of the root
first_none : (b : Bool) (why : ErrorKind) (rest : Option ErrorKind) → cond b rest (Some why) ≡ None → (b ≡ true) × (rest ≡ None)
first_none true why rest h = (refl, h)
first_none false why rest h = let z : ⊥ = cc in absurd z

nothing_waits : (pending : Option Position) → not (is_some pending) ≡ true → pending ≡ None
nothing_waits None h = refl
nothing_waits (Some p) h = let z : ⊥ = cc in absurd z

pub root_nodes : (s : Source) (es : List Event) (c : Context) → run s es opening ≡ Ok (state_of c) → first_failing (last_checks (state_of c)) ≡ None → views (innermost c.containers).nodes.items ≡ (state_of c).top.inner.nodes
root_nodes s es c h none =
    let a = first_none (no_open_span (state_of c).frames) Unbalanced (cond (not (top_of c).after_break) None (Some UnfinishedBreak)) none in
    let no_leaf : c.is_leaf ≡ false = no_leaf_open s es c h (no_frames c.frames.items (pop_none (reverse c.frames.items) (leaf_container c) (around_innermost c.containers) a.0)) in
    let b = first_none (not (top_of c).after_break) UnfinishedBreak None a.1 in
    let no_break : c.pending ≡ None = nothing_waits c.pending (sym (ap not (waits_on_top c no_leaf)) ∙ b.0) in
    sym ((λ t. (cond (no_leaf t) (fresh leaf (leaf_place c.in_table)) (kept_top c)).inner.nodes) ∙ ap (λ (p : Option Position). with_break p (views (innermost c.containers).nodes.items)) no_break)

-- ---- Steps

-- those of a tree: one for each node in a buffer of the forest
pub steps_of_tree : (s : Source) (es : List Event) (tree : Node) (f : Forest) (began after : ℕ) → compiled s es ≡ Ok (view tree) → events_of f ≡ es → after ≤ began + 4 * length es + run_visits s es opening
    → after ≤ began + 4 * length es + buffered_nodes s f
steps_of_tree s es tree f began after h from_events bound =
    let m = sound s es (view tree) h in
    let same : m.forest ≡ f = one_forest m.forest f (m.has_events ∙ sym from_events) in
    let walks : run_visits s es opening ≤ buffered_nodes s f =
    subst (λ (x : List Event). run_visits s x opening ≤ buffered_nodes s f) from_events (accepted-walks s f (ap (accepted s) (sym same) ∙ m.is_accepted)) in
    omega (arith, bound, walks)

-- those of every other answer: one for each event inside a span with a buffer's name
pub steps_of_any : (s : Source) (es : List Event) (began after : ℕ) → after ≤ began + 4 * length es + run_visits s es opening → after ≤ began + 4 * length es + buffered_events es
steps_of_any s es began after bound = let walks = any-walks s es in omega (arith, bound, walks)

-- ---- Either answer

pub found : (s : Source) (es : List Event) (r : Result Node Fault) → Completes view r (compiled s es) → IfOk r (λ tree. IsMeaning tree es s)
found s es (Ok tree) h = means s es tree h
found s es (Err f) h = tt

-- a tree nests and stands in order
pub ordered_so : (s : Source) (es : List Event) (r : Result Node Fault) → Completes view r (compiled s es) → IfOk r (λ tree. (extent_of es).end.offset < 2 ^ 64)
    → IfOk r (λ tree. NeverGoesBack es → IsOrdered (only (view tree)))
ordered_so s es (Ok tree) h fits = λ rises. is_ordered s es tree (means s es tree h) fits rises
ordered_so s es (Err f) h fits = tt

pub refused_so : (s : Source) (es : List Event) (r : Result Node Fault) → Completes view r (compiled s es) → IfErr r (λ f. FailsRightly f es s)
refused_so s es (Ok tree) h = tt
refused_so s es (Err f) h = fails_rightly f es s h

pub tree_bound : (s : Source) (es : List Event) (r : Result Node Fault) (began after : ℕ) → Completes view r (compiled s es) → after ≤ began + 4 * length es + run_visits s es opening
    → IfOk r (λ tree. (f : Forest) → events_of f ≡ es → after ≤ began + 4 * length es + buffered_nodes s f)
tree_bound s es (Ok tree) began after h bound = λ f from_events. steps_of_tree s es tree f began after h from_events bound
tree_bound s es (Err f) began after h bound = tt

pub other_bound : (s : Source) (es : List Event) (r : Result Node Fault) (began after : ℕ) → after ≤ began + 4 * length es + run_visits s es opening → IfErr r (λ f. after ≤ began + 4 * length es + buffered_events es)
other_bound s es (Ok tree) began after bound = tt
other_bound s es (Err f) began after bound = steps_of_any s es began after bound
