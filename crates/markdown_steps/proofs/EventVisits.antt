-- Over any events no more nodes are walked over than there are events in the spans with a buffer's name.
use Rattle.std.proofs.Common.{◌≡◌, ◌≤◌, ℕ, ◌+◌, Bool, true, false, List, [], ◌∷◌, ◌++◌, Option, None, Some, Result, Ok, Err, refl, sym, ap, ◌∙◌, arith}
use Rattle.std.specs.Prelude.{if◌then◌else◌, unwrap_or}
use Rattle.markdown_events.specs.Forest.{enter, exit}
use Rattle.markdown_events.specs.Names.{is_same_name, role_of}
use Rattle.markdown_steps.specs.ChildFacts.{ChildFacts}
use Rattle.markdown_events.specs.declared.event.Event.{Event}
use Rattle.markdown_events.specs.declared.event.Kind.{Kind}
use Rattle.markdown_events.specs.declared.event.Name.{Name}
use Rattle.markdown_events.specs.declared.event.Point.{Point}
use Rattle.markdown_events.specs.declared.role.ItemKind.{ItemKind}
use Rattle.markdown_events.specs.declared.role.Role.{Role}
use Rattle.markdown_nodes.specs.Tree.{nothing}
use Rattle.markdown_steps.proofs.EventRuns.{enter_is, left_is, opened_by, top_by}
use Rattle.markdown_steps.proofs.NodeCounts.{closed-few, kept_nodes}
use Rattle.markdown_steps.proofs.Outcomes.{checked_ok, ok_is, same_name_refl}
use Rattle.markdown_steps.proofs.VisitCounts.{exit-walks}
use Rattle.markdown_grammar.specs.Buffers.{buffered_events, buffered_events_from, is_buffer, is_buffer_role, node_count, one_more, until_exit}
use Rattle.markdown_steps.specs.Columns.{child_facts}
use Rattle.markdown_steps.specs.Compiler.{ContainerState, OpenSpan, State, with_child, enter_step, exit_checks, exit_step, leave, leave_to, push, opening, step_by}
use Rattle.markdown_steps.specs.Summaries.{path_to, stood}
use Rattle.markdown_grammar.specs.Refusals.{ErrorAt}
use Rattle.markdown_grammar.specs.Document.{Source}
use Rattle.markdown_steps.specs.Visits.{exit_visits, run_visits, visits_by_owner, visits_after, visits_by}
use Rattle.markdown_events.specs.declared.event.Kind.TheVariants.{Enter, Exit}
use Rattle.markdown_events.specs.declared.role.Part.TheVariants as parts
use Rattle.markdown_events.specs.declared.role.Role.TheVariants.{Transparent as transparent, Significant as significant}

-- ---- What open spans may still walk over

-- where that many events are left, with what was made
abbrev grown : ℕ → Option ℕ → ℕ
grown made None = 0
grown made (Some n) = made + n

-- of a span with what was made in it, where it is a buffer
abbrev owed_by : Option (ItemKind × ContainerState) → ℕ → Option ℕ → ℕ
owed_by None made left = 0
owed_by (Some outer) made left = if is_buffer outer.0 then grown made left else 0

-- the nodes that the container around a span keeps
abbrev around_kept : Option (ItemKind × ContainerState) → ℕ
around_kept None = 0
around_kept (Some outer) = kept_nodes outer.1

-- of all open spans: the names of those in them, and what was made in them
abbrev owed : List Name → ℕ → List OpenSpan → List Event → ℕ
owed names made [] es = 0
owed names made (f ∷ fs) es = owed_by f.outer made (until_exit (names ++ (f.name ∷ [])) es) + owed (names ++ (f.name ∷ [])) (made + 1 + around_kept f.outer) fs es

-- the nodes of the labels that the containers around keep
abbrev around_label : Option (ItemKind × ContainerState) → ℕ
around_label None = 0
around_label (Some outer) = node_count outer.1.inner.label

abbrev labels : List OpenSpan → ℕ
labels [] = 0
labels (f ∷ fs) = around_label f.outer + labels fs

-- all that a state may still walk over, but for what begins later
abbrev owed_of : ContainerState → List OpenSpan → List Event → ℕ
owed_of top fs es = owed [] (kept_nodes top) fs es + (node_count top.inner.label + labels fs)

abbrev owed_at : State → List Event → ℕ
owed_at st es = owed_of st.top st.frames es

-- ---- An enter and an exit make of what is owed

grown-most : (small made : ℕ) (o : Option ℕ) → small ≤ made + 1 → grown small o ≤ grown made (one_more o)
grown-most small made None h = omega arith
grown-most small made (Some n) h = omega (arith, h)

by-most : (outer : Option (ItemKind × ContainerState)) (small made : ℕ) (o : Option ℕ) → small ≤ made + 1 → owed_by outer small o ≤ owed_by outer made (one_more o)
by-most None small made o h = omega arith
by-most (Some outer) small made o h = if-most (is_buffer outer.0) (grown small o) (grown made (one_more o)) (grown-most small made o h)
  where
    if-most : (b : Bool) (n m : ℕ) → n ≤ m → (if b then n else 0) ≤ (if b then m else 0)
    if-most true n m h = h
    if-most false n m h = omega arith

-- an enter
owed-enter : (n : Name) (p : Point) (names : List Name) (small made : ℕ) (fs : List OpenSpan) (es : List Event) → small ≤ made + 1 → owed (n ∷ names) small fs es ≤ owed names made fs (enter n p ∷ es)
owed-enter n p names small made [] es h = omega arith
owed-enter n p names small made (f ∷ fs) es h =
    let one = by-most f.outer small made (until_exit (n ∷ (names ++ (f.name ∷ []))) es) h in
    let two = owed-enter n p (names ++ (f.name ∷ [])) (small + 1 + around_kept f.outer) (made + 1 + around_kept f.outer) fs es (omega (arith, h)) in
    omega (arith, one, two)

-- the exit of the innermost of more names
until-exit : (m n : Name) (p : Point) (names : List Name) (x : Name) (es : List Event) → is_same_name m n ≡ true → until_exit (m ∷ (names ++ (x ∷ []))) (exit n p ∷ es) ≡ one_more (until_exit (names ++ (x ∷ [])) es)
until-exit m n p [] x es h = rw (h) refl
until-exit m n p (y ∷ names) x es h = rw (h) refl

owed-exit : (m n : Name) (p : Point) (names : List Name) (small made : ℕ) (fs : List OpenSpan) (es : List Event) → is_same_name m n ≡ true → small ≤ made + 1 → owed names small fs es ≤ owed (m ∷ names) made fs (exit n p ∷ es)
owed-exit m n p names small made [] es same h = omega arith
owed-exit m n p names small made (f ∷ fs) es same h =
    let e = ap (owed_by f.outer made) (until-exit m n p names f.name es same) in
    let one = by-most f.outer small made (until_exit (names ++ (f.name ∷ [])) es) h in
    let two = owed-exit m n p (names ++ (f.name ∷ [])) (small + 1 + around_kept f.outer) (made + 1 + around_kept f.outer) fs es same (omega (arith, h)) in
    omega (arith, e, one, two)

-- ---- A step

-- after an enter
after-enter : (role : Role) (n : Name) (p : Point) (st : State) (es : List Event) → role_of n ≡ role
    → owed_at (push n p st (opened_by role st) (top_by role st)) es ≤ owed_at st (enter n p ∷ es) + buffered_events_from Enter n es
after-enter (transparent k) n p st es is =
    let e = owed-enter n p [] (kept_nodes st.top + 1 + 0) (kept_nodes st.top) st.frames es (omega arith) in
    omega (arith, e)
after-enter (significant what) n p st es is =
    let e = owed-enter n p [] (0 + 1 + kept_nodes st.top) (kept_nodes st.top) st.frames es (omega arith) in
    let i = ap (λ (r : Role). if is_buffer_role r then unwrap_or (until_exit (n ∷ []) es) 0 else 0) is in
    let g = new (is_buffer what) (until_exit (n ∷ []) es) in
    omega (arith, e, i, g)
  where
    new : (b : Bool) (o : Option ℕ) → (if b then grown 0 o else 0) ≡ (if b then unwrap_or o 0 else 0)
    new true None = refl
    new true (Some n) = omega arith
    new false o = refl

-- what a buffer holds is owed where its exit is next
if-within : (b : Bool) (n m : ℕ) → (if b then n else 0) ≤ (if b then (n + m) + 0 else 0)
if-within true n m = omega arith
if-within false n m = omega arith

next-closed : (f : OpenSpan) (n : Name) (p : Point) (es : List Event) → is_same_name f.name n ≡ true → until_exit (f.name ∷ []) (exit n p ∷ es) ≡ Some 0
next-closed f n p es same = rw (same) refl

-- what is walked at an exit
walked-owed : (outer : Option (ItemKind × ContainerState)) (top : ContainerState) → visits_by_owner outer top.inner ≤ owed_by outer (kept_nodes top) (Some 0) + node_count top.inner.label
walked-owed None top = omega arith
walked-owed (Some outer) top =
    let e = exit-walks outer.0 top.inner (Some stood) nothing in
    let g = if-within (is_buffer outer.0) (node_count top.inner.nodes) (node_count top.inner.label) in
    omega (arith, e, g)

exit-most : (n : Name) (p : Point) (f : OpenSpan) (fs : List OpenSpan) (top : ContainerState) (es : List Event) (same : Bool) → is_same_name f.name n ≡ same → (if same then visits_by_owner f.outer top.inner else 0) ≤ owed_of top (f ∷ fs) (exit n p ∷ es)
exit-most n p f fs top es true same =
    let e = walked-owed f.outer top in
    let g = ap (owed_by f.outer (kept_nodes top)) (next-closed f n p es same) in
    omega (arith, e, g)
exit-most n p f fs top es false same = omega arith

-- whether it is taken or not
walked-most : (n : Name) (p : Point) (fs : List OpenSpan) (top : ContainerState) (es : List Event) → exit_visits n fs top.inner ≤ owed_of top fs (exit n p ∷ es)
walked-most n p [] top es = omega arith
walked-most n p (f ∷ fs) top es = exit-most n p f fs top es (is_same_name f.name n) refl

-- and where it is taken
taken-most : (s : Source) (m n : Name) (start p : Point) (c : ChildFacts) (fs : List OpenSpan) (outer : Option (ItemKind × ContainerState)) (top t : ContainerState) (es : List Event) → is_same_name m n ≡ true → leave_to s start p c top outer ≡ Ok t
    → visits_by_owner outer top.inner + owed_of t fs es
    ≤ (owed_by outer (kept_nodes top) (Some 0) + owed (m ∷ []) (kept_nodes top + 1 + around_kept outer) fs (exit n p ∷ es)) + (node_count top.inner.label + (around_label outer + labels fs))
unfolding leave
taken-most s m n start p c fs None top t es same h =
    let is = ok_is top t h in
    let e = owed-exit m n p [] (kept_nodes top) (kept_nodes top + 1 + 0) fs es same (omega arith) in
    let g = ap (λ (x : ContainerState). owed_of x fs es) is in
    omega (arith, e, g)
taken-most s m n start p c fs (Some outer) top t es same h =
    let made : ContainerState = with_child s outer.1 outer.0 start p c top.inner in
    let is : made ≡ t = ok_is made t (checked_ok (exit_checks s outer.1 outer.0 start p top) p (Ok made) t h) in
    let few = closed-few s outer.1 outer.0 start p c top in
    let e = owed-exit m n p [] (kept_nodes made) (kept_nodes top + 1 + kept_nodes outer.1) fs es same (omega (arith, few)) in
    let g = ap (λ (x : ContainerState). owed_of x fs es) is in
    let w = exit-walks outer.0 top.inner (outer.1.inner.part (path_to parts.LabelText)) outer.1.inner.label in
    let i = if-within (is_buffer outer.0) (node_count top.inner.nodes) (node_count top.inner.label) in
    omega (arith, e, g, w, i)

after-exit : (s : Source) (n : Name) (p : Point) (st z : State) (es : List Event) → exit_step s n p st ≡ Ok z → exit_visits n st.frames st.top.inner + owed_at z es ≤ owed_at st (exit n p ∷ es)
after-exit s n p st z es h =
    let l = left_is s n p st z h in
    let f : OpenSpan = l.first in
    let same : is_same_name f.name n ≡ true = ap (λ (m : Name). is_same_name f.name m) (sym l.name) ∙ same_name_refl f.name in
    let e = taken-most s f.name n f.start p (child_facts st.marks st.columns) l.rest f.outer st.top l.top es same l.left in
    let g = ap (owed_by f.outer (kept_nodes st.top)) (next-closed f n p es same) in
    let w = ap (λ (b : Bool). if b then visits_by_owner f.outer st.top.inner else 0) same in
    let v = ap (λ (fs : List OpenSpan). exit_visits n fs st.top.inner) l.frames in
    let u = ap (λ (fs : List OpenSpan). owed_of st.top fs (exit n p ∷ es)) l.frames in
    let is = ap (λ (x : State). owed_at x es) l.is in
    omega (arith, e, g, w, v, u, is)

-- ---- A run

-- after a step by its answer
enter-answer : (s : Source) (n : Name) (p : Point) (st : State) (es : List Event) (r : Result State ErrorAt) → enter_step s n p st ≡ r → ((z : State) → run_visits s es z ≤ owed_at z es + buffered_events es)
    → visits_after r (run_visits s es) ≤ owed_at st (enter n p ∷ es) + (buffered_events_from Enter n es + buffered_events es)
enter-answer s n p st es (Ok z) h later =
    let e = after-enter (role_of n) n p st es refl in
    let is = ap (λ (x : State). owed_at x es) (enter_is s n p st z h) in
    let g = later z in
    omega (arith, e, is, g)
enter-answer s n p st es (Err why) h later = omega arith

exit-answer : (s : Source) (n : Name) (p : Point) (st : State) (es : List Event) (r : Result State ErrorAt) → exit_step s n p st ≡ r → ((z : State) → run_visits s es z ≤ owed_at z es + buffered_events es)
    → exit_visits n st.frames st.top.inner + visits_after r (run_visits s es) ≤ owed_at st (exit n p ∷ es) + buffered_events es
exit-answer s n p st es (Ok z) h later =
    let e = after-exit s n p st z es h in
    let g = later z in
    omega (arith, e, g)
exit-answer s n p st es (Err why) h later =
    let e = walked-most n p st.frames st.top es in
    omega (arith, e)

step-most : (k : Kind) (s : Source) (n : Name) (p : Point) (st : State) (es : List Event) → ((z : State) → run_visits s es z ≤ owed_at z es + buffered_events es)
    → visits_by k n st + visits_after (step_by k s n p st) (run_visits s es) ≤ owed_at st (record { kind = k; name = n; point = p } ∷ es) + (buffered_events_from k n es + buffered_events es)
step-most Enter s n p st es later = let e = enter-answer s n p st es (enter_step s n p st) refl later in omega (arith, e)
step-most Exit s n p st es later = let e = exit-answer s n p st es (exit_step s n p st) refl later in omega (arith, e)

-- from any state
pub walks-from : (s : Source) (es : List Event) (st : State) → run_visits s es st ≤ owed_at st es + buffered_events es
unfolding run_visits
walks-from s [] st = omega arith
walks-from s (e ∷ es) st = step-most e.kind s e.name e.point st es (λ z. walks-from s es z)

-- no more nodes are walked over than there are events in the spans with a buffer's name
pub any-walks : (s : Source) (es : List Event) → run_visits s es opening ≤ buffered_events es
any-walks s es = let e = walks-from s es opening in omega (arith, e)
