-- What a refusal of the compilation on values says of the list.
use Rattle.std.proofs.Common.{◌≡◌, ◌≢◌, Bool, true, not, List, [], ◌∷◌, ◌++◌, Option, Some, None, Result, Ok, Err, refl, sym, ap, ◌∙◌}
use Rattle.markdown_events.specs.Forest.{Forest, events_of}
use Rattle.markdown_events.specs.Names.{is_same_name, role_of}
use Rattle.markdown_steps.specs.ChildFacts.{ChildFacts}
use Rattle.markdown_nodes.specs.Tree.{Tree}
use Rattle.markdown_events.specs.declared.event.Event.{Event}
use Rattle.markdown_events.specs.declared.event.Kind.{Kind}
use Rattle.markdown_events.specs.declared.event.Name.{Name}
use Rattle.markdown_events.specs.declared.event.Point.{Point}
use Rattle.markdown_events.specs.declared.role.ItemKind.{ItemKind}
use Rattle.markdown_events.specs.declared.role.Role.{Role}
use Rattle.markdown_steps.proofs.Compiled.{accepted-runs, complete, finish}
use Rattle.markdown_steps.proofs.Conditions.{conditions-accept}
use Rattle.markdown_steps.proofs.EventRuns.{at}
use Rattle.markdown_steps.proofs.Extents.{last-of, last_part}
use Rattle.markdown_steps.proofs.Outcomes.{bind_bind, bind_point, bind_same, checked_point, done, done_point, err_clash, err_is}
use Rattle.markdown_steps.proofs.SiblingMarks.{marks}
use Rattle.markdown_grammar.specs.Accepted.{Accepted}
use Rattle.markdown_steps.specs.OneTest.{accepted}
use Rattle.markdown_events.specs.Around.{in_the_open, may_begin}
use Rattle.markdown_steps.specs.Columns.{child_facts}
use Rattle.markdown_steps.specs.Compiler.{ContainerState, OpenSpan, State, with_child, compiled, enter_as, enter_checks, enter_step, entered, exit_checks, exit_from, exit_step, no_open_span, last_checks, leave, leave_to, push, opening, point_of, run, pop, step, step_by, tree_of}
use Rattle.markdown_steps.specs.Extents.{last_event}
use Rattle.markdown_grammar.specs.Meaning.{meaning}
use Rattle.markdown_grammar.specs.Refusals.{ErrorAt}
use Rattle.markdown_steps.specs.Checks.{checked, ◌>>=◌}
use Rattle.markdown_grammar.specs.Document.{Source}
use Rattle.markdown_events.specs.declared.event.Kind.TheVariants.{Enter, Exit}
use Rattle.markdown_events.specs.declared.role.Role.TheVariants.{Transparent as transparent, Significant as significant}
use Rattle.markdown_grammar.specs.declared.error_kind.ErrorKind.TheVariants.{Held, Unbalanced, UnfinishedBreak}

-- what is refused are the events of no accepted forest
pub refuses : (s : Source) (es : List Event) (m : ErrorAt) → compiled s es ≡ Err m → (f : Forest) → events_of f ≡ es → accepted s f ≢ true
refuses s es m h f e a = err_clash (compiled s es) (meaning s f) m (ap (compiled s) (sym e) ∙ complete s f a) h

-- ---- A step that is refused names its own event

enter_as_point : (s : Source) (role : Role) (n : Name) (p : Point) (st : State) (m : ErrorAt) → enter_as s role n p st ≡ Err m → m.point ≡ p
enter_as_point s (transparent k) n p st m h = done_point (push n p st None st.top) m p h
enter_as_point s (significant what) n p st m h =
    checked_point (enter_checks s st.top what p) p (Ok (push n p st (Some (what, st.top)) (entered st.top what))) m (done_point (push n p st (Some (what, st.top)) (entered st.top what)) m p) h

leave_to_point : (s : Source) (a p : Point) (c : ChildFacts) (own : ContainerState) (o : Option (ItemKind × ContainerState)) (m : ErrorAt) → leave_to s a p c own o ≡ Err m → m.point ≡ p
unfolding leave
leave_to_point s a p c own None m h = done_point own m p h
leave_to_point s a p c own (Some x) m h = checked_point (exit_checks s x.1 x.0 a p own) p (Ok (with_child s x.1 x.0 a p c own.inner)) m (done_point (with_child s x.1 x.0 a p c own.inner) m p) h

exit_from_point : (s : Source) (n : Name) (p : Point) (fs : List OpenSpan) (st : State) (m : ErrorAt) → exit_from s n p fs st ≡ Err m → m.point ≡ p
exit_from_point s n p [] st m h = ap (λ (k : ErrorAt). k.point) (sym (err_is {A = State} (record { error_kind = Unbalanced; point = p }) m h))
exit_from_point s n p (f ∷ fs) st m h =
    let out = leave_to s f.start p (child_facts st.marks st.columns) st.top f.outer in
    checked_point ((is_same_name f.name n, Unbalanced) ∷ []) p (out >>= λ t. done (pop f fs st t)) m
    (bind_point out (λ t. pop f fs st t) m p (leave_to_point s f.start p (child_facts st.marks st.columns) st.top f.outer m)) h

pub step_point : (k : Kind) (s : Source) (n : Name) (p : Point) (st : State) (m : ErrorAt) → step_by k s n p st ≡ Err m → m.point ≡ p
unfolding enter_step exit_step
step_point Enter s n p st m h = checked_point ((may_begin st.around (role_of n), Held) ∷ []) p (enter_as s (role_of n) n p st) m (enter_as_point s (role_of n) n p st m) h
step_point Exit s n p st m h = exit_from_point s n p st.frames st m h

-- ---- A run that stops, stops at an event, and does so whatever comes after it

pub record Stop (s : Source) (es : List Event) (st : State) (m : ErrorAt) : Type 0 where
  pub prefix : List Event
  pub event : Event
  pub back : List Event
  pub parts : es ≡ prefix ++ (event ∷ back)
  pub reached : State
  pub ran_front : run s prefix st ≡ Ok reached
  pub failed : step s event reached ≡ Err m

stopped_at : (r : Result State ErrorAt) (s : Source) (e : Event) (es : List Event) (st : State) (m : ErrorAt) → ((t : State) → run s es t ≡ Err m → Stop s es t m) → step s e st ≡ r → (r >>= run s es) ≡ Err m → Stop s (e ∷ es) st m
unfolding run
stopped_at (Ok t) s e es st m later one h =
    let a = later t h in
    record {
      prefix = e ∷ a.prefix;
      event = a.event;
      back = a.back;
      parts = ap (λ (x : List Event). e ∷ x) a.parts;
      reached = a.reached;
      ran_front = ap (λ (x : Result State ErrorAt). x >>= run s a.prefix) one ∙ a.ran_front;
      failed = a.failed;
    }
stopped_at (Err k) s e es st m later one h = record { prefix = []; event = e; back = es; parts = refl; reached = st; ran_front = refl; failed = one ∙ h }

pub stopped : (s : Source) (es : List Event) (st : State) (m : ErrorAt) → run s es st ≡ Err m → Stop s es st m
unfolding run
stopped s [] st m h = absurd cc
stopped s (e ∷ es) st m h = stopped_at (step s e st) s e es st m (λ t g. stopped s es t m g) refl h

pub run-append : (s : Source) (xs ys : List Event) (a : State) → run s (xs ++ ys) a ≡ (run s xs a >>= run s ys)
unfolding run
run-append s [] ys a = refl
run-append s (x ∷ xs) ys a = bind_same (step s x a) (run s (xs ++ ys)) (λ b. run s xs b >>= run s ys) (λ b. run-append s xs ys b) ∙ sym (bind_bind (step s x a) (run s xs) (run s ys))

-- so it stops on every list that begins so
always : (s : Source) (es : List Event) (st : State) (m : ErrorAt) (stop : Stop s es st m) (others : List Event) → run s (stop.prefix ++ (stop.event ∷ others)) st ≡ Err m
unfolding run
always s es st m stop others =
    run-append s stop.prefix (stop.event ∷ others) st
    ∙ ap (λ (x : Result State ErrorAt). x >>= run s (stop.event ∷ others)) stop.ran_front
    ∙ ap (λ (x : Result State ErrorAt). x >>= run s others) stop.failed

-- and no accepted list begins so
pub none-begins : (s : Source) (es : List Event) (m : ErrorAt) (stop : Stop s es opening m) (f : Forest) (others : List Event) → events_of f ≡ stop.prefix ++ (stop.event ∷ others) → Accepted s f → ⊥
none-begins s es m stop f others e a =
    err_clash (run s (stop.prefix ++ (stop.event ∷ others)) opening) (at [] in_the_open (marks f) (finish s f)) m
    (ap (λ (x : List Event). run s x opening) (sym e) ∙ accepted-runs s f (conditions-accept s f a)) (always s es opening m stop others)

-- ---- A list that is refused after its last event

-- the point is the last event's
pub record StopsLast (es : List Event) (m : ErrorAt) : Type 0 where
  pub prefix : List Event
  pub event : Event
  pub parts : es ≡ prefix ++ (event ∷ [])
  pub named : m.point ≡ event.point

last-point : (a b : Bool) (p : Point) (t : Tree) (m : ErrorAt) → checked ((a, Unbalanced) ∷ (b, UnfinishedBreak) ∷ []) p (done t) ≡ Err m → m.point ≡ p
last-point a b p t m h = checked_point ((a, Unbalanced) ∷ (b, UnfinishedBreak) ∷ []) p (done t) m (done_point t m p) h

pub stops-last : (s : Source) (es : List Event) (st : State) (m : ErrorAt) → run s es opening ≡ Ok st → checked (last_checks st) (point_of (last_event es)) (done (tree_of es st)) ≡ Err m → StopsLast es m
unfolding run
stops-last s [] st m one h =
    let e : checked (last_checks opening) (point_of None) (done (tree_of [] opening)) ≡ Err m = ap (λ (r : Result State ErrorAt). r >>= λ x. checked (last_checks x) (point_of None) (done (tree_of [] x))) one ∙ h in
    absurd cc
stops-last s (d ∷ es) st m one h =
    let l = last-of d es in
    let p = last_part (d ∷ es) l.0 l.1 in
    let w = last-point (no_open_span st.frames) (not st.top.after_break) (point_of (last_event (d ∷ es))) (tree_of (d ∷ es) st) m h in
    record { prefix = p.0; event = l.0; parts = p.1; named = w ∙ ap point_of l.1 }
