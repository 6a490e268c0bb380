-- Runs over the spelling of a forest, and what a run spells that ends with no span open.
use Rattle.std.proofs.Common.{◌≡◌, List, [], ◌∷◌, ◌++◌, Option, Some, None, Result, Ok, refl, sym, ap, subst, ◌∙◌, append_assoc}
use Rattle.markdown_events.specs.Forest.{Forest, empty, enter, exit, span, events_of}
use Rattle.markdown_events.specs.Names.{is_same_name, role_of}
use Rattle.markdown_events.specs.declared.event.Event.{Event}
use Rattle.markdown_events.specs.declared.event.Kind.{Kind}
use Rattle.markdown_events.specs.declared.event.Name.{Name}
use Rattle.markdown_events.specs.declared.event.Point.{Point}
use Rattle.markdown_events.specs.declared.role.ItemKind.{ItemKind}
use Rattle.markdown_events.specs.declared.role.Role.{Role}
use Rattle.markdown_steps.proofs.ForestSteps.{Reached, begun, ended, eval, eval_as, reached}
use Rattle.markdown_steps.proofs.Outcomes.{bind_bind, bind_ok, bind_same, checked_bind, checked_ok, done, ok_is, one_ok, same_name_is, same_name_refl}
use Rattle.markdown_steps.proofs.SiblingMarks.{marks, marks_onto}
use Rattle.markdown_events.specs.Around.{may_begin, under}
use Rattle.markdown_steps.specs.Columns.{columns_entered, child_facts}
use Rattle.markdown_steps.specs.Compiler.{ContainerState, OpenSpan, State, enter_as, enter_checks, enter_step, entered, exit_from, exit_step, leave, leave_to, push, run, pop, step, step_by}
use Rattle.markdown_grammar.specs.Refusals.{ErrorAt}
use Rattle.markdown_steps.specs.Checks.{checked, ◌>>=◌}
use Rattle.markdown_steps.specs.Siblings.{Marks, marks_with, no_marks}
use Rattle.markdown_grammar.specs.Document.{Source}
use Rattle.markdown_events.specs.declared.around.Around.{Around}
use Rattle.markdown_events.specs.declared.event.Kind.TheVariants.{Enter, Exit}
use Rattle.markdown_events.specs.declared.role.Role.TheVariants.{Transparent as transparent, Significant as significant}
use Rattle.markdown_grammar.specs.declared.error_kind.ErrorKind.TheVariants.{Held, Unbalanced}

-- a state with these open spans, in which the steps reached that
abbrev pub at : List OpenSpan → Around → Marks → Reached → State
at fs around m x = record { frames = fs; around = around; marks = m; columns = x.columns; top = x.top }

abbrev pub the_open : Name → Point → Around → Marks → Option (ItemKind × ContainerState) → OpenSpan
the_open n a around m outer = record { name = n; start = a; around = around; before = m; outer = outer }

-- the exit of a span
closes : (s : Source) (f : OpenSpan) (b : Point) (more : List Event) (fs : List OpenSpan) (around : Around) (m : Marks) (x : Reached)
    → run s (exit f.name b ∷ more) (at (f ∷ fs) around m x) ≡ (leave_to s f.start b (child_facts m x.columns) x.top f.outer >>= λ t. run s more (pop f fs (at (f ∷ fs) around m x) t))
unfolding run exit_step
closes s f b more fs around m x =
    rw (same_name_refl f.name) (bind_bind (leave_to s f.start b (child_facts m x.columns) x.top f.outer) (λ t. done (pop f fs (at (f ∷ fs) around m x) t)) (run s more))

-- the run goes over a whole forest as the recursion does, and on with what it reached
abbrev pub Over : Source → Forest → Type 0
Over s f = (more : List Event) (fs : List OpenSpan) (around : Around) (m : Marks) (x : Reached)
    → run s (events_of f ++ more) (at fs around m x) ≡ (eval s around f x >>= λ y. run s more (at fs around (marks_onto m f) y))

-- the inside of a span, its exit, and what follows
rest_of : (s : Source) (n : Name) (a b : Point) (c r : Forest) → Over s c → Over s r → (more : List Event) (fs : List OpenSpan) (around : Around) (m : Marks) (outer : Option (ItemKind × ContainerState)) (x : Reached)
    → run s ((events_of c ++ (exit n b ∷ events_of r)) ++ more) (at (the_open n a around m outer ∷ fs) (under around (role_of n)) no_marks x)
    ≡ (eval s (under around (role_of n)) c x >>= λ y. leave_to s a b (child_facts (marks c) y.columns) y.top outer >>= λ t. eval s around r (ended (role_of n) (marks c) y t) >>= λ z. run s more (at fs around (marks_onto m (span n a b c r)) z))
rest_of s n a b c r inside after more fs around m outer x =
    let o : OpenSpan = the_open n a around m outer in
    let u : Around = under around (role_of n) in
    let on : Reached → Result State ErrorAt = λ y. eval s around r y >>= λ z. run s more (at fs around (marks_onto m (span n a b c r)) z) in
    ap (λ (es : List Event). run s es (at (o ∷ fs) u no_marks x)) (append_assoc (events_of c) (exit n b ∷ events_of r) more)
    ∙ inside (exit n b ∷ (events_of r ++ more)) (o ∷ fs) u no_marks x
    ∙ bind_same (eval s u c x) _ (λ y. leave_to s a b (child_facts (marks c) y.columns) y.top outer >>= λ t. on (ended (role_of n) (marks c) y t))
    (λ y. closes s o b (events_of r ++ more) fs u (marks c) y
    ∙ bind_same (leave_to s a b (child_facts (marks c) y.columns) y.top outer) _ (λ t. on (ended (role_of n) (marks c) y t)) (λ t. after more fs around (marks_with m (role_of n) (marks c)) (ended (role_of n) (marks c) y t)))

over_as : (s : Source) (role : Role) (n : Name) (a b : Point) (c r : Forest) → role_of n ≡ role → Over s c → Over s r → (more : List Event) (fs : List OpenSpan) (around : Around) (m : Marks) (x : Reached)
    → (enter_as s role n a (at fs around m x) >>= run s ((events_of c ++ (exit n b ∷ events_of r)) ++ more))
    ≡ (eval_as s role a b (marks c) (λ y. eval s (under around (role_of n)) c y) (λ y. eval s around r y) x >>= λ z. run s more (at fs around (marks_onto m (span n a b c r)) z))
over_as s (transparent k) n a b c r is inside after more fs around m x =
    let on : Reached → Result State ErrorAt = λ z. run s more (at fs around (marks_onto m (span n a b c r)) z) in
    let begins : Reached = reached x.top (columns_entered x.top.place.in_table (role_of n) x.columns) in
    rest_of s n a b c r inside after more fs around m None begins
    ∙ (λ t. eval s (under around (role_of n)) c (begun (is t) x x.top) >>= λ y. eval s around r (ended (is t) (marks c) y y.top) >>= on)
    ∙ sym (bind_bind (eval s (under around (role_of n)) c (begun (transparent k) x x.top)) (λ y. eval s around r (ended (transparent k) (marks c) y y.top)) on)
over_as s (significant what) n a b c r is inside after more fs around m x =
    let on : Reached → Result State ErrorAt = λ z. run s more (at fs around (marks_onto m (span n a b c r)) z) in
    let go : Reached → Result Reached ErrorAt = λ y. eval s around r y in
    let out : Reached → Result ContainerState ErrorAt = λ y. leave s what a b (child_facts (marks c) y.columns) y.top x.top in
    let begins : Reached = reached (entered x.top what) (columns_entered x.top.place.in_table (role_of n) x.columns) in
    let in_it : Result Reached ErrorAt = eval s (under around (role_of n)) c (begun (significant what) x (entered x.top what)) in
    let then_go : Reached → Result Reached ErrorAt = λ y. out y >>= λ t. go (ended (significant what) (marks c) y t) in
    checked_bind (enter_checks s x.top what a) a (done (push n a (at fs around m x) (Some (what, x.top)) (entered x.top what))) (run s ((events_of c ++ (exit n b ∷ events_of r)) ++ more))
    ∙ ap (checked (enter_checks s x.top what a) a)
    (rest_of s n a b c r inside after more fs around m (Some (what, x.top)) begins
    ∙ (λ t. eval s (under around (role_of n)) c (begun (is t) x (entered x.top what)) >>= λ y. out y >>= λ top. go (ended (is t) (marks c) y top) >>= on)
    ∙ bind_same in_it (λ y. out y >>= λ t. go (ended (significant what) (marks c) y t) >>= on) (λ y. then_go y >>= on) (λ y. sym (bind_bind (out y) (λ t. go (ended (significant what) (marks c) y t)) on))
    ∙ sym (bind_bind in_it then_go on))
    ∙ sym (checked_bind (enter_checks s x.top what a) a (in_it >>= then_go) on)

pub over : (s : Source) (f : Forest) → Over s f
unfolding run enter_step
over s empty more fs around m x = refl
over s (span n a b c r) more fs around m x =
    checked_bind ((may_begin around (role_of n), Held) ∷ []) a (enter_as s (role_of n) n a (at fs around m x)) (run s ((events_of c ++ (exit n b ∷ events_of r)) ++ more))
    ∙ ap (checked ((may_begin around (role_of n), Held) ∷ []) a) (over_as s (role_of n) n a b c r refl (λ e f h i y. over s c e f h i y) (λ e f h i y. over s r e f h i y) more fs around m x)
    ∙ sym (checked_bind ((may_begin around (role_of n), Held) ∷ []) a (eval_as s (role_of n) a b (marks c) (λ y. eval s (under around (role_of n)) c y) (λ y. eval s around r y) x) (λ z. run s more (at fs around (marks_onto m (span n a b c r)) z)))

-- ---- A run that ends with no span open went over a spelling

-- the events close these spans, one after the other, and nothing else
Shut : List OpenSpan → List Event → Type 0
Shut [] es = (f : Forest) × (es ≡ events_of f)
Shut (o ∷ os) es = (f : Forest) × (p : Point) × (more : List Event) × (es ≡ events_of f ++ (exit o.name p ∷ more)) × Shut os more

wrapped : (o : OpenSpan) (s : Point) (os : List OpenSpan) (es : List Event) → Shut (o ∷ os) es → Shut os (enter o.name s ∷ es)
unfolding Shut
wrapped o s [] es h =
    let g = h.4 in
    (span o.name s h.1 h.0 g.0, ap (λ (x : List Event). enter o.name s ∷ x) (h.3 ∙ ap (λ (x : List Event). events_of h.0 ++ (exit o.name h.1 ∷ x)) g.1))
wrapped o s (q ∷ os) es h =
    let g = h.4 in (
      span o.name s h.1 h.0 g.0,
      g.1,
      g.2,
      ap (λ (x : List Event). enter o.name s ∷ x) (h.3 ∙ ap (λ (x : List Event). events_of h.0 ++ (exit o.name h.1 ∷ x)) g.3 ∙ sym (append_assoc (events_of h.0) (exit o.name h.1 ∷ events_of g.0) (exit q.name g.1 ∷ g.2))),
      g.4,
    )

-- what an enter opens
abbrev pub opened_by : Role → State → Option (ItemKind × ContainerState)
opened_by (transparent k) st = None
opened_by (significant what) st = Some (what, st.top)

abbrev pub top_by : Role → State → ContainerState
top_by (transparent k) st = st.top
top_by (significant what) st = entered st.top what

entered_is : (s : Source) (role : Role) (n : Name) (p : Point) (a z : State) → enter_as s role n p a ≡ Ok z → push n p a (opened_by role a) (top_by role a) ≡ z
entered_is s (transparent k) n p a z h = ok_is (push n p a None a.top) z h
entered_is s (significant what) n p a z h =
    ok_is (push n p a (Some (what, a.top)) (entered a.top what)) z (checked_ok (enter_checks s a.top what p) p (Ok (push n p a (Some (what, a.top)) (entered a.top what))) z h)

pub enter_is : (s : Source) (n : Name) (p : Point) (a z : State) → enter_step s n p a ≡ Ok z → push n p a (opened_by (role_of n) a) (top_by (role_of n) a) ≡ z
unfolding enter_step
enter_is s n p a z h = entered_is s (role_of n) n p a z (checked_ok ((may_begin a.around (role_of n), Held) ∷ []) p (enter_as s (role_of n) n p a) z h)

-- what an exit leaves
pub record Left (s : Source) (n : Name) (p : Point) (a z : State) : Type 0 where
  pub first : OpenSpan
  pub rest : List OpenSpan
  pub frames : a.frames ≡ first ∷ rest
  pub name : first.name ≡ n
  pub top : ContainerState
  pub left : leave_to s first.start p (child_facts a.marks a.columns) a.top first.outer ≡ Ok top
  pub is : pop first rest a top ≡ z

left_by : (s : Source) (n : Name) (p : Point) (fs : List OpenSpan) (a z : State) → a.frames ≡ fs → exit_from s n p fs a ≡ Ok z → Left s n p a z
left_by s n p [] a z at_frames h = absurd cc
left_by s n p (f ∷ fs) a z at_frames h =
    let out = leave_to s f.start p (child_facts a.marks a.columns) a.top f.outer in
    let g = one_ok (is_same_name f.name n) (out >>= λ t. done (pop f fs a t)) z (record { error_kind = Unbalanced; point = p }) h in
    let b = bind_ok out (λ t. done (pop f fs a t)) z g.1 in
    record { first = f; rest = fs; frames = at_frames; name = same_name_is f.name n g.0; top = b.0; left = b.1; is = ok_is (pop f fs a b.0) z b.2 }

pub left_is : (s : Source) (n : Name) (p : Point) (a z : State) → exit_step s n p a ≡ Ok z → Left s n p a z
unfolding exit_step
left_is s n p a z h = left_by s n p a.frames a z refl h

step_popped : (k : Kind) (s : Source) (n : Name) (p : Point) (a z : State) (es : List Event) → step_by k s n p a ≡ Ok z → Shut z.frames es → Shut a.frames (record { kind = k; name = n; point = p } ∷ es)
unfolding Shut
step_popped Enter s n p a z es h closing =
    wrapped (the_open n p a.around a.marks (opened_by (role_of n) a)) p a.frames es (subst (λ (x : State). Shut x.frames es) (sym (enter_is s n p a z h)) closing)
step_popped Exit s n p a z es h closing =
    let l = left_is s n p a z h in
    subst (λ (fs : List OpenSpan). Shut fs (exit n p ∷ es)) (sym l.frames)
    (empty, p, es, ap (λ (m : Name). exit m p ∷ es) (sym l.name), subst (λ (x : State). Shut x.frames es) (sym l.is) closing)

all_popped : (s : Source) (es : List Event) (a z : State) → run s es a ≡ Ok z → z.frames ≡ [] → Shut a.frames es
unfolding run Shut
all_popped s [] a z h over = subst (λ (fs : List OpenSpan). Shut fs []) (sym (ap (λ (x : State). x.frames) (ok_is a z h) ∙ over)) (empty, refl)
all_popped s (e ∷ es) a z h over =
    let b = bind_ok (step s e a) (run s es) z h in
    step_popped e.kind s e.name e.point a b.0 es b.1 (all_popped s es b.0 z b.2 over)

-- the events of a run that ends with no span open are those of a forest
pub run-of : (s : Source) (es : List Event) (around : Around) (m : Marks) (x : Reached) (z : State) → run s es (at [] around m x) ≡ Ok z → z.frames ≡ [] → (f : Forest) × (es ≡ events_of f)
unfolding Shut
run-of s es around m x z h over = all_popped s es (at [] around m x) z h over
