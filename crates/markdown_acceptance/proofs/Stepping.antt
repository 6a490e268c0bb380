-- The steps of the events of a call, by the call's test: they take them where it is true, and refuse them where it is false.
use Rattle.std.proofs.Common.{◌≡◌, Bool, true, ◌&&◌, List, [], ◌∷◌, None, Ok, Option, Result, Some, Err, refl, ap, ◌∙◌}
use Rattle.std.proofs.Math.Bool.{and_assoc}
use Rattle.std.specs.Option.{option_and_then}
use Rattle.markdown_events.specs.Around.{may_begin}
use Rattle.markdown_events.specs.Forest.{enter, exit}
use Rattle.markdown_events.specs.Names.{is_same_name, role_of}
use Rattle.markdown_events.specs.declared.event.Event.{Event}
use Rattle.markdown_events.specs.declared.event.Name.{Name}
use Rattle.markdown_events.specs.declared.event.Point.{Point}
use Rattle.markdown_events.specs.declared.role.ItemKind.{ItemKind}
use Rattle.markdown_events.specs.declared.role.Role.{Role}
use Rattle.markdown_events.specs.declared.role.Role.TheVariants.{Significant as significant, Transparent as transparent}
use Rattle.markdown_grammar.specs.Document.{Source}
use Rattle.markdown_grammar.specs.Refusals.{ErrorAt}
use Rattle.markdown_grammar.specs.declared.error_kind.ErrorKind.TheVariants.{Held, Unbalanced}
use Rattle.markdown_events.proofs.Booleans.{and-true}
use Rattle.markdown_steps.proofs.Outcomes.{done, ok, ok-bind, ok-checked, same_name_refl, when, when-then, when-when}
use Rattle.markdown_steps.specs.Checks.{passes, ◌>>=◌}
use Rattle.markdown_steps.specs.ChildFacts.{ChildFacts}
use Rattle.markdown_steps.specs.Columns.{child_facts}
use Rattle.markdown_steps.specs.Compiler.{ContainerState, OpenSpan, State, enter_as, enter_checks, enter_step, entered, exit_checks, exit_from, exit_step, leave, leave_to, pop, push, run, step, with_child}
use Rattle.markdown_acceptance.proofs.Tests.{empty_exit-is, enter-is, exit-is}
use Rattle.markdown_acceptance.specs.Calls.{may_close_as, may_open_as, may_write_as}
use Rattle.markdown_acceptance.specs.Shown.{Shows, ShowsOuter, ShowsState}
use Rattle.markdown_acceptance.specs.Sites.{is_complete, may_enter, reads, takes_empty}
use Rattle.markdown_acceptance.specs.Stacks.{Stack}
use Rattle.markdown_acceptance.specs.declared.open_spans.Outer.{Outer}
use Rattle.markdown_acceptance.specs.declared.site.Site.{Site}

bind-done : (s : Source) (r : Result State ErrorAt) → (r >>= run s []) ≡ r
unfolding run
bind-done s (Ok x) = refl
bind-done s (Err e) = refl

pub run-one : (s : Source) (e : Event) (st : State) → run s (e ∷ []) st ≡ step s e st
unfolding run
run-one s e st = bind-done s (step s e st)

-- ---- Enters

-- a state with one more open span
abbrev pub opened : Role → Name → Point → State → State
opened (transparent k) n p st = push n p st None st.top
opened (significant what) n p st = push n p st (Some (what, st.top)) (entered st.top what)

pub enter-steps : (s : Source) (n : Name) (p : Point) (role : Role) (spans : Stack) (st : State) → role_of n ≡ role → ShowsState spans st
    → ok (step s (enter n p) st) ≡ when (may_begin spans.around role && may_open_as s.bytes spans.site role p) (Some (opened role n p st))
unfolding enter_step
enter-steps s n p (transparent k) spans st is h =
    ok-checked ((may_begin st.around (role_of n), Held) ∷ []) p (enter_as s (role_of n) n p st)
    ∙ (λ t. when (may_begin (h.around t) (is t) && true) (ok (enter_as s (is t) n p st)))
enter-steps s n p (significant what) spans st is h =
    let z : State = push n p st (Some (what, st.top)) (entered st.top what) in
    ok-checked ((may_begin st.around (role_of n), Held) ∷ []) p (enter_as s (role_of n) n p st)
    ∙ (λ t. when (may_begin (h.around t) (is t) && true) (ok (enter_as s (is t) n p st)))
    ∙ ap (when (may_begin spans.around (significant what) && true)) (ok-checked (enter_checks s st.top what p) p (done z))
    ∙ when-when (may_begin spans.around (significant what) && true) (passes (enter_checks s st.top what p)) (Some z)
    ∙ (λ t. when (and-true (may_begin spans.around (significant what)) t && enter-is s spans.site st.top what p h.top t) (Some z))

-- ---- Exits

-- the container around a span that has ended
abbrev pub left : Source → Point → Point → ChildFacts → ContainerState → Option (ItemKind × ContainerState) → ContainerState
left s a b facts own None = own
left s a b facts own (Some outer) = with_child s outer.1 outer.0 a b facts own.inner

pub leave-steps : (s : Source) (x : Option Outer) (y : Option (ItemKind × ContainerState)) (own : Site) (inner : ContainerState) (a b : Point) (facts : ChildFacts) → ShowsOuter x y → Shows own inner
    → ok (leave_to s a b facts inner y) ≡ when (may_close_as s x a own b) (Some (left s a b facts inner y))
unfolding leave
leave-steps s None None own inner a b facts h k = refl
leave-steps s None (Some y) own inner a b facts h k = absurd h
leave-steps s (Some x) None own inner a b facts h k = absurd h
leave-steps s (Some x) (Some y) own inner a b facts h k =
    ok-checked (exit_checks s y.1 y.0 a b inner) b (done (with_child s y.1 y.0 a b facts inner.inner))
    ∙ ap (λ q. when q (Some (with_child s y.1 y.0 a b facts inner.inner))) (exit-is s x.site own y.1 inner y.0 a b h.1 k ∙ ap (λ (w : ItemKind). is_complete own && reads s x.site w a b) h.0)

empty-leave-steps : (s : Source) (site : Site) (c : ContainerState) (what : ItemKind) (a b : Point) (facts : ChildFacts) → Shows site c
    → ok (leave_to s a b facts (entered c what) (Some (what, c))) ≡ when (takes_empty site what && reads s site what a b) (Some (left s a b facts (entered c what) (Some (what, c))))
unfolding leave
empty-leave-steps s site c what a b facts h =
    let next : ContainerState = with_child s c what a b facts (entered c what).inner in
    ok-checked (exit_checks s c what a b (entered c what)) b (done next) ∙ ap (λ q. when q (Some next)) (empty_exit-is s site c what a b h)

-- an exit, by what is asked of the innermost span
pub exit-steps : (s : Source) (n : Name) (p : Point) (o : OpenSpan) (os : List OpenSpan) (st : State) (test : Bool) (top : ContainerState) → st.frames ≡ o ∷ os → ok (leave_to s o.start p (child_facts st.marks st.columns) st.top o.outer) ≡ when test (Some top)
    → ok (step s (exit n p) st) ≡ when (is_same_name o.name n) (when test (Some (pop o os st top)))
unfolding exit_step
exit-steps s n p o os st test top is leaves =
    let after : ContainerState → Option State = λ t. Some (pop o os st t) in
    let gone : Result ContainerState ErrorAt = leave_to s o.start p (child_facts st.marks st.columns) st.top o.outer in
    ap (λ (spans : List OpenSpan). ok (exit_from s n p spans st)) is
    ∙ ok-checked ((is_same_name o.name n, Unbalanced) ∷ []) p (gone >>= λ t. done (pop o os st t))
    ∙ (λ t. when (and-true (is_same_name o.name n) t) ((ok-bind gone (λ x. done (pop o os st x)) ∙ ap (option_and_then after) leaves ∙ when-then test (Some top) after) t))

-- ---- Tokens

two-steps : (s : Source) (e f : Event) (st mid z : State) (first second : Bool) → ok (step s e st) ≡ when first (Some mid) → ok (step s f mid) ≡ when second (Some z) → ok (run s (e ∷ f ∷ []) st) ≡ when (first && second) (Some z)
unfolding run
two-steps s e f st mid z first second h k =
    let after : State → Option State = λ x. ok (run s (f ∷ []) x) in
    ok-bind (step s e st) (run s (f ∷ [])) ∙ ap (option_and_then after) h ∙ when-then first (Some mid) after ∙ ap (when first) (ap ok (run-one s f mid) ∙ k) ∙ when-when first second (Some z)

-- what a span is to the container around it, in a state in which it begins
abbrev pub outer_at : Role → State → Option (ItemKind × ContainerState)
outer_at (transparent k) st = None
outer_at (significant what) st = Some (what, st.top)

-- the span that has begun, and the state after it
abbrev pub span_at : Role → Name → Point → State → OpenSpan
span_at role n a st = record { name = n; start = a; around = st.around; before = st.marks; outer = outer_at role st }

abbrev pub written : Source → Role → Name → Point → Point → State → State
written s role n a b st =
    let mid : State = opened role n a st in
    pop (span_at role n a st) st.frames mid (left s a b (child_facts mid.marks mid.columns) mid.top (outer_at role st))

pub token-steps : (s : Source) (n : Name) (a b : Point) (role : Role) (spans : Stack) (st : State) → role_of n ≡ role → ShowsState spans st
    → ok (run s (enter n a ∷ exit n b ∷ []) st) ≡ when (may_begin spans.around role && may_write_as s spans.site role a b) (Some (written s role n a b st))
token-steps s n a b (transparent k) spans st is h =
    let mid : State = opened (transparent k) n a st in
    let z : State = written s (transparent k) n a b st in
    let may : Bool = may_begin spans.around (transparent k) in
    two-steps s (enter n a) (exit n b) st mid z (may && true) true (enter-steps s n a (transparent k) spans st is h)
    (exit-steps s n b (span_at (transparent k) n a st) st.frames mid true mid.top refl refl ∙ ap (λ q. when q (Some z)) (same_name_refl n))
    ∙ ap (λ q. when q (Some z)) (and-true (may && true))
token-steps s n a b (significant what) spans st is h =
    let mid : State = opened (significant what) n a st in
    let z : State = written s (significant what) n a b st in
    let ends : Bool = takes_empty spans.site what && reads s spans.site what a b in
    let facts : ChildFacts = child_facts mid.marks mid.columns in
    two-steps s (enter n a) (exit n b) st mid z (may_begin spans.around (significant what) && may_enter s.bytes spans.site what a) ends (enter-steps s n a (significant what) spans st is h)
    (exit-steps s n b (span_at (significant what) n a st) st.frames mid ends (left s a b facts mid.top (Some (what, st.top))) refl (empty-leave-steps s spans.site st.top what a b facts h.top)
    ∙ ap (λ q. when q (when ends (Some z))) (same_name_refl n))
    ∙ ap (λ q. when q (Some z)) (and_assoc (may_begin spans.around (significant what)) (may_enter s.bytes spans.site what a) ends)
