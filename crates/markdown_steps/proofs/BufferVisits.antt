-- Over the events of an accepted forest no more nodes are walked over than its buffers hold.
use Rattle.std.proofs.Common.{◌≡◌, ◌≤◌, ℕ, ◌+◌, Bool, true, false, ◌&&◌, List, [], ◌∷◌, ◌++◌, Option, None, Some, Result, Ok, refl, sym, ap, ◌∙◌, arith, append_assoc}
use Rattle.std.specs.Prelude.{if◌then◌else◌, not}
use Rattle.std.proofs.lemmas.List.{append-nil}
use Rattle.markdown_events.specs.Forest.{Forest, empty, enter, exit, is_well_formed, span, events_of}
use Rattle.markdown_events.specs.Names.{role_of}
use Rattle.markdown_steps.specs.ChildFacts.{child_facts_of}
use Rattle.markdown_events.specs.declared.event.Event.{Event}
use Rattle.markdown_events.specs.declared.event.Name.{Name}
use Rattle.markdown_events.specs.declared.event.Point.{Point}
use Rattle.markdown_events.specs.declared.role.ItemKind.{ItemKind}
use Rattle.markdown_events.specs.declared.role.Role.{Role}
use Rattle.markdown_nodes.specs.Tree.{Trees}
use Rattle.markdown_events.proofs.Booleans.{and-left}
use Rattle.markdown_steps.proofs.ColumnKinds.{columns_past}
use Rattle.markdown_steps.proofs.Compiled.{all_but_last, eval-is, finish, start}
use Rattle.markdown_steps.proofs.EventRuns.{at, the_open}
use Rattle.markdown_steps.proofs.ForestSteps.{Reached, begun, ended, eval, eval-walk, eval_as, giving, reached}
use Rattle.markdown_steps.proofs.Decorating.{nodes-are}
use Rattle.markdown_steps.proofs.SummaryLaws.{container_state}
use Rattle.markdown_steps.proofs.ItemSteps.{fresh-is, tested, walk, walk-is}
use Rattle.markdown_steps.proofs.Outcomes.{bind_ok, checked_ok, checked_passes, done, ok, ok-inv, ok_is, one_ok, passing_checked, same_name_refl, some_is, then-inv, when, when-some}
use Rattle.markdown_steps.proofs.RuleLists.{and-assoc}
use Rattle.markdown_steps.proofs.WellFormed.{is_well_formed_in}
use Rattle.markdown_steps.proofs.SiblingMarks.{marks, marks_onto}
use Rattle.markdown_steps.proofs.VisitCounts.{exit-walks}
use Rattle.markdown_grammar.specs.Accepted.{ends_with_break}
use Rattle.markdown_steps.specs.OneTest.{accepted, fits}
use Rattle.markdown_events.specs.Around.{in_the_open, may_begin, under}
use Rattle.markdown_grammar.specs.Buffers.{buffered_nodes, buffered_nodes_in, is_buffer, node_count}
use Rattle.markdown_steps.specs.Columns.{Columns, child_facts}
use Rattle.markdown_steps.specs.Compiler.{ContainerState, OpenSpan, State, with_child, enter_as, enter_checks, enter_step, entered, exit_checks, exit_step, fresh, leave, leave_to, opening, pop}
use Rattle.markdown_grammar.specs.Grammar.{conforms}
use Rattle.markdown_grammar.specs.Grammar.{ContentModel, any_content, model_of}
use Rattle.markdown_grammar.specs.Items.{Items, item, items, kinds, none, place_items, ◌then◌}
use Rattle.markdown_grammar.specs.Decorated.{nodes_of}
use Rattle.markdown_grammar.specs.Nodes.{decorate}
use Rattle.markdown_steps.specs.Summaries.{path_to}
use Rattle.markdown_grammar.specs.Attributes.{Place, inherited_after, inherited_in, inherited_at_root}
use Rattle.markdown_grammar.specs.Refusals.{ErrorAt}
use Rattle.markdown_steps.specs.Checks.{checked, passes, ◌>>=◌}
use Rattle.markdown_steps.specs.Siblings.{Marks, marks_with, no_marks}
use Rattle.markdown_grammar.specs.Document.{Source}
use Rattle.markdown_grammar.specs.Sites.{inherited_after_all}
use Rattle.markdown_steps.specs.Visits.{run_visits, visits_by_owner}
use Rattle.markdown_events.specs.declared.around.Around.{Around}
use Rattle.markdown_grammar.specs.declared.error_kind.ErrorKind.{ErrorKind}
use Rattle.markdown_events.specs.declared.role.Part.TheVariants as parts
use Rattle.markdown_events.specs.declared.role.Role.TheVariants.{Transparent as transparent, Significant as significant}
use Rattle.markdown_grammar.specs.declared.error_kind.ErrorKind.TheVariants.{Held}

-- the nodes of the label that a container keeps
abbrev label_of : ContainerState → ℕ
label_of t = node_count t.inner.label

-- ---- Where the steps over items lead

walk-place : (s : Source) (xs : Items) (top t : ContainerState) → walk s top xs ≡ Some t → t.place ≡ inherited_after_all xs top.place
walk-place s none top t h = ap (λ (x : ContainerState). x.place) (sym (some_is top t h))
walk-place s (item what a b d i rest) top t h =
    let on : ContainerState → Option ContainerState = λ own. when (passes (exit_checks s top what a b own)) (walk s (with_child s top what a b (child_facts_of d) own.inner) rest) in
    let g = then-inv (walk s (entered top what) i) on t (when-some (passes (enter_checks s top what a)) _ t h).1 in
    walk-place s rest (with_child s top what a b (child_facts_of d) (g.0).inner) t (when-some (passes (exit_checks s top what a b g.0)) _ t g.2).1

eval-walked : (s : Source) (around : Around) (f : Forest) (x y : Reached) → eval s around f x ≡ Ok y → walk s x.top (items f) ≡ Some y.top
eval-walked s around f x y h =
    let cs : Columns = columns_past x.top.place.in_table x.columns f in
    let e = when-some (is_well_formed_in around f) (giving cs (walk s x.top (items f))) y (sym (eval-walk s around f x) ∙ ap ok h) in
    let g = then-inv (walk s x.top (items f)) (λ (t : ContainerState). Some (reached t cs)) y e.1 in
    g.1 ∙ ap (λ (z : Reached). Some z.top) (some_is (reached g.0 cs) y g.2)

eval-place : (s : Source) (around : Around) (f : Forest) (x y : Reached) → eval s around f x ≡ Ok y → y.top.place ≡ inherited_after_all (items f) x.top.place
eval-place s around f x y h = walk-place s (items f) x.top y.top (eval-walked s around f x y h)

-- a container keeps the nodes of its items
eval-nodes : (s : Source) (around : Around) (f : Forest) (h : ContentModel) (p : Place) (columns : Columns) (y : Reached) → eval s around f (reached (fresh h p) columns) ≡ Ok y → y.top.inner.nodes ≡ nodes_of (decorate s p (items f))
eval-nodes s around f h p columns y e =
    let w = sym (walk-is s h p none (items f)) ∙ ap (λ (t : ContainerState). walk s t (items f)) (sym (fresh-is s h p)) ∙ eval-walked s around f (reached (fresh h p) columns) y e in
    let g = when-some (tested s h p none (items f)) (Some (container_state s h p (items f))) y.top w in
    sym (ap (λ (t : ContainerState). t.inner.nodes) (some_is (container_state s h p (items f)) y.top g.1)) ∙ nodes-are s p (items f)

held-then : (s : Source) (p : Place) (xs ys : Items) → buffered_nodes_in s p (xs then ys) ≡ buffered_nodes_in s p xs + buffered_nodes_in s (inherited_after_all xs p) ys
held-then s p none ys = omega arith
held-then s p (item what a b d i rest) ys = let h = held-then s (inherited_after what p) rest ys in omega (arith, h)

-- ---- One span

enter-walks : (s : Source) (n : Name) (a : Point) (es : List Event) (st z : State) → may_begin st.around (role_of n) ≡ true → enter_as s (role_of n) n a st ≡ Ok z → run_visits s (enter n a ∷ es) st ≡ 0 + run_visits s es z
unfolding run_visits enter_step
enter-walks s n a es st z b h = rw (b, h) refl

closing-walks : (s : Source) (f : OpenSpan) (b : Point) (more : List Event) (fs : List OpenSpan) (around : Around) (m : Marks) (x : Reached) (t : ContainerState) → leave_to s f.start b (child_facts m x.columns) x.top f.outer ≡ Ok t
    → run_visits s (exit f.name b ∷ more) (at (f ∷ fs) around m x) ≡ visits_by_owner f.outer x.top.inner + run_visits s more (pop f fs (at (f ∷ fs) around m x) t)
unfolding run_visits exit_step
closing-walks s f b more fs around m x t h = rw (same_name_refl f.name, h) refl

-- tests that pass let another result pass
passing : {A B : Type 0} (cs : List (Bool × ErrorKind)) (p : Point) (r : Result A ErrorAt) (y : A) (x : B) → checked cs p r ≡ Ok y → checked cs p (done x) ≡ Ok x
passing cs p r y x h = passing_checked cs p (done x) (checked_passes cs p r y h)

-- what is shown of a forest: what is walked, and the label kept after it, come from the label before and from what its buffers hold
abbrev Over : Source → Forest → Type 0
Over s f = (more : List Event) (fs : List OpenSpan) (around : Around) (m : Marks) (x y : Reached) → eval s around f x ≡ Ok y
    → run_visits s (events_of f ++ more) (at fs around m x) + label_of y.top ≤ buffered_nodes_in s x.top.place (items f) + label_of x.top + run_visits s more (at fs around (marks_onto m f) y)

-- the inside of a span, its exit, and what follows
rest-walks : (s : Source) (n : Name) (a b : Point) (c r : Forest) (role : Role) → role_of n ≡ role → Over s c → Over s r
    → (more : List Event) (fs : List OpenSpan) (around : Around) (m : Marks) (outer : Option (ItemKind × ContainerState)) (x z : Reached) (t : ContainerState) (y : Reached)
    → eval s (under around (role_of n)) c x ≡ Ok z → leave_to s a b (child_facts (marks c) z.columns) z.top outer ≡ Ok t → eval s around r (ended role (marks c) z t) ≡ Ok y
    → run_visits s ((events_of c ++ (exit n b ∷ events_of r)) ++ more) (at (the_open n a around m outer ∷ fs) (under around (role_of n)) no_marks x) + label_of z.top + label_of y.top
    ≤ buffered_nodes_in s x.top.place (items c) + label_of x.top + visits_by_owner outer z.top.inner + buffered_nodes_in s t.place (items r) + label_of t + run_visits s more (at fs around (marks_onto m (span n a b c r)) y)
rest-walks s n a b c r role is inside after more fs around m outer x z t y made left gone =
    let o : OpenSpan = the_open n a around m outer in
    let u : Around = under around (role_of n) in
    let one = ap (λ (es : List Event). run_visits s es (at (o ∷ fs) u no_marks x)) (append_assoc (events_of c) (exit n b ∷ events_of r) more) in
    let two = inside (exit n b ∷ (events_of r ++ more)) (o ∷ fs) u no_marks x z made in
    let three = closing-walks s o b (events_of r ++ more) fs u (marks c) z t left in
    let four = ap (λ (k : Role). run_visits s (events_of r ++ more) (at fs around (marks_with m (role_of n) (marks c)) (ended k (marks c) z t))) is in
    let five = after more fs around (marks_with m (role_of n) (marks c)) (ended role (marks c) z t) y gone in
    omega (arith, one, two, three, four, five)

-- a whole span, by its role
by-role : (s : Source) (n : Name) (a b : Point) (c r : Forest) (role : Role) → role_of n ≡ role → Over s c → Over s r
    → (more : List Event) (fs : List OpenSpan) (around : Around) (m : Marks) (x y : Reached) → may_begin around (role_of n) ≡ true
    → eval_as s role a b (marks c) (λ z. eval s (under around (role_of n)) c z) (λ z. eval s around r z) x ≡ Ok y
    → run_visits s (events_of (span n a b c r) ++ more) (at fs around m x) + label_of y.top
    ≤ buffered_nodes_in s x.top.place (place_items role a b c (items c) (items r)) + label_of x.top + run_visits s more (at fs around (marks_onto m (span n a b c r)) y)
unfolding leave
by-role s n a b c r (transparent k) is inside after more fs around m x y may h =
    let u : Around = under around (role_of n) in
    let begins : Reached = begun (transparent k) x x.top in
    let g = bind_ok (eval s u c begins) (λ z. eval s around r (ended (transparent k) (marks c) z z.top)) y h in
    let z : Reached = g.0 in
    let first = enter-walks s n a ((events_of c ++ (exit n b ∷ events_of r)) ++ more) (at fs around m x) (at (the_open n a around m None ∷ fs) u no_marks begins) may
    (ap (λ (q : Role). enter_as s q n a (at fs around m x)) is ∙ ap (λ (q : Role). done (at (the_open n a around m None ∷ fs) u no_marks (begun q x x.top))) is) in
    let rest = rest-walks s n a b c r (transparent k) is inside after more fs around m None begins z z.top y g.1 refl g.2 in
    let both = held-then s x.top.place (items c) (items r) in
    let there = ap (λ (p : Place). buffered_nodes_in s p (items r)) (eval-place s u c begins z g.1) in
    omega (arith, first, rest, both, there)
by-role s n a b c r (significant what) is inside after more fs around m x y may h =
    let u : Around = under around (role_of n) in
    let own : ContainerState = entered x.top what in
    let begins : Reached = begun (significant what) x own in
    let out : Reached → Result ContainerState ErrorAt = λ z. leave s what a b (child_facts (marks c) z.columns) z.top x.top in
    let taken = checked_ok (enter_checks s x.top what a) a (eval s u c begins >>= λ z. out z >>= λ t. eval s around r (ended (significant what) (marks c) z t)) y h in
    let g = bind_ok (eval s u c begins) (λ z. out z >>= λ t. eval s around r (ended (significant what) (marks c) z t)) y taken in
    let z : Reached = g.0 in
    let l = bind_ok (out z) (λ t. eval s around r (ended (significant what) (marks c) z t)) y g.2 in
    let made : ContainerState = with_child s x.top what a b (child_facts (marks c) z.columns) z.top.inner in
    let t_is : made ≡ l.0 = ok_is made l.0 (checked_ok (exit_checks s x.top what a b z.top) b (Ok made) l.0 l.1) in
    let first = enter-walks s n a ((events_of c ++ (exit n b ∷ events_of r)) ++ more) (at fs around m x) (at (the_open n a around m (Some (what, x.top)) ∷ fs) u no_marks begins) may
    (ap (λ (q : Role). enter_as s q n a (at fs around m x)) is
    ∙ passing (enter_checks s x.top what a) a (eval s u c begins >>= λ z. out z >>= λ t. eval s around r (ended (significant what) (marks c) z t)) y (at (the_open n a around m (Some (what, x.top)) ∷ fs) u no_marks (begun (role_of n) x own)) h
    ∙ ap (λ (q : Role). done (at (the_open n a around m (Some (what, x.top)) ∷ fs) u no_marks (begun q x own))) is) in
    let rest = rest-walks s n a b c r (significant what) is inside after more fs around m (Some (what, x.top)) begins z l.0 y g.1 l.1 l.2 in
    let last = exit-walks what z.top.inner (x.top.inner.part (path_to parts.LabelText)) x.top.inner.label in
    let labels = ap label_of t_is in
    let there = ap (λ (q : ContainerState). buffered_nodes_in s q.place (items r)) t_is in
    let nodes_are = ap (λ (ts : Trees). if is_buffer what then node_count ts else 0) (eval-nodes s u c (model_of x.top.model what) (inherited_in what x.top.place) begins.columns z g.1) in
    omega (arith, first, rest, last, labels, there, nodes_are)

pub over-walks : (s : Source) (f : Forest) → Over s f
over-walks s empty more fs around m x y h =
    let is = ok_is x y h in
    let e = ap (λ (z : Reached). run_visits s more (at fs around m z)) is in
    let l = ap (λ (z : Reached). label_of z.top) is in
    omega (arith, e, l)
over-walks s (span n a b c r) more fs around m x y h =
    let g = one_ok (may_begin around (role_of n)) (eval_as s (role_of n) a b (marks c) (λ z. eval s (under around (role_of n)) c z) (λ z. eval s around r z) x) y (record { error_kind = Held; point = a }) h in
    by-role s n a b c r (role_of n) refl (λ e f i j k l q. over-walks s c e f i j k l q) (λ e f i j k l q. over-walks s r e f i j k l q) more fs around m x y g.0 g.1

-- no more nodes are walked over than the buffers of an accepted forest hold
pub accepted-walks : (s : Source) (f : Forest) → accepted s f ≡ true → run_visits s (events_of f) opening ≤ buffered_nodes s f
unfolding run_visits
accepted-walks s f h =
    let fit : all_but_last s f ≡ true = sym (and-assoc (is_well_formed f) (conforms any_content (kinds (items f))) (fits s any_content inherited_at_root false (items f)))
    ∙ and-left (is_well_formed f && conforms any_content (kinds (items f)) && fits s any_content inherited_at_root false (items f)) (not (ends_with_break (items f))) h in
    let made : eval s in_the_open f start ≡ Ok (finish s f) = ok-inv (eval s in_the_open f start) (finish s f) (eval-is s f ∙ ap (λ b. when b (Some (finish s f))) fit) in
    let all = over-walks s f [] [] in_the_open no_marks start (finish s f) made in
    let e = ap (λ (es : List Event). run_visits s es opening) (append-nil (events_of f)) in
    omega (arith, all, e)
