-- Why a list is refused, in the words of the grammar: the first test that fails at the event where the run stops.
use Rattle.std.proofs.Common.{◌≡◌, ◌≢◌, ◌⊎◌, inl, inr, Bool, true, false, not, ◌&&◌, cond, List, [], ◌∷◌, ◌++◌, Some, None, Result, Ok, Err, refl, sym, ap, subst, ◌∙◌}
use Rattle.std.specs.List.{list_all}
use Rattle.markdown_events.specs.Forest.{Forest, empty, is_delimiter_cell_value, is_delimiter_row, span}
use Rattle.markdown_events.specs.Names.{is_same_name, role_of}
use Rattle.markdown_steps.specs.ChildFacts.{ChildFacts}
use Rattle.markdown_nodes.specs.Tree.{Tree}
use Rattle.markdown_events.specs.declared.event.Event.{Event}
use Rattle.markdown_events.specs.declared.event.Kind.{Kind}
use Rattle.markdown_events.specs.declared.event.Name.{Name}
use Rattle.markdown_events.specs.declared.event.Point.{Point}
use Rattle.markdown_events.specs.declared.role.ItemKind.{ItemKind}
use Rattle.markdown_events.specs.declared.role.Role.{Role}
use Rattle.markdown_steps.proofs.Allowed.{complete-is}
use Rattle.markdown_events.proofs.Booleans.{and-both, and-left, and-right}
use Rattle.markdown_steps.proofs.SummaryLaws.{inner_at}
use Rattle.markdown_steps.proofs.Known.{AreOpen, AreWellFormed, Stands, kept_at_site, known, outer_by}
use Rattle.markdown_steps.proofs.OpenSpans.{checked_why, no_err}
use Rattle.markdown_steps.proofs.Outcomes.{done, err_is, same_name_is}
use Rattle.markdown_steps.proofs.Refused.{none-begins, step_point, stopped, stops-last}
use Rattle.markdown_steps.proofs.Fine.{enter-tests-are, exit-tests-are, taken-so-far}
use Rattle.markdown_steps.proofs.WellFormed.{is_well_formed_in}
use Rattle.markdown_grammar.specs.Accepted.{Occurrence, ends_with_break, has_its_byte, is_no_inner_table}
use Rattle.markdown_events.specs.Around.{may_begin, under}
use Rattle.markdown_steps.specs.Columns.{child_facts}
use Rattle.markdown_steps.specs.Compiler.{ContainerState, OpenSpan, State, all_stood, with_child, compiled, enter_as, enter_checks, enter_step, entered, exit_checks, exit_from, exit_step, no_open_span, last_checks, leave, leave_to, push, opening, point_of, rule_checks, run, pop, step_by, tree_of}
use Rattle.markdown_steps.specs.Extents.{last_event}
use Rattle.markdown_grammar.specs.Grammar.{has_required, rules, conforms}
use Rattle.markdown_grammar.specs.Grammar.{ContentModel, model_of}
use Rattle.markdown_grammar.specs.Items.{Items, items, kinds}
use Rattle.markdown_grammar.specs.Attributes.{Place, inherited_in}
use Rattle.markdown_grammar.specs.Reasons.{EndsOpen, FailsFirst, IsWrong, IsWrongAtEnter, IsWrongAtExit, NothingIsWrong, StopsAtFirstError, enters, exits, held, unmatched}
use Rattle.markdown_grammar.specs.Refusals.{ErrorAt}
use Rattle.markdown_steps.specs.Checks.{checked, refused, ◌>>=◌}
use Rattle.markdown_grammar.specs.Grammar.{Rule, keeps}
use Rattle.markdown_grammar.specs.Document.{Source}
use Rattle.markdown_grammar.specs.Sites.{Ancestor, Site, around_of, model_after_all, occurrence, inherited_after_all, site_in, site_of}
use Rattle.markdown_events.specs.declared.around.Around.{Around}
use Rattle.markdown_grammar.specs.declared.error_kind.ErrorKind.{ErrorKind}
use Rattle.markdown_events.specs.declared.event.Kind.TheVariants.{Enter, Exit}
use Rattle.markdown_events.specs.declared.role.Role.TheVariants.{Transparent as transparent, Significant as significant}
use Rattle.markdown_grammar.specs.declared.error_kind.ErrorKind.TheVariants.{Held, InvalidSlice, Misplaced, Unbalanced, UnfinishedBreak}

-- ---- Enters

-- the reason of an enter that is refused
enter-as-wrong : (s : Source) (role : Role) (n : Name) (p : Point) (st : State) (m : ErrorAt) (site : Site) → st.top ≡ kept_at_site s site → conforms site.initial_model (kinds site.before) ≡ true → enter_as s role n p st ≡ Err m
    → (what : ItemKind) × (role ≡ significant what) × IsWrongAtEnter s site what p m.error_kind
enter-as-wrong s (transparent k) n p st m site top taken h = absurd (no_err (push n p st None st.top) m h)
enter-as-wrong s (significant what) n p st m site top taken h =
    let out : State = push n p st (Some (what, st.top)) (entered st.top what) in
    elim (checked_why (enter_checks s st.top what p) p (done out) m h) [
      | inl e ↦ absurd (no_err out m e.1)
      | inr f ↦ (
        what,
        refl,
        subst (λ (tests : List (Bool × ErrorKind)). FailsFirst tests m.error_kind) (ap (λ (x : ContainerState). enter_checks s x what p) top ∙ enter-tests-are s site what p taken) f,
      )
    ]

enter-reason : (s : Source) (n : Name) (p : Point) (st : State) (m : ErrorAt) (forest : Forest) (path : List Ancestor) → Stands s forest path st → enter_step s n p st ≡ Err m → IsWrong s forest path (record { kind = Enter; name = n; point = p }) m.error_kind
unfolding enter_step
enter-reason s n p st m forest path k h =
    let around : may_begin st.around (role_of n) ≡ may_begin (around_of path) (role_of n) = ap (λ (a : Around). may_begin a (role_of n)) k.around in
    elim (checked_why ((may_begin st.around (role_of n), Held) ∷ []) p (enter_as s (role_of n) n p st) m h) [
      | inl e ↦
          let w = enter-as-wrong s (role_of n) n p st m (site_of forest path) k.top k.taken e.1 in
          enters w.0 refl (sym around ∙ and-left (may_begin st.around (role_of n)) true e.0) w.1 k.taken w.2
      | inr (inl f) ↦ held refl (sym around ∙ f.0) f.1
      | inr (inr f) ↦ absurd f.1
    ]

-- ---- Exits

leave-wrong : (s : Source) (role : Role) (site : Site) (a p : Point) (c : ChildFacts) (own : ContainerState) (inside : Items) (m : ErrorAt) → own ≡ kept_at_site s (site_in role inside site) → leave_to s a p c own (outer_by s role site) ≡ Err m
    → (what : ItemKind) × (role ≡ significant what) × IsWrongAtExit s (occurrence site what a p inside) m.error_kind
unfolding leave
leave-wrong s (transparent k) site a p c own inside m top h = absurd (no_err own m h)
leave-wrong s (significant what) site a p c own inside m top h =
    let outer : ContainerState = kept_at_site s site in
    let made : ContainerState = with_child s outer what a p c own.inner in
    elim (checked_why (exit_checks s outer what a p own) p (done made) m h) [
      | inl e ↦ absurd (no_err made m e.1)
      | inr f ↦ (
        what,
        refl,
        subst (λ (tests : List (Bool × ErrorKind)). FailsFirst tests m.error_kind) (ap (λ (x : ContainerState). exit_checks s outer what a p x) top ∙ exit-tests-are s site what a p inside) f,
      )
    ]

bind_err : {A B : Type 0} (r : Result A ErrorAt) (f : A → B) (m : ErrorAt) → (r >>= λ x. done (f x)) ≡ Err m → r ≡ Err m
bind_err (Ok x) f m h = absurd cc
bind_err (Err k) f m h = ap (λ (j : ErrorAt). Err j) (err_is k m h)

unless-same : (b : Bool) (x : Result State ErrorAt) (p : Point) (m : ErrorAt) → cond b x (refused Unbalanced p) ≡ Err m → ((b ≡ false) × (m.error_kind ≡ Unbalanced)) ⊎ ((b ≡ true) × (x ≡ Err m))
unless-same true x p m h = inr (refl, h)
unless-same false x p m h = inl (refl, ap (λ (k : ErrorAt). k.error_kind) (sym (err_is {A = State} (record { error_kind = Unbalanced; point = p }) m h)))

-- the innermost open span and its exit
exit-open : (s : Source) (n : Name) (p : Point) (st : State) (m : ErrorAt) (f : OpenSpan) (fs : List OpenSpan) (forest : Forest) (e : Ancestor) (outer : List Ancestor)
    → AreOpen s (f ∷ fs) forest (e ∷ outer) → st.top ≡ kept_at_site s (site_of forest (e ∷ outer)) → exit_from s n p (f ∷ fs) st ≡ Err m → IsWrong s forest (e ∷ outer) (record { kind = Exit; name = n; point = p }) m.error_kind
exit-open s n p st m f fs forest e outer open_spans top h =
    let out = leave_to s f.start p (child_facts st.marks st.columns) st.top f.outer in
    let name : is_same_name e.name n ≡ is_same_name f.name n = ap (λ (k : Name). is_same_name k n) (sym open_spans.0) in
    elim (unless-same (is_same_name f.name n) (out >>= λ x. done (pop f fs st x)) p m h) [
      | inl u ↦ unmatched refl (name ∙ u.0) u.1
      | inr g ↦
          let fails : leave_to s e.start p (child_facts st.marks st.columns) st.top (outer_by s (role_of e.name) (site_of forest outer)) ≡ Err m =
          (λ t. leave_to s (sym open_spans.1 t) p (child_facts st.marks st.columns) st.top (sym open_spans.2 t)) ∙ bind_err out (λ x. pop f fs st x) m g.1 in
          let w = leave-wrong s (role_of e.name) (site_of forest outer) e.start p (child_facts st.marks st.columns) st.top (items e.inside) m top fails in
          exits e outer w.0 refl refl (sym open_spans.0 ∙ same_name_is f.name n g.0) w.1 w.2
    ]

exit-by : (s : Source) (n : Name) (p : Point) (st : State) (m : ErrorAt) (fs : List OpenSpan) (forest : Forest) (path : List Ancestor)
    → AreOpen s fs forest path → st.top ≡ kept_at_site s (site_of forest path) → exit_from s n p fs st ≡ Err m → IsWrong s forest path (record { kind = Exit; name = n; point = p }) m.error_kind
exit-by s n p st m [] forest [] open_spans top h = unmatched refl refl (ap (λ (k : ErrorAt). k.error_kind) (sym (err_is {A = State} (record { error_kind = Unbalanced; point = p }) m h)))
exit-by s n p st m (f ∷ fs) forest (e ∷ outer) open_spans top h = exit-open s n p st m f fs forest e outer open_spans top h
exit-by s n p st m [] forest (e ∷ outer) open_spans top h = absurd open_spans
exit-by s n p st m (f ∷ fs) forest [] open_spans top h = absurd open_spans

step-reason : (kind : Kind) (s : Source) (n : Name) (p : Point) (st : State) (m : ErrorAt) (forest : Forest) (path : List Ancestor) → Stands s forest path st → step_by kind s n p st ≡ Err m
    → IsWrong s forest path (record { kind = kind; name = n; point = p }) m.error_kind
unfolding exit_step
step-reason Enter s n p st m forest path k h = enter-reason s n p st m forest path k h
step-reason Exit s n p st m forest path k h = exit-by s n p st m st.frames forest path k.frames k.top h

-- ---- The end of the list

last-wrong : (a b : Bool) (p : Point) (t : Tree) (m : ErrorAt) → checked ((a, Unbalanced) ∷ (not b, UnfinishedBreak) ∷ []) p (done t) ≡ Err m
    → ((a ≡ false) × (m.error_kind ≡ Unbalanced)) ⊎ ((a ≡ true) × (b ≡ true) × (m.error_kind ≡ UnfinishedBreak))
last-wrong false b p t m h = inl (refl, ap (λ (k : ErrorAt). k.error_kind) (sym (err_is {A = Tree} (record { error_kind = Unbalanced; point = p }) m h)))
last-wrong true true p t m h = inr (refl, refl, ap (λ (k : ErrorAt). k.error_kind) (sym (err_is {A = Tree} (record { error_kind = UnfinishedBreak; point = p }) m h)))
last-wrong true false p t m h = absurd cc

ends-by : (s : Source) (fs : List OpenSpan) (forest : Forest) (path : List Ancestor) (top : ContainerState) (why : ErrorKind) → AreOpen s fs forest path → top ≡ kept_at_site s (site_of forest path)
    → ((no_open_span fs ≡ false) × (why ≡ Unbalanced)) ⊎ ((no_open_span fs ≡ true) × (top.after_break ≡ true) × (why ≡ UnfinishedBreak))
    → ((path ≢ []) × (why ≡ Unbalanced)) ⊎ ((path ≡ []) × (ends_with_break (items forest) ≡ true) × (why ≡ UnfinishedBreak))
ends-by s [] forest [] top why open_spans is (inl w) = absurd cc
ends-by s [] forest [] top why open_spans is (inr w) = inr (refl, ap (λ (x : ContainerState). x.after_break) (sym is) ∙ w.1, w.2)
ends-by s (f ∷ fs) forest (e ∷ path) top why open_spans is (inl w) = inl (λ h. absurd cc, w.1)
ends-by s (f ∷ fs) forest (e ∷ path) top why open_spans is (inr w) = absurd cc
ends-by s [] forest (e ∷ path) top why open_spans is w = absurd open_spans
ends-by s (f ∷ fs) forest [] top why open_spans is w = absurd open_spans

-- ---- The whole

explained-by : (r : Result State ErrorAt) (s : Source) (es : List Event) (m : ErrorAt) → run s es opening ≡ r
    → (r >>= λ st. checked (last_checks st) (point_of (last_event es)) (done (tree_of es st))) ≡ Err m → StopsAtFirstError s es m ⊎ EndsOpen s es m
explained-by (Ok st) s es m one h =
    let k = known s es st one in
    let l = stops-last s es st m one h in
    inr (record {
      forest = k.forest;
      path = k.path;
      parts = sym k.so_far_is;
      fine = taken-so-far s es st one;
      prefix = l.prefix;
      event = l.event;
      last = l.parts;
      named = l.named;
      wrong = ends-by s st.frames k.forest k.path st.top m.error_kind k.at_path.frames k.at_path.top (last-wrong (no_open_span st.frames) st.top.after_break (point_of (last_event es)) (tree_of es st) m h);
    })
explained-by (Err j) s es m one h =
    let stop = stopped s es opening m (one ∙ ap (λ (x : ErrorAt). Err x) (err_is {A = Tree} j m h)) in
    let k = known s stop.prefix stop.reached stop.ran_front in
    inl (record {
      forest = k.forest;
      path = k.path;
      event = stop.event;
      back = stop.back;
      parts = stop.parts ∙ ap (λ (x : List Event). x ++ (stop.event ∷ stop.back)) (sym k.so_far_is);
      named = step_point stop.event.kind s stop.event.name stop.event.point stop.reached m stop.failed;
      wrong = step-reason stop.event.kind s stop.event.name stop.event.point stop.reached m k.forest k.path k.at_path stop.failed;
      fine_before = subst (NothingIsWrong s) (sym k.so_far_is) (taken-so-far s stop.prefix stop.reached stop.ran_front);
      none_accepted = λ other others e a. none-begins s es m stop other others (e ∙ ap (λ (x : List Event). x ++ (stop.event ∷ others)) k.so_far_is) a;
    })

-- a list is refused for the first event at which something is wrong, or for what is left open at the last
pub explained : (s : Source) (es : List Event) (m : ErrorAt) → compiled s es ≡ Err m → StopsAtFirstError s es m ⊎ EndsOpen s es m
explained s es m h = explained-by (run s es opening) s es m refl h
