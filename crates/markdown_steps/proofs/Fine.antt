-- With an event that a step takes nothing is wrong, in the words of the grammar.
use Rattle.std.proofs.Common.{◌≡◌, inl, inr, Bool, true, false, not, ◌&&◌, List, [], ◌∷◌, ◌++◌, Some, Ok, Err, refl, sym, ap, subst, ◌∙◌}
use Rattle.std.specs.List.{list_all}
use Rattle.markdown_events.specs.Around.{is_sealed, may_begin}
use Rattle.markdown_events.specs.Forest.{Forest, is_delimiter_cell_value, is_delimiter_row}
use Rattle.markdown_events.specs.Names.{is_same_name, role_of}
use Rattle.markdown_steps.specs.ChildFacts.{ChildFacts}
use Rattle.markdown_events.specs.declared.around.Around.{Around}
use Rattle.markdown_events.specs.declared.event.Event.{Event}
use Rattle.markdown_events.specs.declared.event.Kind.{Kind}
use Rattle.markdown_events.specs.declared.event.Kind.TheVariants.{Enter, Exit}
use Rattle.markdown_events.specs.declared.event.Name.{Name}
use Rattle.markdown_events.specs.declared.event.Point.{Point}
use Rattle.markdown_events.specs.declared.role.ItemKind.{ItemKind}
use Rattle.markdown_events.specs.declared.role.Role.{Role}
use Rattle.markdown_events.specs.declared.role.Role.TheVariants.{Significant as significant}
use Rattle.markdown_steps.proofs.Allowed.{complete-is, lets-is}
use Rattle.markdown_events.proofs.Booleans.{and-both, and-left, and-right, not-both}
use Rattle.markdown_steps.proofs.SummaryLaws.{inner_at}
use Rattle.markdown_steps.proofs.Known.{AreOpen, Stands, kept_at_site, outer_by, stands}
use Rattle.markdown_steps.proofs.Outcomes.{bind_ok, checked_passes, done, one_ok}
use Rattle.markdown_steps.proofs.Refused.{run-append}
use Rattle.markdown_steps.proofs.RuleLists.{keeps-snoc}
use Rattle.markdown_grammar.specs.Accepted.{Occurrence, ends_a_break, has_its_byte, has_its_parts, has_its_value, contains_no_open_break, is_no_inner_table}
use Rattle.markdown_steps.specs.Columns.{child_facts}
use Rattle.markdown_steps.specs.Compiler.{ContainerState, OpenSpan, State, all_stood, allows, with_child, enter_as, enter_checks, enter_step, entered, exit_checks, exit_from, exit_step, leave, leave_to, push, opening, rule_checks, run, pop, step, step_by}
use Rattle.markdown_grammar.specs.Grammar.{rules, conforms}
use Rattle.markdown_grammar.specs.Grammar.{ContentModel, model_of}
use Rattle.markdown_grammar.specs.Items.{Items, items, kinds}
use Rattle.markdown_grammar.specs.Attributes.{Place, inherited_in}
use Rattle.markdown_grammar.specs.Reasons.{FailsFirst, IsWrong, IsWrongAtEnter, IsWrongAtExit, NothingIsWrong, beginning, closes, enter_tests, enters, exit_tests, exits, held, rule_tests, unmatched}
use Rattle.markdown_grammar.specs.Refusals.{missing_error, rule_error, value_error}
use Rattle.markdown_steps.specs.Checks.{passes, ◌>>=◌}
use Rattle.markdown_grammar.specs.Grammar.{Rule, keeps}
use Rattle.markdown_grammar.specs.Document.{Source}
use Rattle.markdown_grammar.specs.Sites.{Ancestor, Site, around_of, occurrence, site_in, site_of, events_so_far}
use Rattle.markdown_grammar.specs.declared.error_kind.ErrorKind.{ErrorKind}
use Rattle.markdown_grammar.specs.declared.error_kind.ErrorKind.TheVariants.{Held, InvalidSlice, Misplaced, Unbalanced, UnfinishedBreak}

-- ---- Enters

-- one more item keeps a rule where what is kept allows it
pub keeps-now : (s : Source) (p : Place) (xs : Items) (r : Rule) (what : ItemKind) → keeps r (kinds xs) ≡ true → keeps r (kinds xs ++ what ∷ []) ≡ allows r (inner_at s p xs) what
keeps-now s p xs r what h = keeps-snoc r (kinds xs) what ∙ (λ t. h t && lets-is r s p xs what t)

-- where all tests pass, none fails
passes-not : (tests : List (Bool × ErrorKind)) (why : ErrorKind) → passes tests ≡ true → FailsFirst tests why → ⊥
passes-not [] why pass fails = fails
passes-not (test ∷ tests) why pass (inl fails) = not-both (and-left test.0 (passes tests) pass) fails.0
passes-not (test ∷ tests) why pass (inr fails) = passes-not tests why (and-right test.0 (passes tests) pass) fails.1

rules-are : (s : Source) (h : ContentModel) (p : Place) (xs : Items) (rs : List Rule) (what : ItemKind) (cs : List (Bool × ErrorKind)) → list_all (λ r. keeps r (kinds xs)) rs ≡ true
    → rule_checks h rs (inner_at s p xs) what cs ≡ rule_tests h rs (kinds xs ++ what ∷ []) ++ cs
rules-are s h p xs [] what cs taken = refl
rules-are s h p xs (r ∷ rs) what cs taken =
    let others : Bool = list_all (λ r'. keeps r' (kinds xs)) rs in
    let kept = keeps-now s p xs r what (and-left (keeps r (kinds xs)) others taken) in
    let later = rules-are s h p xs rs what cs (and-right (keeps r (kinds xs)) others taken) in
    (λ i. (sym kept i, rule_error h r) ∷ later i)

-- the tests of a step at an enter are those of the grammar
pub enter-tests-are : (s : Source) (site : Site) (what : ItemKind) (p : Point) → conforms site.initial_model (kinds site.before) ≡ true → enter_checks s (kept_at_site s site) what p ≡ enter_tests s site what p
enter-tests-are s site what p taken =
    let x : Occurrence = beginning site what p in
    ap (λ (tests : List (Bool × ErrorKind)). (ends_a_break x, UnfinishedBreak) ∷ tests)
    (rules-are s site.initial_model site.place site.before (rules site.initial_model) what ((is_no_inner_table x, Misplaced) ∷ (has_its_byte s x, InvalidSlice) ∷ []) taken)

enter-as-fine : (s : Source) (role : Role) (n : Name) (p : Point) (st z : State) (site : Site) (what : ItemKind) (why : ErrorKind) → st.top ≡ kept_at_site s site → conforms site.initial_model (kinds site.before) ≡ true
    → enter_as s role n p st ≡ Ok z → role ≡ significant what → IsWrongAtEnter s site what p why → ⊥
enter-as-fine s role n p st z site what why top taken h is wrong =
    let is_significant : enter_as s (significant what) n p st ≡ Ok z = ap (λ (r : Role). enter_as s r n p st) (sym is) ∙ h in
    let pass : passes (enter_checks s st.top what p) ≡ true = checked_passes (enter_checks s st.top what p) p (done (push n p st (Some (what, st.top)) (entered st.top what))) z is_significant in
    passes-not (enter_tests s site what p) why (ap passes (sym (enter-tests-are s site what p taken)) ∙ ap (λ (t : ContainerState). passes (enter_checks s t what p)) (sym top) ∙ pass) wrong

-- ---- Exits

-- the tests of a step at an exit are those of the grammar
pub exit-tests-are : (s : Source) (site : Site) (what : ItemKind) (a p : Point) (inside : Items)
    → exit_checks s (kept_at_site s site) what a p (kept_at_site s (site_in (significant what) inside site)) ≡ exit_tests s (occurrence site what a p inside)
exit-tests-are s site what a p inside =
    let x : Occurrence = occurrence site what a p inside in
    ap (λ (stood : Bool). (contains_no_open_break x, UnfinishedBreak) ∷ (stood, missing_error (model_of x.model what)) ∷ (has_its_value s x, value_error s what a p) ∷ [])
    (complete-is (model_of x.model what) s (inherited_in what x.place) inside)

leave-fine : (s : Source) (role : Role) (site : Site) (a p : Point) (c : ChildFacts) (own z : ContainerState) (inside : Items) (what : ItemKind) (why : ErrorKind) → own ≡ kept_at_site s (site_in role inside site)
    → leave_to s a p c own (outer_by s role site) ≡ Ok z → role ≡ significant what → IsWrongAtExit s (occurrence site what a p inside) why → ⊥
unfolding leave
leave-fine s role site a p c own z inside what why top h is wrong =
    let outer : ContainerState = kept_at_site s site in
    let kept : own ≡ kept_at_site s (site_in (significant what) inside site) = top ∙ ap (λ (r : Role). kept_at_site s (site_in r inside site)) is in
    let left : leave_to s a p c own (outer_by s (significant what) site) ≡ Ok z = ap (λ (r : Role). leave_to s a p c own (outer_by s r site)) (sym is) ∙ h in
    let pass : passes (exit_checks s outer what a p own) ≡ true = checked_passes (exit_checks s outer what a p own) p (done (with_child s outer what a p c own.inner)) z left in
    passes-not (exit_tests s (occurrence site what a p inside)) why (ap passes (sym (exit-tests-are s site what a p inside)) ∙ ap (λ (t : ContainerState). passes (exit_checks s outer what a p t)) (sym kept) ∙ pass) wrong

-- an exit that is taken ends the innermost open span
exit-closes : (s : Source) (n : Name) (p : Point) (st z : State) (fs : List OpenSpan) (forest : Forest) (path : List Ancestor) → AreOpen s fs forest path → exit_from s n p fs st ≡ Ok z → closes path n ≡ false → ⊥
exit-closes s n p st z [] forest [] open_spans h c = absurd (let wrong : Err (record { error_kind = Unbalanced; point = p }) ≡ done z = h in cc)
exit-closes s n p st z (f ∷ fs) forest (e ∷ path) open_spans h c =
    let out = leave_to s f.start p (child_facts st.marks st.columns) st.top f.outer >>= λ t. done (pop f fs st t) in
    not-both (ap (λ (m : Name). is_same_name m n) (sym open_spans.0) ∙ (one_ok (is_same_name f.name n) out z (record { error_kind = Unbalanced; point = p }) h).0) c
exit-closes s n p st z [] forest (e ∷ path) open_spans h c = absurd open_spans
exit-closes s n p st z (f ∷ fs) forest [] open_spans h c = absurd open_spans

exit-open-fine : (s : Source) (n : Name) (p : Point) (st z : State) (fs : List OpenSpan) (forest : Forest) (e : Ancestor) (outer : List Ancestor) (what : ItemKind) (why : ErrorKind) → AreOpen s fs forest (e ∷ outer)
    → st.top ≡ kept_at_site s (site_of forest (e ∷ outer)) → exit_from s n p fs st ≡ Ok z → role_of e.name ≡ significant what → IsWrongAtExit s (occurrence (site_of forest outer) what e.start p (items e.inside)) why → ⊥
exit-open-fine s n p st z [] forest e outer what why open_spans top h is wrong = absurd open_spans
exit-open-fine s n p st z (f ∷ fs) forest e outer what why open_spans top h is wrong =
    let c : ChildFacts = child_facts st.marks st.columns in
    let left = leave_to s f.start p c st.top f.outer in
    let b = bind_ok left (λ t. done (pop f fs st t)) z (one_ok (is_same_name f.name n) (left >>= λ t. done (pop f fs st t)) z (record { error_kind = Unbalanced; point = p }) h).1 in
    let took : leave_to s e.start p c st.top (outer_by s (role_of e.name) (site_of forest outer)) ≡ Ok b.0 = (λ t. leave_to s (sym open_spans.1 t) p c st.top (sym open_spans.2 t)) ∙ b.1 in
    leave-fine s (role_of e.name) (site_of forest outer) e.start p c st.top b.0 (items e.inside) what why top took is wrong

-- ---- Events

event-fine : (s : Source) (forest : Forest) (path : List Ancestor) (event : Event) (st z : State) (why : ErrorKind) → Stands s forest path st → step s event st ≡ Ok z → IsWrong s forest path event why → ⊥
unfolding enter_step exit_step
event-fine s forest path event st z why k h (held kind is w) =
    let role : Role = role_of event.name in
    let entering : step_by Enter s event.name event.point st ≡ Ok z = ap (λ (x : Kind). step_by x s event.name event.point st) (sym kind) ∙ h in
    let begins = one_ok (may_begin st.around role) (enter_as s role event.name event.point st) z (record { error_kind = Held; point = event.point }) entering in
    not-both begins.0 (ap (λ (a : Around). may_begin a role) k.around ∙ is)
event-fine s forest path event st z why k h (enters what kind begun is taken wrong) =
    let role : Role = role_of event.name in
    let entering : step_by Enter s event.name event.point st ≡ Ok z = ap (λ (x : Kind). step_by x s event.name event.point st) (sym kind) ∙ h in
    let begins = one_ok (may_begin st.around role) (enter_as s role event.name event.point st) z (record { error_kind = Held; point = event.point }) entering in
    enter-as-fine s role event.name event.point st z (site_of forest path) what why k.top k.taken begins.1 is wrong
event-fine s forest path event st z why k h (unmatched kind other w) =
    let leaving : step_by Exit s event.name event.point st ≡ Ok z = ap (λ (x : Kind). step_by x s event.name event.point st) (sym kind) ∙ h in
    exit-closes s event.name event.point st z st.frames forest path k.frames leaving other
event-fine s forest path event st z why k h (exits e outer what kind inside_of name is wrong) =
    let leaving : step_by Exit s event.name event.point st ≡ Ok z = ap (λ (x : Kind). step_by x s event.name event.point st) (sym kind) ∙ h in
    let inner : Stands s forest (e ∷ outer) st = subst (λ (q : List Ancestor). Stands s forest q st) inside_of k in
    exit-open-fine s event.name event.point st z st.frames forest e outer what why inner.frames inner.top leaving is wrong

-- with events that a run takes from the first on nothing is wrong
pub taken-so-far : (s : Source) (es : List Event) (st : State) → run s es opening ≡ Ok st → NothingIsWrong s es
unfolding run
taken-so-far s es st h = λ forest path event back why parts wrong.
    let b = bind_ok (run s (events_so_far forest path) opening) (run s (event ∷ back)) st (sym (run-append s (events_so_far forest path) (event ∷ back) opening) ∙ ap (λ (x : List Event). run s x opening) (sym parts) ∙ h) in
    let c = bind_ok (step s event b.0) (run s back) st b.2 in
    event-fine s forest path event b.0 c.0 why (stands s forest path b.0 b.1) c.1 wrong
