-- What a run knows of each open span: the events since its enter are those of a forest, and its container's summary is that of the forest's items.
use Rattle.std.proofs.Common.{◌≡◌, ◌⊎◌, inl, inr, Bool, true, false, ◌&&◌, cond, List, [], ◌∷◌, ◌++◌, Option, Some, Result, Ok, Err, refl, sym, ap, subst, ◌∙◌, append_assoc}
use Rattle.std.proofs.lemmas.List.{append-nil}
use Rattle.markdown_events.specs.Forest.{Forest, empty, enter, exit, span, events_of}
use Rattle.markdown_events.specs.Names.{role_of}
use Rattle.markdown_events.specs.declared.event.Event.{Event}
use Rattle.markdown_events.specs.declared.event.Kind.{Kind}
use Rattle.markdown_events.specs.declared.event.Name.{Name}
use Rattle.markdown_events.specs.declared.event.Point.{Point}
use Rattle.markdown_steps.proofs.ColumnKinds.{columns_past}
use Rattle.markdown_steps.proofs.EventRuns.{at, enter_is, left_is, opened_by, over, the_open, top_by}
use Rattle.markdown_steps.proofs.ForestSteps.{Reached, eval, eval-walk, giving, reached}
use Rattle.markdown_steps.proofs.SummaryLaws.{container_state}
use Rattle.markdown_steps.proofs.ItemLists.{beside, events_of-beside}
use Rattle.markdown_steps.proofs.ItemSteps.{fits-is, tested, walk, walk-is}
use Rattle.markdown_steps.proofs.Refused.{run-append}
use Rattle.markdown_steps.proofs.Outcomes.{bind_ok, done, err_is, ok, ok_is, some_is, when}
use Rattle.markdown_steps.proofs.WellFormed.{is_well_formed_in}
use Rattle.markdown_steps.proofs.SiblingMarks.{marks}
use Rattle.markdown_events.specs.Around.{under}
use Rattle.markdown_steps.specs.Columns.{Columns}
use Rattle.markdown_steps.specs.Compiler.{ContainerState, OpenSpan, State, enter_step, push, opening, run, step, step_by}
use Rattle.markdown_grammar.specs.Grammar.{ContentModel}
use Rattle.markdown_grammar.specs.Accepted.{ends_with_break}
use Rattle.markdown_steps.specs.OneTest.{fits}
use Rattle.markdown_grammar.specs.Grammar.{conforms}
use Rattle.markdown_grammar.specs.Items.{Items, items, kinds, ◌then◌}
use Rattle.markdown_grammar.specs.Sites.{model_after_all, inherited_after_all}
use Rattle.markdown_events.proofs.Booleans.{and-both, and-left}
use Rattle.markdown_grammar.specs.Attributes.{Place}
use Rattle.markdown_grammar.specs.Refusals.{ErrorAt}
use Rattle.markdown_steps.specs.Checks.{checked, passes, refused, ◌>>=◌}
use Rattle.markdown_steps.specs.Siblings.{no_marks}
use Rattle.markdown_grammar.specs.Document.{Source}
use Rattle.markdown_events.specs.declared.around.Around.{Around}
use Rattle.markdown_grammar.specs.Reasons.{FailsFirst}
use Rattle.markdown_grammar.specs.declared.error_kind.ErrorKind.{ErrorKind}
use Rattle.markdown_events.specs.declared.event.Kind.TheVariants.{Enter, Exit}

-- the events that led to these open spans
unfoldable pub Trail : List OpenSpan → List Event → Type 0
Trail [] es = (f : Forest) × (es ≡ events_of f)
Trail (o ∷ os) es = (before : List Event) × (f : Forest) × (es ≡ before ++ (enter o.name o.start ∷ events_of f)) × Trail os before

trail-exit : (o : OpenSpan) (os : List OpenSpan) (es : List Event) (p : Point) → Trail (o ∷ os) es → Trail os (es ++ (exit o.name p ∷ []))
unfolding Trail
trail-exit o [] es p t =
    let one : Forest = span o.name o.start p t.1 empty in
    let g = t.3 in (
      beside g.0 one,
      ap (λ (x : List Event). x ++ (exit o.name p ∷ [])) t.2 ∙ append_assoc t.0 (enter o.name o.start ∷ events_of t.1) (exit o.name p ∷ []) ∙ ap (λ (x : List Event). x ++ events_of one) g.1 ∙ sym (events_of-beside g.0 one),
    )
trail-exit o (q ∷ qs) es p t =
    let one : Forest = span o.name o.start p t.1 empty in
    let g = t.3 in (
      g.0,
      beside g.1 one,
      ap (λ (x : List Event). x ++ (exit o.name p ∷ [])) t.2 ∙ append_assoc t.0 (enter o.name o.start ∷ events_of t.1) (exit o.name p ∷ []) ∙ ap (λ (x : List Event). x ++ events_of one) g.2
          ∙ append_assoc g.0 (enter q.name q.start ∷ events_of g.1) (events_of one) ∙ ap (λ (x : List Event). g.0 ++ (enter q.name q.start ∷ x)) (sym (events_of-beside g.1 one)),
      g.3,
    )

trail-step : (k : Kind) (s : Source) (n : Name) (p : Point) (a z : State) (before : List Event) → step_by k s n p a ≡ Ok z → Trail a.frames before → Trail z.frames (before ++ (record { kind = k; name = n; point = p } ∷ []))
unfolding Trail
trail-step Enter s n p a z before h t = subst (λ (x : State). Trail x.frames (before ++ (enter n p ∷ []))) (enter_is s n p a z h) (before, empty, refl, t)
trail-step Exit s n p a z before h t =
    let l = left_is s n p a z h in
    subst (λ (x : State). Trail x.frames (before ++ (exit n p ∷ []))) l.is
    (subst (λ (m : Name). Trail l.rest (before ++ (exit m p ∷ []))) l.name (trail-exit l.first l.rest before p (subst (λ (fs : List OpenSpan). Trail fs before) l.frames t)))

pub trail-run : (s : Source) (es : List Event) (a z : State) (before : List Event) → run s es a ≡ Ok z → Trail a.frames before → Trail z.frames (before ++ es)
unfolding run
trail-run s [] a z before h t = subst (λ (x : State). Trail x.frames (before ++ [])) (ok_is a z h) (subst (λ (x : List Event). Trail a.frames x) (sym (append-nil before)) t)
trail-run s (e ∷ es) a z before h t =
    let b = bind_ok (step s e a) (run s es) z h in
    subst (λ (x : List Event). Trail z.frames x) (append_assoc before (e ∷ []) es) (trail-run s es b.0 z (before ++ (e ∷ [])) b.2 (trail-step e.kind s e.name e.point a b.0 before b.1 t))

-- ---- The state inside a span

run-enter : (s : Source) (n : Name) (p : Point) (es : List Event) (a : State) → run s (enter n p ∷ es) a ≡ (enter_step s n p a >>= run s es)
unfolding run
run-enter s n p es a = refl

run-done : (s : Source) (st : State) → run s [] st ≡ Ok st
unfolding run
run-done s st = refl

given-is : (a b : Bool) (columns : Columns) (h : ContainerState) (y : Reached) → when a (giving columns (when b (Some h))) ≡ Some y → (y.top ≡ h) × (b ≡ true) × (a ≡ true)
given-is true true columns h y e = (ap (λ (x : Reached). x.top) (sym (some_is (reached h columns) y e)), refl, refl)
given-is true false columns h y e = absurd cc
given-is false b columns h y e = absurd cc

-- over a forest the innermost container comes to keep what the items say, its content model takes them, and the forest is well-formed
pub eval-reaches : (s : Source) (around : Around) (f : Forest) (x y : Reached) (h : ContentModel) (p : Place) (xs : Items) → x.top ≡ container_state s h p xs → conforms h (kinds xs) ≡ true → eval s around f x ≡ Ok y
    → (y.top ≡ container_state s h p (xs then items f)) × (conforms h (kinds (xs then items f)) ≡ true) × (is_well_formed_in around f ≡ true)
eval-reaches s around f x y h p xs begins taken e =
    let columns : Columns = columns_past x.top.place.in_table x.columns f in
    let fine : Bool = fits s (model_after_all xs h) (inherited_after_all xs p) (ends_with_break xs) (items f) in
    let g = given-is (is_well_formed_in around f) (tested s h p xs (items f)) columns (container_state s h p (xs then items f)) y
    (sym (ap (λ (o : Option ContainerState). when (is_well_formed_in around f) (giving columns o)) (ap (λ (t : ContainerState). walk s t (items f)) begins ∙ walk-is s h p xs (items f))) ∙ sym (eval-walk s around f x) ∙ ap ok e) in
    (g.0, and-left (conforms h (kinds (xs then items f))) fine (sym (fits-is s h p xs (items f)) ∙ and-both (conforms h (kinds xs)) (tested s h p xs (items f)) taken g.1), g.2)

-- the state inside a span whose enter and whose children the run went over
pub record InSpan (s : Source) (before : List Event) (name : Name) (start : Point) (children : Forest) (st : State) : Type 0 where
  pub outer : State
  pub ran_before : run s before opening ≡ Ok outer
  pub frames : st.frames ≡ the_open name start outer.around outer.marks (opened_by (role_of name) outer) ∷ outer.frames
  pub around : st.around ≡ under outer.around (role_of name)
  pub top : (h : ContentModel) (p : Place) (xs : Items) → top_by (role_of name) outer ≡ container_state s h p xs → conforms h (kinds xs) ≡ true
      → (st.top ≡ container_state s h p (xs then items children)) × (conforms h (kinds (xs then items children)) ≡ true) × (is_well_formed_in (under outer.around (role_of name)) children ≡ true)

pub in-span : (s : Source) (before : List Event) (n : Name) (a : Point) (f : Forest) (st : State) → run s (before ++ (enter n a ∷ events_of f)) opening ≡ Ok st → InSpan s before n a f st
in-span s before n a f st h =
    let b = bind_ok (run s before opening) (run s (enter n a ∷ events_of f)) st (sym (run-append s before (enter n a ∷ events_of f) opening) ∙ h) in
    let out : State = b.0 in
    let c = bind_ok (enter_step s n a out) (run s (events_of f)) st (sym (run-enter s n a (events_of f) out) ∙ b.2) in
    let inner : State = push n a out (opened_by (role_of n) out) (top_by (role_of n) out) in
    let x : Reached = reached inner.top inner.columns in
    let on : Reached → Result State ErrorAt = λ y. run s [] (at inner.frames inner.around (marks f) y) in
    let went : run s (events_of f) inner ≡ Ok st = ap (run s (events_of f)) (enter_is s n a out c.0 c.1) ∙ c.2 in
    let whole : (eval s inner.around f x >>= on) ≡ Ok st = sym (over s f [] inner.frames inner.around no_marks x) ∙ ap (λ (es : List Event). run s es inner) (append-nil (events_of f)) ∙ went in
    let e = bind_ok (eval s inner.around f x) on st whole in
    let st_is : at inner.frames inner.around (marks f) e.0 ≡ st = ok_is (at inner.frames inner.around (marks f) e.0) st (sym (run-done s (at inner.frames inner.around (marks f) e.0)) ∙ e.2) in
    record {
      outer = out;
      ran_before = b.1;
      frames = ap (λ (y : State). y.frames) (sym st_is);
      around = ap (λ (y : State). y.around) (sym st_is);
      top = λ h' p' xs begins taken.
          let r = eval-reaches s inner.around f x e.0 h' p' xs begins taken e.1 in
          (ap (λ (y : State). y.top) (sym st_is) ∙ r.0, r.1, r.2);
    }

-- ---- Which test fails

one_why : {A : Type 0} (b q : Bool) (x : Result A ErrorAt) (why : ErrorKind) (p : Point) (m : ErrorAt) (R G : Type 0) → (x ≡ Err m → ((q ≡ true) × R) ⊎ G) → cond b x (refused why p) ≡ Err m
    → (((b && q) ≡ true) × R) ⊎ (((b ≡ false) × (m.error_kind ≡ why)) ⊎ ((b ≡ true) × G))
one_why true q x why p m R G f h = elim (f h) [ inl y ↦ inl y | inr y ↦ inr (inr (refl, y)) ]
one_why {A} false q x why p m R G f h = inr (inl (refl, ap (λ (k : ErrorAt). k.error_kind) (sym (err_is {A = A} (record { error_kind = why; point = p }) m h))))

pub checked_why : {A : Type 0} (cs : List (Bool × ErrorKind)) (p : Point) (r : Result A ErrorAt) (m : ErrorAt) → checked cs p r ≡ Err m → ((passes cs ≡ true) × (r ≡ Err m)) ⊎ FailsFirst cs m.error_kind
checked_why [] p r m h = inl (refl, h)
checked_why (c ∷ cs) p r m h = one_why c.0 (passes cs) (checked cs p r) c.1 p m (r ≡ Err m) (FailsFirst cs m.error_kind) (checked_why cs p r m) h

pub no_err : {A : Type 0} (x : A) (m : ErrorAt) → done x ≡ Err m → ⊥
no_err x m e = cc
