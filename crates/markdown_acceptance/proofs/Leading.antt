-- What the tests of the open spans let through leads the steps on.
use Rattle.std.proofs.Common.{◌≡◌, true, false, List, [], ◌∷◌, ◌++◌, Option, None, Some, Result, Ok, refl, sym, ap, subst, ◌∙◌, Bool}
use Rattle.markdown_events.specs.Around.{under}
use Rattle.markdown_events.specs.Forest.{enter, exit}
use Rattle.markdown_events.specs.Names.{is_same_name, role_of}
use Rattle.markdown_events.specs.declared.around.Around.{Around}
use Rattle.markdown_events.specs.declared.event.Event.{Event}
use Rattle.markdown_events.specs.declared.event.Name.{Name}
use Rattle.markdown_events.specs.declared.event.Point.{Point}
use Rattle.markdown_events.specs.declared.role.ItemKind.{ItemKind}
use Rattle.markdown_events.specs.declared.role.Role.{Role}
use Rattle.markdown_events.specs.declared.role.Role.TheVariants.{Significant as significant, Transparent as transparent}
use Rattle.markdown_grammar.specs.Document.{Source}
use Rattle.markdown_grammar.specs.Refusals.{ErrorAt}
use Rattle.markdown_steps.proofs.Outcomes.{ok, ok-inv, same_name_refl, when}
use Rattle.markdown_steps.proofs.Refused.{run-append}
use Rattle.markdown_steps.specs.Checks.{◌>>=◌}
use Rattle.markdown_steps.specs.ChildFacts.{ChildFacts}
use Rattle.markdown_steps.specs.Columns.{child_facts}
use Rattle.markdown_steps.specs.Compiler.{ContainerState, OpenSpan, State, opening, pop, run}
use Rattle.markdown_acceptance.proofs.Showing.{shows-after, shows-entered}
use Rattle.markdown_acceptance.proofs.Stepping.{enter-steps, exit-steps, leave-steps, left, opened, run-one, token-steps, written}
use Rattle.markdown_acceptance.specs.Calls.{AfterToken, Closed, IsAfterToken, IsInside, IsOutside, Opened, exit_of, may_close, may_close_as, may_open, may_write, outer_of}
use Rattle.markdown_acceptance.specs.Shown.{Leads, Shows, ShowsAll, ShowsOuter, ShowsSpan, ShowsState, Tracks}
use Rattle.markdown_acceptance.specs.Sites.{IsAfter}
use Rattle.markdown_acceptance.specs.Stacks.{Stack}
use Rattle.markdown_acceptance.specs.declared.open_spans.Frame.{Frame}
use Rattle.markdown_acceptance.specs.declared.open_spans.Outer.{Outer}
use Rattle.markdown_acceptance.specs.declared.site.Site.{Site}

-- ---- Runs

pub tracks-none : (s : Source) (spans : Stack) → ShowsState spans opening → Tracks s [] spans
unfolding run
tracks-none s spans h = record { state = opening; runs = refl; shows = h }

pub tracks-on : (s : Source) (es more : List Event) (old new : Stack) → Tracks s es old → Leads s more old new → Tracks s (es ++ more) new
tracks-on s es more old new t leads =
    let next = leads t.state t.shows in
    record {
      state = next.0;
      runs = run-append s es more opening ∙ ap (λ (r : Result State ErrorAt). r >>= run s more) t.runs ∙ next.1;
      shows = next.2;
    }

-- a run whose test is true
taken : (s : Source) (es : List Event) (st z : State) (test : Bool) → ok (run s es st) ≡ when test (Some z) → test ≡ true → run s es st ≡ Ok z
taken s es st z test steps is = ok-inv (run s es st) z (steps ∙ ap (λ q. when q (Some z)) is)

-- ---- Enters

enter-shows : (role : Role) (n : Name) (p : Point) (old new : Stack) (st : State) → role_of n ≡ role → ShowsState old st
    → new.frames ≡ record { name = n; start = p; around = old.around; outer = outer_of role old.site } ∷ old.frames → new.around ≡ under old.around (role_of n) → IsInside role old.site new.site → ShowsState new (opened role n p st)
enter-shows (transparent k) n p old new st is h frames around site = record {
  frames = subst (λ (fs : List Frame). ShowsAll fs (opened (transparent k) n p st).frames) (sym frames) (record { name = refl; start = refl; around = h.around; outer = tt }, h.frames);
  around = ap (λ (a : Around). under a (role_of n)) h.around ∙ sym around;
  top = subst (λ (x : Site). Shows x st.top) (sym site) h.top;
}
enter-shows (significant what) n p old new st is h frames around site = record {
  frames = subst (λ (fs : List Frame). ShowsAll fs (opened (significant what) n p st).frames) (sym frames) (record { name = refl; start = refl; around = h.around; outer = (refl, h.top) }, h.frames);
  around = ap (λ (a : Around). under a (role_of n)) h.around ∙ sym around;
  top = shows-entered what old.site new.site st.top h.top site;
}

pub leads-enter : (s : Source) (n : Name) (p : Point) (old new : Stack) → may_open s.bytes old n p ≡ true → Opened n p old new → Leads s (enter n p ∷ []) old new
leads-enter s n p old new may o st h =
    let z : State = opened (role_of n) n p st in
    (z, taken s (enter n p ∷ []) st z (may_open s.bytes old n p) (ap ok (run-one s (enter n p) st) ∙ enter-steps s n p (role_of n) old st refl h) may, enter-shows (role_of n) n p old new st refl h o.frames o.around o.site)

-- ---- Tokens

token-shows : (s : Source) (role : Role) (n : Name) (a b : Point) (old new : Stack) (st : State) → ShowsState old st → new.frames ≡ old.frames → new.around ≡ old.around → IsAfterToken role old.site new.site → ShowsState new (written s role n a b st)
token-shows s (transparent k) n a b old new st h frames around site = record {
  frames = subst (λ (fs : List Frame). ShowsAll fs st.frames) (sym frames) h.frames;
  around = h.around ∙ sym around;
  top = subst (λ (x : Site). Shows x st.top) (sym site) h.top;
}
token-shows s (significant what) n a b old new st h frames around site =
    let mid : State = opened (significant what) n a st in
    record {
      frames = subst (λ (fs : List Frame). ShowsAll fs st.frames) (sym frames) h.frames;
      around = h.around ∙ sym around;
      top = shows-after s what a b (child_facts mid.marks mid.columns) old.site new.site st.top mid.top false false h.top refl refl site;
    }

pub leads-token : (s : Source) (n : Name) (a b : Point) (old new : Stack) → may_write s old n a b ≡ true → AfterToken n old new → Leads s (enter n a ∷ exit n b ∷ []) old new
leads-token s n a b old new may w st h =
    let z : State = written s (role_of n) n a b st in
    (z, taken s (enter n a ∷ exit n b ∷ []) st z (may_write s old n a b) (token-steps s n a b (role_of n) old st refl h) may, token-shows s (role_of n) n a b old new st h w.frames w.around w.site)

-- ---- Exits

-- the innermost span of a state, and those around it
pub record Innermost (f : Frame) (fs : List Frame) (st : State) : Type 0 where
  pub o : OpenSpan
  pub os : List OpenSpan
  pub is : st.frames ≡ o ∷ os
  pub first : ShowsSpan f o
  pub others : ShowsAll fs os

pub innermost : (f : Frame) (fs : List Frame) (st : State) (spans : List OpenSpan) → st.frames ≡ spans → ShowsAll (f ∷ fs) spans → Innermost f fs st
innermost f fs st [] is h = absurd h
innermost f fs st (o ∷ os) is h = record { o = o; os = os; is = is; first = h.0; others = h.1 }

left-shows : (s : Source) (x : Option Outer) (y : Option (ItemKind × ContainerState)) (own new : Site) (inner : ContainerState) (a b : Point) (facts : ChildFacts) → ShowsOuter x y → Shows own inner → IsOutside x own new → Shows new (left s a b facts inner y)
left-shows s None None own new inner a b facts h k is = subst (λ (x : Site). Shows x inner) (sym is) k
left-shows s None (Some y) own new inner a b facts h k is = absurd h
left-shows s (Some x) None own new inner a b facts h k is = absurd h
left-shows s (Some x) (Some y) own new inner a b facts h k is =
    shows-after s y.0 a b facts x.site new y.1 inner own.is_marked own.is_numbered h.1 k.mark k.value (subst (λ (w : ItemKind). IsAfter w own.is_marked own.is_numbered x.site new) (sym h.0) is)

-- the steps of an exit, by the frames of the open spans
pub close-steps : (s : Source) (n : Name) (p : Point) (f : Frame) (site : Site) (o : OpenSpan) (os : List OpenSpan) (st : State) → st.frames ≡ o ∷ os → ShowsSpan f o → Shows site st.top
    → ok (run s (exit n p ∷ []) st) ≡ when (is_same_name f.name n) (when (may_close_as s f.outer f.start site p) (Some (pop o os st (left s o.start p (child_facts st.marks st.columns) st.top o.outer))))
close-steps s n p f site o os st is first top =
    let facts : ChildFacts = child_facts st.marks st.columns in
    let inside : ContainerState = left s o.start p facts st.top o.outer in
    ap ok (run-one s (exit n p) st)
    ∙ exit-steps s n p o os st (may_close_as s f.outer o.start site p) inside is (leave-steps s f.outer o.outer site st.top o.start p facts first.outer top)
    ∙ (λ t. when (is_same_name (first.name t) n) (when (may_close_as s f.outer (first.start t) site p) (Some (pop o os st inside))))

exit-leads : (s : Source) (f : Frame) (p : Point) (old new : Stack) → old.frames ≡ f ∷ new.frames → new.around ≡ f.around → may_close_as s f.outer f.start old.site p ≡ true → IsOutside f.outer old.site new.site → Leads s (exit f.name p ∷ []) old new
exit-leads s f p old new frames around may site st h =
    let i : Innermost f new.frames st = innermost f new.frames st st.frames refl (subst (λ (fs : List Frame). ShowsAll fs st.frames) frames h.frames) in
    let facts : ChildFacts = child_facts st.marks st.columns in
    let z : State = pop i.o i.os st (left s i.o.start p facts st.top i.o.outer) in
    let steps = close-steps s f.name p f old.site i.o i.os st i.is i.first h.top ∙ ap (λ q. when q (when (may_close_as s f.outer f.start old.site p) (Some z))) (same_name_refl f.name) in (
      z,
      taken s (exit f.name p ∷ []) st z (may_close_as s f.outer f.start old.site p) steps may,
      record { frames = i.others; around = (i.first).around ∙ sym around; top = left-shows s f.outer i.o.outer old.site new.site st.top i.o.start p facts (i.first).outer h.top site },
    )

pub leads-exit : (s : Source) (p : Point) (old new : Stack) → may_close s old p ≡ true → Closed old new → Leads s (exit_of old p) old new
leads-exit s p old new may c =
    let f : Frame = c.frame in
    subst (λ (es : List Event). Leads s es old new) (ap (λ (fs : List Frame). elim fs [ [] ↦ [] | f ∷ fs ↦ exit f.name p ∷ [] ]) (sym c.frames))
    (exit-leads s f p old new c.frames c.around (ap (λ (fs : List Frame). elim fs [ [] ↦ false | f ∷ fs ↦ may_close_as s f.outer f.start old.site p ]) (sym c.frames) ∙ may) c.site)
