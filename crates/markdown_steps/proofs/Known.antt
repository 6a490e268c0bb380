-- What a run knows of where it stands: the open spans and the innermost container are what the definitions say of the events so far.
use Rattle.std.proofs.Common.{◌≡◌, true, List, [], ◌∷◌, ◌++◌, Option, Some, None, Result, Ok, refl, sym, ap, subst, ◌∙◌}
use Rattle.markdown_events.specs.Forest.{Forest, empty, enter, events_of}
use Rattle.markdown_events.specs.Names.{role_of}
use Rattle.markdown_events.specs.declared.event.Event.{Event}
use Rattle.markdown_events.specs.declared.role.ItemKind.{ItemKind}
use Rattle.markdown_events.specs.declared.role.Role.{Role}
use Rattle.markdown_steps.proofs.Allowed.{takes-none}
use Rattle.markdown_steps.proofs.Compiled.{over-all, start}
use Rattle.markdown_steps.proofs.EventRuns.{at, opened_by, top_by}
use Rattle.markdown_steps.proofs.ForestSteps.{Reached, eval}
use Rattle.markdown_steps.proofs.SummaryLaws.{container_state}
use Rattle.markdown_steps.proofs.ItemSteps.{fresh-is}
use Rattle.markdown_steps.proofs.OpenSpans.{Trail, eval-reaches, in-span, trail-run}
use Rattle.markdown_steps.proofs.Outcomes.{bind_ok, done, ok_is}
use Rattle.markdown_steps.proofs.WellFormed.{is_well_formed_in}
use Rattle.markdown_steps.proofs.SiblingMarks.{marks}
use Rattle.markdown_events.specs.Around.{in_the_open, under}
use Rattle.markdown_steps.specs.Compiler.{ContainerState, OpenSpan, State, entered, opening, run}
use Rattle.markdown_grammar.specs.Grammar.{conforms}
use Rattle.markdown_grammar.specs.Grammar.{ContentModel, any_content}
use Rattle.markdown_grammar.specs.Items.{Items, items, kinds, none, ◌then◌}
use Rattle.markdown_grammar.specs.Attributes.{Place, inherited_at_root}
use Rattle.markdown_grammar.specs.Document.{Source}
use Rattle.markdown_grammar.specs.Sites.{Ancestor, Site, around_of, site_in, site_of, events_so_far}
use Rattle.markdown_events.specs.declared.around.Around.{Around}
use Rattle.markdown_events.specs.declared.role.Role.TheVariants.{Transparent as transparent, Significant as significant}

-- what the container of a site keeps
abbrev pub kept_at_site : Source → Site → ContainerState
kept_at_site s site = container_state s site.initial_model site.place site.before

-- what a span of a site keeps of the container around it
abbrev pub outer_by : Source → Role → Site → Option (ItemKind × ContainerState)
outer_by s (transparent k) site = None
outer_by s (significant what) site = Some (what, kept_at_site s site)

-- the frames are those of the open spans
abbrev pub AreOpen : Source → List OpenSpan → Forest → List Ancestor → Type 0
AreOpen s [] forest [] = Unit {0}
AreOpen s (o ∷ os) forest (e ∷ path) = (o.name ≡ e.name) × (o.start ≡ e.start) × (o.outer ≡ outer_by s (role_of e.name) (site_of forest path)) × AreOpen s os forest path
AreOpen s [] forest (e ∷ path) = ⊥
AreOpen s (o ∷ os) forest [] = ⊥

-- what is in the open spans is well-formed
abbrev pub AreWellFormed : List Ancestor → Type 0
AreWellFormed [] = Unit {0}
AreWellFormed (e ∷ path) = (is_well_formed_in (around_of (e ∷ path)) e.inside ≡ true) × AreWellFormed path

-- a state after closed spans, and open ones after them
pub record Stands (s : Source) (forest : Forest) (path : List Ancestor) (st : State) : Type 0 where
  pub frames : AreOpen s st.frames forest path
  pub around : st.around ≡ around_of path
  pub top : st.top ≡ kept_at_site s (site_of forest path)
  pub well_formed : AreWellFormed path
  pub taken : conforms (site_of forest path).initial_model (kinds (site_of forest path).before) ≡ true

stands-root : (s : Source) (f : Forest) (st : State) → run s (events_of f) opening ≡ Ok st → Stands s f [] st
stands-root s f st h =
    let on : Reached → Result State _ = λ y. done (at [] in_the_open (marks f) y) in
    let e = bind_ok (eval s in_the_open f start) on st (sym (over-all s f) ∙ h) in
    let st_is : at [] in_the_open (marks f) e.0 ≡ st = ok_is (at [] in_the_open (marks f) e.0) st e.2 in
    let r = eval-reaches s in_the_open f start e.0 any_content inherited_at_root none (fresh-is s any_content inherited_at_root) (takes-none any_content) e.1 in
    record {
      frames = subst (λ (x : State). AreOpen s x.frames f []) st_is tt;
      around = ap (λ (x : State). x.around) (sym st_is);
      top = ap (λ (x : State). x.top) (sym st_is) ∙ r.0;
      well_formed = tt;
      taken = r.1;
    }

outer-known : (s : Source) (role : Role) (out : State) (site : Site) → out.top ≡ kept_at_site s site → opened_by role out ≡ outer_by s role site
outer-known s (transparent k) out site h = refl
outer-known s (significant what) out site h = ap (λ (x : ContainerState). Some (what, x)) h

top-known : (s : Source) (role : Role) (out : State) (site : Site) (top : ContainerState) (f : Forest) → out.top ≡ kept_at_site s site → conforms site.initial_model (kinds site.before) ≡ true
    → ((h : ContentModel) (p : Place) (xs : Items) → top_by role out ≡ container_state s h p xs → conforms h (kinds xs) ≡ true → (top ≡ container_state s h p (xs then items f)) × (conforms h (kinds (xs then items f)) ≡ true) × (is_well_formed_in (under out.around role) f ≡ true))
    → (top ≡ kept_at_site s (site_in role (items f) site)) × (conforms (site_in role (items f) site).initial_model (kinds (site_in role (items f) site).before) ≡ true) × (is_well_formed_in (under out.around role) f ≡ true)
top-known s (transparent k) out site top f h t g = g site.initial_model site.place site.before h t
top-known s (significant what) out site top f h t g =
    let inside : Site = site_in (significant what) none site in
    g inside.initial_model inside.place none (ap (λ (x : ContainerState). entered x what) h ∙ fresh-is s inside.initial_model inside.place) (takes-none inside.initial_model)

-- where a run over their events ends
pub stands : (s : Source) (f : Forest) (path : List Ancestor) (st : State) → run s (events_so_far f path) opening ≡ Ok st → Stands s f path st
stands s f [] st h = stands-root s f st h
stands s f (e ∷ path) st h =
    let role : Role = role_of e.name in
    let i = in-span s (events_so_far f path) e.name e.start e.inside st h in
    let out : State = i.outer in
    let k : Stands s f path out = stands s f path out i.ran_before in
    let site : Site = site_of f path in
    let r = top-known s role out site st.top e.inside k.top k.taken (λ h' p xs g taken. i.top h' p xs g taken) in
    record {
      frames = subst (λ (x : List OpenSpan). AreOpen s x f (e ∷ path)) (sym i.frames) (refl, refl, outer-known s role out site k.top, k.frames);
      around = i.around ∙ ap (λ (x : Around). under x role) k.around;
      top = r.0;
      well_formed = (ap (λ (x : Around). is_well_formed_in (under x role) e.inside) (sym k.around) ∙ r.2, k.well_formed);
      taken = r.1;
    }

path-of : (fs : List OpenSpan) (es : List Event) → Trail fs es → (forest : Forest) × (path : List Ancestor) × (events_so_far forest path ≡ es)
unfolding Trail
path-of [] es t = (t.0, [], sym t.1)
path-of (o ∷ os) es t =
    let k = path-of os t.0 t.3 in
    (k.0, record { name = o.name; start = o.start; inside = t.1 } ∷ k.1, ap (λ (x : List Event). x ++ (enter o.name o.start ∷ events_of t.1)) k.2 ∙ sym t.2)

-- what a run from the first event on knows
pub record Known (s : Source) (es : List Event) (st : State) : Type 0 where
  pub forest : Forest
  pub path : List Ancestor
  pub so_far_is : events_so_far forest path ≡ es
  pub at_path : Stands s forest path st

pub known : (s : Source) (es : List Event) (st : State) → run s es opening ≡ Ok st → Known s es st
unfolding Trail
known s es st h =
    let k = path-of st.frames es (trail-run s es opening st [] h (empty, refl)) in
    record { forest = k.0; path = k.1; so_far_is = k.2; at_path = stands s k.0 k.1 st (ap (λ (x : List Event). run s x opening) k.2 ∙ h) }
