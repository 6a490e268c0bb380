-- Each step of a compilation leads from a state in which all open spans stand to such a state.
use Rattle.std.proofs.Common.{◌≡◌, true, not, ◌||◌, List, [], ◌∷◌, Option, Some, None, Ok, refl, ap, subst, ◌∙◌}
use Rattle.markdown_events.specs.Names.{role_of}
use Rattle.markdown_steps.specs.ChildFacts.{ChildFacts}
use Rattle.markdown_events.specs.declared.event.Event.{Event}
use Rattle.markdown_events.specs.declared.event.Kind.{Kind}
use Rattle.markdown_events.specs.declared.event.Name.{Name}
use Rattle.markdown_events.specs.declared.event.Point.{Point}
use Rattle.markdown_events.specs.declared.role.ItemKind.{ItemKind}
use Rattle.markdown_events.specs.declared.role.Role.{Role}
use Rattle.markdown_events.proofs.Booleans.{and-left}
use Rattle.markdown_steps.proofs.EventRuns.{left_is}
use Rattle.markdown_steps.proofs.Outcomes.{bind_ok, checked_ok, checked_passes, ok_is}
use Rattle.markdown_events.specs.Around.{may_begin}
use Rattle.markdown_steps.specs.Columns.{child_facts}
use Rattle.markdown_steps.specs.Compiler.{ContainerState, OpenSpan, State, with_child, enter_as, enter_checks, enter_step, entered, exit_checks, leave, leave_to, push, opening, run, step, step_by}
use Rattle.markdown_grammar.specs.Items.{is_line_ending}
use Rattle.markdown_grammar.specs.Document.{Source}
use Rattle.markdown_steps.specs.Well.{AllStand, Stands, Taken, Well, is_transparent}
use Rattle.markdown_events.specs.declared.event.Kind.TheVariants.{Enter, Exit}
use Rattle.markdown_events.specs.declared.role.Role.TheVariants.{Transparent as transparent, Significant as significant}
use Rattle.markdown_grammar.specs.declared.error_kind.ErrorKind.TheVariants.{Held}

-- before the first event
pub well-opening : (s : Source) → Well s opening
well-opening s = refl

-- only the content model of the innermost container is asked for
row-stands : (s : Source) (fs : List OpenSpan) (own other : ContainerState) → other.initial_model ≡ own.initial_model → AllStand s fs own → AllStand s fs other
row-stands s [] own other e h = e ∙ h
row-stands s (o ∷ os) own other e h = one s o os own other o.outer e (λ g. row-stands s os own other e g) h
  where
    one : (s : Source) (o : OpenSpan) (os : List OpenSpan) (own other : ContainerState) (outer : Option (ItemKind × ContainerState)) → other.initial_model ≡ own.initial_model → (AllStand s os own → AllStand s os other)
        → Stands s o own (AllStand s os) outer → Stands s o other (AllStand s os) outer
    one s o os own other None e later h = (h.0, later h.1)
    one s o os own other (Some outer) e later h = (record { is_significant = (h.0).is_significant; initial_model = e ∙ (h.0).initial_model; passed = (h.0).passed }, h.1)

enter-stands : (s : Source) (role : Role) (n : Name) (p : Point) (a z : State) → role_of n ≡ role → enter_as s role n p a ≡ Ok z → Well s a → Well s z
enter-stands s (transparent k) n p a z is h well = subst (λ (x : State). Well s x) (ok_is (push n p a None a.top) z h) (ap is_transparent is, well)
enter-stands s (significant what) n p a z is h well =
    let out : State = push n p a (Some (what, a.top)) (entered a.top what) in
    let tests = enter_checks s a.top what p in
    subst (λ (x : State). Well s x) (ok_is out z (checked_ok tests p (Ok out) z h)) (record { is_significant = is; initial_model = refl; passed = checked_passes tests p (Ok out) z h }, well)

leave-stands : (s : Source) (o : OpenSpan) (os : List OpenSpan) (p : Point) (c : ChildFacts) (own top : ContainerState) (outer : Option (ItemKind × ContainerState)) → leave_to s o.start p c own outer ≡ Ok top → Stands s o own (AllStand s os) outer → AllStand s os top
unfolding leave
leave-stands s o os p c own top None h stands = subst (λ (x : ContainerState). AllStand s os x) (ok_is own top h) stands.1
leave-stands s o os p c own top (Some outer) h stands =
    let out : ContainerState = with_child s outer.1 outer.0 o.start p c own.inner in
    subst (λ (x : ContainerState). AllStand s os x) (ok_is out top (checked_ok (exit_checks s outer.1 outer.0 o.start p own) p (Ok out) top h)) (row-stands s os outer.1 out refl stands.1)

well-by : (k : Kind) (s : Source) (n : Name) (p : Point) (a z : State) → step_by k s n p a ≡ Ok z → Well s a → Well s z
unfolding enter_step
well-by Enter s n p a z h well = enter-stands s (role_of n) n p a z refl (checked_ok ((may_begin a.around (role_of n), Held) ∷ []) p (enter_as s (role_of n) n p a) z h) well
well-by Exit s n p a z h well =
    let l = left_is s n p a z h in
    subst (λ (x : State). Well s x) l.is
    (leave-stands s l.first l.rest p (child_facts a.marks a.columns) a.top l.top (l.first).outer l.left (subst (λ (fs : List OpenSpan). AllStand s fs a.top) l.frames well))

-- each step keeps it
pub well-step : (s : Source) (e : Event) (a z : State) → step s e a ≡ Ok z → Well s a → Well s z
well-step s e a z h well = well-by e.kind s e.name e.point a z h well

-- and so does each run
pub well-run : (s : Source) (es : List Event) (a z : State) → run s es a ≡ Ok z → Well s a → Well s z
unfolding run
well-run s [] a z h well = subst (λ (x : State). Well s x) (ok_is a z h) well
well-run s (e ∷ es) a z h well =
    let b = bind_ok (step s e a) (run s es) z h in
    well-run s es b.0 z b.2 (well-step s e a b.0 b.1 well)

-- ---- What it says of an open span

-- where a break waits for its line ending, it is one
pub taken-awaited : (s : Source) (o : OpenSpan) (what : ItemKind) (own outer : ContainerState) → Taken s o what own outer → (not outer.after_break || is_line_ending what) ≡ true
taken-awaited s o what own outer t = and-left (not outer.after_break || is_line_ending what) _ t.passed
