-- Events after which no span is open and no break waits are accepted.
use Rattle.std.proofs.Common.{◌≡◌, false, not, cond, List, [], ◌∷◌, Ok, Result, refl, ap, subst, ◌∙◌}
use Rattle.markdown_events.specs.declared.event.Event.{Event}
use Rattle.markdown_events.specs.declared.event.Point.{Point}
use Rattle.markdown_grammar.specs.Document.{Source}
use Rattle.markdown_grammar.specs.Refusals.{ErrorAt}
use Rattle.markdown_grammar.specs.declared.error_kind.ErrorKind.TheVariants.{Unbalanced, UnfinishedBreak}
use Rattle.markdown_steps.proofs.Compiled.{sound}
use Rattle.markdown_steps.proofs.Conditions.{conditions-hold}
use Rattle.markdown_steps.specs.Checks.{checked, refused, ◌>>=◌}
use Rattle.markdown_steps.specs.Compiler.{OpenSpan, State, compiled, last_checks, no_open_span, point_of, tree_of}
use Rattle.markdown_steps.specs.Extents.{last_event}
use Rattle.markdown_acceptance.specs.Shown.{AreAccepted, ShowsAll, Tracks}
use Rattle.markdown_acceptance.specs.Stacks.{Stack}
use Rattle.markdown_acceptance.specs.declared.open_spans.Frame.{Frame}

none-open : (spans : List OpenSpan) → ShowsAll [] spans → spans ≡ []
none-open [] h = refl
none-open (o ∷ os) h = absurd h

pub tracked-accepted : (s : Source) (es : List Event) (spans : Stack) → Tracks s es spans → spans.frames ≡ [] → (spans.site).after_break ≡ false → AreAccepted s es
tracked-accepted s es spans t frames waits =
    let st : State = t.state in
    let none : st.frames ≡ [] = none-open st.frames (subst (λ (fs : List Frame). ShowsAll fs st.frames) frames (t.shows).frames) in
    let after : (st.top).after_break ≡ false = ((t.shows).top).after_break ∙ waits in
    let last : Point = point_of (last_event es) in
    let made : compiled s es ≡ Ok (tree_of es st) =
    ap (λ (r : Result State ErrorAt). r >>= λ x. checked (last_checks x) last (Ok (tree_of es x))) t.runs
    ∙ (λ i. cond (no_open_span (none i)) (cond (not (after i)) (Ok (tree_of es st)) (refused UnfinishedBreak last)) (refused Unbalanced last)) in
    let m = sound s es (tree_of es st) made in
    record { forest = m.forest; from_events = m.has_events; accepted = conditions-hold s m.forest m.is_accepted }
