-- What a recorder keeps.
use Rattle.std.proofs.Common.{List, Option, Some, [], ap, refl, reverse, subst, sym, true, ℕ, ◌++◌, ◌∙◌, ◌∷◌, ◌≡◌}
use Rattle.std.specs.Option.{option_to_list}
use Rattle.std.specs.Prelude.{slice_get}
use Rattle.std.proofs.lemmas.List.{reverse-append}
use Rattle.markdown_events.specs.Forest.{enter, exit}
use Rattle.markdown_events.specs.declared.event.Event.{Event}
use Rattle.markdown_events.specs.declared.event.Name.{Name}
use Rattle.markdown_events.specs.declared.event.Point.{Point}
use Rattle.markdown_grammar.specs.Document.{Source, source}
use Rattle.markdown_acceptance.proofs.Following.{after-enter, after-exit, after-token, none-root, none-shows}
use Rattle.markdown_acceptance.proofs.Leading.{tracks-none}
use Rattle.markdown_acceptance.specs.Calls.{AfterToken, AtRoot, Closed, Opened, exit_of, may_close, may_open, may_write}
use Rattle.markdown_acceptance.specs.Following.{open_after}
use Rattle.markdown_acceptance.specs.Shown.{Tracks}
use Rattle.markdown_acceptance.specs.declared.open_spans.Frame.{Frame}
use Rattle.event_writer.proofs.Holding.{tiles-enter, tiles-exit, tiles-none, tiles-token, tracks-enter, tracks-exit, tracks-token}
use Rattle.event_writer.specs.Invariants.{AreNamesOf, IsRecorded}
use Rattle.event_writer.specs.Places.{IsPlace}
use Rattle.event_writer.specs.Tilings.{IsBefore, origin}

-- ---- Before the first event

pub root : (events : List Event) → events ≡ [] → AtRoot (open_after events)
root events none = subst (λ (es : List Event). AtRoot (open_after es)) (sym none) none-root

pub recorded-none : (decode : List ℕ → ℕ → Option (List ℕ)) (bytes : List ℕ) (events : List Event) (names : List Name) → events ≡ [] → names ≡ [] → IsRecorded decode bytes events origin names
recorded-none decode bytes events names none unnamed = record {
  tracks = subst (λ (es : List Event). Tracks (source bytes decode) es (open_after es)) (sym none) (tracks-none (source bytes decode) (open_after []) none-shows);
  tiles = tiles-none bytes events none;
  named = subst (λ (ns : List Name). AreNamesOf (open_after events).frames (reverse ns)) (sym unnamed)
      (subst (λ (fs : List Frame). AreNamesOf fs []) (sym (root events none).frames) tt);
}

-- ---- The open spans after a call

pub opened-after : (es added : List Event) (n : Name) (at : Point) → added ≡ es ++ enter n at ∷ [] → Opened n at (open_after es) (open_after added)
opened-after es added n at is = subst (λ (xs : List Event). Opened n at (open_after es) (open_after xs)) (sym is) (after-enter es n at)

pub closed-after : (s : Source) (es added : List Event) (n : Name) (at : Point) → may_close s (open_after es) at ≡ true → added ≡ es ++ exit n at ∷ [] → Closed (open_after es) (open_after added)
closed-after s es added n at may is = subst (λ (xs : List Event). Closed (open_after es) (open_after xs)) (sym is) (after-exit s es n at may)

pub written-after : (es added : List Event) (n : Name) (at end : Point) → added ≡ es ++ enter n at ∷ exit n end ∷ [] → AfterToken n (open_after es) (open_after added)
written-after es added n at end is = subst (λ (xs : List Event). AfterToken n (open_after es) (open_after xs)) (sym is) (after-token es n at end)

-- ---- The names of the open spans

-- the last of the names is looked at, and then taken off
pub last-off : (names rest : List Name) (taken : Option Name) (n : Name) → names ≡ rest ++ option_to_list taken → taken ≡ Some n → reverse names ≡ n ∷ reverse rest
last-off names rest taken n is some = ap reverse (is ∙ ap (λ (o : Option Name). rest ++ option_to_list o) some) ∙ reverse-append rest (n ∷ [])

exit-by : (frames : List Frame) (names : List Name) (n : Name) (end : Point) → AreNamesOf frames (n ∷ names) → elim frames as (λ _. List Event) [ [] ↦ [] | f ∷ _ ↦ exit f.name end ∷ [] ] ≡ exit n end ∷ []
exit-by [] names n end h = absurd h
exit-by (f ∷ fs) names n end h = ap (λ (name : Name). exit name end ∷ []) (sym h.0)

-- it is that of the innermost span
pub exit-named : (es : List Event) (at : Point) (names rest : List Name) (n : Name) → AreNamesOf (open_after es).frames (reverse names) → reverse names ≡ n ∷ reverse rest → exit_of (open_after es) at ≡ exit n at ∷ []
exit-named es at names rest n h is = exit-by (open_after es).frames (reverse rest) n at (subst (AreNamesOf (open_after es).frames) is h)

-- ---- After a call

pub recorded-enter : (decode : List ℕ → ℕ → Option (List ℕ)) (bytes : List ℕ) (es added : List Event) (at : Point) (names pushed : List Name) (n : Name) → IsRecorded decode bytes es at names → may_open bytes (open_after es) n at ≡ true → IsPlace bytes at
    → added ≡ es ++ enter n at ∷ [] → pushed ≡ names ++ n ∷ [] → IsRecorded decode bytes added at pushed
recorded-enter decode bytes es added at names pushed n h may here is more =
    let opened = opened-after es added n at is in
    let turned : reverse pushed ≡ n ∷ reverse names = ap reverse more ∙ reverse-append names (n ∷ []) in
    record {
      tracks = tracks-enter (source bytes decode) es added n (open_after es) (open_after added) at h.tracks may opened is;
      tiles = tiles-enter bytes es added n at h.tiles here is;
      named = subst (AreNamesOf (open_after added).frames) (sym turned) (subst (λ (fs : List Frame). AreNamesOf fs (n ∷ reverse names)) (sym opened.frames) (refl, h.named));
    }

pub recorded-exit : (decode : List ℕ → ℕ → Option (List ℕ)) (bytes : List ℕ) (es added : List Event) (at : Point) (names rest : List Name) (n : Name) → IsRecorded decode bytes es at names → may_close (source bytes decode) (open_after es) at ≡ true → IsPlace bytes at
    → added ≡ es ++ exit n at ∷ [] → reverse names ≡ n ∷ reverse rest → IsRecorded decode bytes added at rest
recorded-exit decode bytes es added at names rest n h may here is turned =
    let s : Source = source bytes decode in
    let closed = closed-after s es added n at may is in
    let named : AreNamesOf (closed.frame ∷ (open_after added).frames) (n ∷ reverse rest) =
    subst (λ (fs : List Frame). AreNamesOf fs (n ∷ reverse rest)) closed.frames (subst (AreNamesOf (open_after es).frames) turned h.named) in
    record {
      tracks = tracks-exit s es added n (open_after es) (open_after added) at h.tracks may closed (exit-named es at names rest n h.named turned) is;
      tiles = tiles-exit bytes es added n at h.tiles here is;
      named = named.1;
    }

pub recorded-token : (decode : List ℕ → ℕ → Option (List ℕ)) (bytes : List ℕ) (es added : List Event) (at end : Point) (names : List Name) (n : Name) → IsRecorded decode bytes es at names → may_write (source bytes decode) (open_after es) n at end ≡ true → IsPlace bytes at → IsBefore at end → IsPlace bytes end
    → added ≡ es ++ enter n at ∷ exit n end ∷ [] → IsRecorded decode bytes added end names
recorded-token decode bytes es added at end names n h may here before place is =
    let after = written-after es added n at end is in
    record {
      tracks = tracks-token (source bytes decode) es added n (open_after es) (open_after added) at end h.tracks may after is;
      tiles = tiles-token bytes es added n at end h.tiles here before place is;
      named = subst (λ (fs : List Frame). AreNamesOf fs (reverse names)) (sym after.frames) h.named;
    }
