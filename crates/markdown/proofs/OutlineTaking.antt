-- What one more event does to a sink of headings, and the outline that it has built.
use Rattle.std.proofs.Common.{Bool, List, [], ap, false, true, ℕ, subst, sym, ◌++◌, ◌∙◌, ◌∷◌, ◌≡◌, append_assoc}
use Rattle.character_references.specs.Html.{html}
use Rattle.character_references.specs.declared.html.HtmlReferences.{HtmlReferences}
use Rattle.markdown_events.specs.Forest.{enter, exit}
use Rattle.markdown_events.specs.declared.event.Event.{Event}
use Rattle.markdown_events.specs.declared.event.Kind.TheVariants.{Enter, Exit}
use Rattle.markdown_events.specs.declared.event.Name.{Name}
use Rattle.markdown_events.specs.declared.event.Point.{Point}
use Rattle.markdown_tree.specs.Building.{Building}
use Rattle.markdown_outline.proofs.HeadingSinks.{passed-left, passed-taken, token-left, token-taken}
use Rattle.markdown_outline.specs.HeadingFilter.{filtered, loses_none, outside, passes_on}
use Rattle.markdown_outline.specs.HeadingStandings.{HasPassed, Moves, Stays, standing}
use Rattle.markdown_outline.specs.declared.heading_filter.HeadingFilter.{HeadingFilter}
use Rattle.markdown.proofs.HiddenSoFar.{tells-more, tells-two}
use Rattle.markdown.specs.Hiding.{Passes}
use Rattle.markdown.specs.declared.hiding.Hiding.{Hiding}
use Rattle.markdown.specs.OutlineSinks.{IsOutlineOf, OutlineOf}
use Rattle.event_writer.specs.Finished.{IsFinished}
use Rattle.markdown_events.specs.declared.message.Fault.TheVariants as faults
use Rattle.markdown_events.specs.declared.message.Message.{Message}
use Rattle.markdown_grammar.specs.Correct.{FailsRightly, IsMeaning}
use Rattle.markdown_grammar.specs.Document.{Given, Source, source_hiding, source_of}
use Rattle.markdown_nodes.specs.View.{view}
use Rattle.markdown_nodes.specs.declared.mdast.Node.{Node}
use Rattle.markdown_outline.proofs.HeadingTrees.{never-refused, outline-passed}
use Rattle.markdown_outline.specs.Outlines.{HasOutline}
use Rattle.mdast_util.specs.Outline.{outline_of}

-- an event that the filter passes on goes to the builder
pub takes : (bytes : List ℕ) (flags : List Bool) (events taken : List Event) (e event : Event) (old middle new : Building HtmlReferences) (before after : HeadingFilter) (known known' : Hiding) → event ≡ e → taken ≡ events ++ event ∷ []
    → middle ≡ old → new.document ≡ middle.document → new.events ≡ middle.events ++ e ∷ [] → passes_on (standing before) e.kind e.name ≡ true → Moves e.kind e.name before after
    → Passes bytes e.kind e.name e.point.index known known' → IsOutlineOf bytes flags events old known before → IsOutlineOf bytes flags taken new known' after
takes bytes flags events taken e event old middle new before after known known' made all same document more passes moves hidden h = record {
  document = document ∙ ap (λ (b : Building HtmlReferences). b.document) same ∙ h.document;
  passed =
      subst (λ (xs : List Event). HasPassed xs new.events after) (sym (all ∙ ap (λ (x : Event). events ++ x ∷ []) made))
      (subst (λ (xs : List Event). HasPassed (events ++ e ∷ []) xs after) (sym (more ∙ ap (λ (b : Building HtmlReferences). b.events ++ e ∷ []) same)) (passed-taken events old.events e before after passes moves h.passed));
  tells = tells-more bytes flags events taken e known known' (all ∙ ap (λ (x : Event). events ++ x ∷ []) made) h.tells hidden;
}

-- any other changes the filter alone
pub leaves : (bytes : List ℕ) (flags : List Bool) (events taken : List Event) (e event : Event) (old : Building HtmlReferences) (before after : HeadingFilter) (known known' : Hiding) → event ≡ e → taken ≡ events ++ event ∷ []
    → passes_on (standing before) e.kind e.name ≡ false → Moves e.kind e.name before after
    → Passes bytes e.kind e.name e.point.index known known' → IsOutlineOf bytes flags events old known before → IsOutlineOf bytes flags taken old known' after
leaves bytes flags events taken e event old before after known known' made all passes moves hidden h = record {
  document = h.document;
  passed = subst (λ (xs : List Event). HasPassed xs old.events after) (sym (all ∙ ap (λ (x : Event). events ++ x ∷ []) made)) (passed-left events old.events e before after passes moves h.passed);
  tells = tells-more bytes flags events taken e known known' (all ∙ ap (λ (x : Event). events ++ x ∷ []) made) h.tells hidden;
}

-- the events after a token
pub with-both : (events once taken : List Event) (first second : Event) (name : Name) (a b : Point) → first ≡ enter name a → second ≡ exit name b → once ≡ events ++ first ∷ [] → taken ≡ once ++ second ∷ []
    → taken ≡ events ++ enter name a ∷ exit name b ∷ []
with-both events once taken first second name a b f s o t =
    t ∙ (λ i. o i ++ s i ∷ []) ∙ append_assoc events (first ∷ []) (exit name b ∷ []) ∙ ap (λ (x : Event). events ++ x ∷ exit name b ∷ []) f

-- a token that the filter passes on goes to the builder
pub takes-token : (bytes : List ℕ) (flags : List Bool) (events taken : List Event) (name : Name) (a b : Point) (old middle new : Building HtmlReferences) (before after : HeadingFilter) (known between known' : Hiding)
    → taken ≡ events ++ enter name a ∷ exit name b ∷ [] → middle ≡ old → new.document ≡ middle.document → new.events ≡ middle.events ++ enter name a ∷ exit name b ∷ []
    → passes_on (standing before) Enter name ≡ true → Stays name before after → Passes bytes Enter name a.index known between → Passes bytes Exit name b.index between known'
    → IsOutlineOf bytes flags events old known before → IsOutlineOf bytes flags taken new known' after
takes-token bytes flags events taken name a b old middle new before after known between known' all same document more passes stays one two h = record {
  document = document ∙ ap (λ (x : Building HtmlReferences). x.document) same ∙ h.document;
  passed =
      subst (λ (xs : List Event). HasPassed xs new.events after) (sym all)
      (subst (λ (xs : List Event). HasPassed (events ++ enter name a ∷ exit name b ∷ []) xs after) (sym (more ∙ ap (λ (x : Building HtmlReferences). x.events ++ enter name a ∷ exit name b ∷ []) same))
      (token-taken events old.events name a b before after passes stays h.passed));
  tells = tells-two bytes flags events taken (enter name a) (exit name b) known between known' all h.tells one two;
}

-- any other changes the filter alone
pub leaves-token : (bytes : List ℕ) (flags : List Bool) (events taken : List Event) (name : Name) (a b : Point) (old : Building HtmlReferences) (before after : HeadingFilter) (known between known' : Hiding)
    → taken ≡ events ++ enter name a ∷ exit name b ∷ [] → passes_on (standing before) Enter name ≡ false → Stays name before after → Passes bytes Enter name a.index known between → Passes bytes Exit name b.index between known'
    → IsOutlineOf bytes flags events old known before → IsOutlineOf bytes flags taken old known' after
leaves-token bytes flags events taken name a b old before after known between known' all passes stays one two h = record {
  document = h.document;
  passed = subst (λ (xs : List Event). HasPassed xs old.events after) (sym all) (token-left events old.events name a b before after passes stays h.passed);
  tells = tells-two bytes flags events taken (enter name a) (exit name b) known between known' all h.tells one two;
}

-- ---- The outline

-- what is built of the document with other flags that are the same
pub with-flags : (bytes : List ℕ) (events : List Event) (old new : Building HtmlReferences) (known : Hiding) (filter : HeadingFilter) → new.document ≡ old.document → IsOutlineOf bytes old.document.hidden events new known filter → IsOutlineOf bytes new.document.hidden events new known filter
with-flags bytes events old new known filter same h = subst (λ (d : Given). IsOutlineOf bytes d.hidden events new known filter) (sym same) h

-- what holds of the builder's events and document holds of the headings in the sink's document, unless a heading was lost
pub of-headings : (P : List Event → Source → Type 0) (bytes : List ℕ) (events : List Event) (built taken : Building HtmlReferences) (known : Hiding) (filter : HeadingFilter) (t : OutlineOf) → taken ≡ built
    → record { document = bytes; hidden = built.document.hidden; events = events; loses = filter.loses } ≡ t → t.loses ≡ false → IsOutlineOf bytes built.document.hidden events built known filter
    → P taken.events (source_of taken.document html) → P (filtered outside t.events) (source_hiding t.hidden t.document html)
of-headings P bytes events built taken known filter t same is keeps h holds =
    subst (λ (t : OutlineOf). P (filtered outside t.events) (source_hiding t.hidden t.document html)) is
    (subst (λ (xs : List Event). P xs (source_hiding built.document.hidden bytes html)) (h.passed.passed_on (ap (λ (t : OutlineOf). t.loses) is ∙ keeps))
    (subst (λ (d : Given). P built.events (source_of d html)) h.document
    (subst (λ (b : Building HtmlReferences). P b.events (source_of b.document html)) same holds)))

-- a tree of what the filter passes on of finished events has their outline
pub has-outline : (s : Source) (events : List Event) (tree : Node) (text : List ℕ) → IsFinished s events → loses_none outside events ≡ true → IsMeaning tree (filtered outside events) s → text ≡ outline_of (view tree) → HasOutline text events s
has-outline s events tree text f h m is = record {
  forest = f.forest;
  from_events = f.from_events;
  accepted = f.accepted;
  is_outline = is ∙ outline-passed s events tree f.forest f.from_events h m;
}

-- and no message refuses it
pub not-refused : (s : Source) (events : List Event) (message : Message) → IsFinished s events → loses_none outside events ≡ true → FailsRightly (faults.Message message) (filtered outside events) s → ⊥
not-refused s events message f h r = never-refused s events message f.forest f.from_events h f.accepted r
