-- What one more event does to a sink of words.
use Rattle.std.proofs.Common.{◌≡◌, ℕ, IfOk, List, Result, Ok, Err, [], ap, false, true, subst, sym, ◌++◌, ◌∙◌, ◌∷◌, append_assoc}
use Rattle.character_references.specs.Html.{html}
use Rattle.event_writer.specs.Finished.{IsFinished}
use Rattle.markdown_events.specs.Forest.{enter, exit}
use Rattle.markdown_events.specs.declared.event.Event.{Event}
use Rattle.markdown_events.specs.declared.event.Kind.TheVariants.{Enter, Exit}
use Rattle.markdown_events.specs.declared.event.Name.{Name}
use Rattle.markdown_events.specs.declared.event.Point.{Point}
use Rattle.markdown_grammar.specs.Document.{Given, source_hiding, source_of}
use Rattle.markdown_words.proofs.Taking.{are-more, has-text}
use Rattle.markdown_words.specs.Shown.{AreOf, Goes}
use Rattle.markdown_words.specs.Texts.{HasText}
use Rattle.markdown_words.specs.declared.words.Words.{Words}
use Rattle.mdast_util.specs.PlainText.{ended}
use Rattle.markdown.proofs.HiddenSoFar.{tells-more}
use Rattle.markdown.specs.Hiding.{Passes}
use Rattle.markdown.specs.TextSinks.{IsTextOf}
use Rattle.markdown.specs.declared.hiding.Hiding.{Hiding}

-- what is said of the document with other flags that are the same
with-flags : (bytes : List ℕ) (events : List Event) (new old : Words) (known : Hiding) → new.document ≡ old.document → IsTextOf bytes old.document.hidden events new known → IsTextOf bytes new.document.hidden events new known
with-flags bytes events new old known same h = subst (λ (d : Given). IsTextOf bytes d.hidden events new known) (sym same) h

-- an event is taken
pub takes : (bytes : List ℕ) (events taken : List Event) (e event : Event) (old middle new : Words) (known known' : Hiding) → event ≡ e → taken ≡ events ++ event ∷ [] → middle ≡ old → new.document ≡ middle.document → Goes (e ∷ []) middle new
    → Passes bytes e.kind e.name e.point.index known known' → IsTextOf bytes old.document.hidden events old known → IsTextOf bytes new.document.hidden taken new known'
takes bytes events taken e event old middle new known known' made all same document goes hidden h =
    let is : taken ≡ events ++ e ∷ [] = all ∙ ap (λ (x : Event). events ++ x ∷ []) made in
    let kept : new.document ≡ old.document = document ∙ ap (λ (w : Words). w.document) same in
    with-flags bytes taken new old known' kept (record {
      document = kept ∙ h.document;
      said = subst (λ (xs : List Event). AreOf xs new) (sym is) (are-more events (e ∷ []) middle new document goes (subst (λ (w : Words). AreOf events w) (sym same) h.said));
      tells = tells-more bytes old.document.hidden events taken e known known' is h.tells hidden;
    })

-- a token is taken
pub takes-token : (bytes : List ℕ) (events once taken : List Event) (first second : Event) (name : Name) (a b : Point) (old middle new : Words) (known between known' : Hiding) → first ≡ enter name a → second ≡ exit name b
    → once ≡ events ++ first ∷ [] → taken ≡ once ++ second ∷ [] → middle ≡ old → new.document ≡ middle.document → Goes (enter name a ∷ exit name b ∷ []) middle new
    → Passes bytes Enter name a.index known between → Passes bytes Exit name b.index between known' → IsTextOf bytes old.document.hidden events old known → IsTextOf bytes new.document.hidden taken new known'
takes-token bytes events once taken first second name a b old middle new known between known' f s o t same document goes one two h =
    let once_is : once ≡ events ++ enter name a ∷ [] = o ∙ ap (λ (x : Event). events ++ x ∷ []) f in
    let taken_is : taken ≡ once ++ exit name b ∷ [] = t ∙ ap (λ (x : Event). once ++ x ∷ []) s in
    let both : taken ≡ events ++ enter name a ∷ exit name b ∷ [] = taken_is ∙ ap (λ (xs : List Event). xs ++ exit name b ∷ []) once_is ∙ append_assoc events (enter name a ∷ []) (exit name b ∷ []) in
    let kept : new.document ≡ old.document = document ∙ ap (λ (w : Words). w.document) same in
    let flags = old.document.hidden in
    with-flags bytes taken new old known' kept (record {
      document = kept ∙ h.document;
      said = subst (λ (xs : List Event). AreOf xs new) (sym both) (are-more events (enter name a ∷ exit name b ∷ []) middle new document goes (subst (λ (w : Words). AreOf events w) (sym same) h.said));
      tells = tells-more bytes flags once taken (exit name b) between known' taken_is (tells-more bytes flags events once (enter name a) known between once_is h.tells one) two;
    })

-- after an error, the words mean nothing
pub gives-up : (bytes : List ℕ) (events : List Event) (old middle tried given new : Words) (known : Hiding) → middle ≡ old → tried.document ≡ middle.document → given ≡ tried → new.document ≡ given.document → new.strange ≡ true
    → IsTextOf bytes old.document.hidden events old known → IsTextOf bytes new.document.hidden events new known
gives-up bytes events old middle tried given new known same document again document' strange h =
    let kept : new.document ≡ old.document = document' ∙ ap (λ (w : Words). w.document) again ∙ document ∙ ap (λ (w : Words). w.document) same in
    with-flags bytes events new old known kept (record {
      document = kept ∙ h.document;
      said = λ k. let z : true ≡ false = sym strange ∙ k in absurd cc;
      tells = h.tells;
    })

-- the words of finished events are their text
pub finished-text : (bytes : List ℕ) (events : List Event) (words : Words) (hiding : Hiding) (text : List ℕ) → IsFinished (source_hiding words.document.hidden bytes html) events → IsTextOf bytes words.document.hidden events words hiding → words.strange ≡ false
    → text ≡ ended words.speech.text → HasText text events (source_hiding words.document.hidden bytes html)
finished-text bytes events words hiding text f h k is =
    has-text (source_hiding words.document.hidden bytes html) events f.forest words text f.from_events f.accepted (ap (λ (d : Given). source_of d html) h.document) h.said k is

pub if-ok : {A E : Type 0} (P Q : A → Type 0) → ((a : A) → P a → Q a) → (r : Result A E) → IfOk r P → IfOk r Q
if-ok P Q f (Ok a) h = f a h
if-ok P Q f (Err e) h = h
