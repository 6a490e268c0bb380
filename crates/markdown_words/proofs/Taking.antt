-- What the words are of.
use Rattle.std.proofs.Common.{◌≡◌, ℕ, false, List, ◌++◌, sym, ◌∙◌, ap, subst}
use Rattle.character_references.specs.Html.{html}
use Rattle.markdown_events.specs.Forest.{Forest, events_of}
use Rattle.markdown_events.specs.declared.event.Event.{Event}
use Rattle.markdown_grammar.specs.Accepted.{Accepted}
use Rattle.markdown_grammar.specs.Document.{Given, Source, source_of}
use Rattle.mdast_util.specs.PlainText.{ended}
use Rattle.markdown_words.proofs.EventWords.{events-append, events-say}
use Rattle.markdown_words.specs.Shown.{AreOf, Goes, Shows, source_in}
use Rattle.markdown_words.specs.Standings.{Standing, after_events, at_first}
use Rattle.markdown_words.specs.Texts.{HasText}
use Rattle.markdown_words.specs.declared.words.Words.{Words}

-- of more events
pub are-more : (events more : List Event) (old new : Words) → new.document ≡ old.document → Goes more old new → AreOf events old → AreOf (events ++ more) new
are-more events more old new same g h = λ k.
    subst (λ (st : Standing). Shows new st)
    (sym (events-append (source_in old) at_first events more) ∙ ap (λ (d : Given). after_events (source_of d html) at_first (events ++ more)) (sym same))
    (g.goes k (after_events (source_in old) at_first events) (h (g.before k)))

-- the text of the events of a forest
pub has-text : (s : Source) (events : List Event) (f : Forest) (words : Words) (text : List ℕ) → events_of f ≡ events → Accepted s f → source_in words ≡ s → AreOf events words → words.strange ≡ false → text ≡ ended words.speech.text
    → HasText text events s
has-text s events f words text e accepted same h k is =
    let shows : Shows words (after_events (source_in words) at_first events) = h k in
    let there : after_events (source_in words) at_first events ≡ after_events s at_first (events_of f) = (λ i. after_events (same i) at_first (sym e i)) in
    record {
      forest = f;
      from_events = e;
      accepted = accepted;
      is_text =
          is ∙ ap (λ x. ended x) (ap (λ x. x.text) shows.said_is)
          ∙ ap (λ (st : Standing). ended st.said.text) there
          ∙ events-say s f (sym (ap (λ (st : Standing). st.strange) there) ∙ shows.known);
    }
