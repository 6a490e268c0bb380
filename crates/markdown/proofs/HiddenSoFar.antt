-- Events that hide what they are expected to hide.
use Rattle.std.proofs.Common.{Bool, List, [], ap, append-nil, false, length, refl, subst, sym, ℕ, ◌++◌, ◌∙◌, ◌∷◌, ◌≡◌}
use Rattle.std.proofs.lemmas.List.{append_assoc}
use Rattle.markdown_events.specs.declared.event.Event.{Event}
use Rattle.character_references.specs.declared.html.HtmlReferences.{HtmlReferences}
use Rattle.markdown_grammar.specs.Document.{Given}
use Rattle.markdown_tree.specs.Building.{Building}
use Rattle.markdown.specs.TreeSinks.{IsTreeOf, hiding_document}
use Rattle.markdown.specs.Hidden.{cell_after, flags_at, hidden, hidden_by, hidden_from, labels_after}
use Rattle.markdown.specs.Hiding.{Passes, Tells, cell_in, labels_in}
use Rattle.markdown.specs.declared.hiding.Hiding.{Hiding}

-- what the events before the last one hide, and then the last one
hidden-more : (bytes : List ℕ) (labels cell : ℕ) (es : List Event) (e : Event) → hidden_from bytes labels cell (es ++ e ∷ []) ≡ hidden_from bytes labels cell es ++ (hidden_by bytes (labels_in labels es) (cell_in cell es) e.kind e.name e.point.index ++ [])
hidden-more bytes labels cell [] e = refl
hidden-more bytes labels cell (x ∷ es) e =
    let first = hidden_by bytes labels cell x.kind x.name x.point.index in
    let after = labels_after labels x.kind x.name in
    let begun = cell_after cell x.kind x.name x.point.index in
    ap (λ (xs : List ℕ). first ++ xs) (hidden-more bytes after begun es e)
    ∙ sym (append_assoc first (hidden_from bytes after begun es) (hidden_by bytes (labels_in after es) (cell_in begun es) e.kind e.name e.point.index ++ []))

labels-more : (labels : ℕ) (es : List Event) (e : Event) → labels_in labels (es ++ e ∷ []) ≡ labels_after (labels_in labels es) e.kind e.name
labels-more labels [] e = refl
labels-more labels (x ∷ es) e = labels-more (labels_after labels x.kind x.name) es e

cell-more : (cell : ℕ) (es : List Event) (e : Event) → cell_in cell (es ++ e ∷ []) ≡ cell_after (cell_in cell es) e.kind e.name e.point.index
cell-more cell [] e = refl
cell-more cell (x ∷ es) e = cell-more (cell_after cell x.kind x.name x.point.index) es e

-- after one more event
pub tells-more : (bytes : List ℕ) (flags : List Bool) (es added : List Event) (e : Event) (old new : Hiding) → added ≡ es ++ e ∷ [] → Tells bytes flags es old → Passes bytes e.kind e.name e.point.index old new → Tells bytes flags added new
tells-more bytes flags es added e old new is tells passes = subst (λ (xs : List Event). Tells bytes flags xs new) (sym is) (record {
  cell = passes.cell ∙ ap (λ (c : ℕ). cell_after c e.kind e.name e.point.index) tells.cell ∙ sym (cell-more 0 es e);
  labels = λ same. passes.labels same ∙ ap (λ (n : ℕ). labels_after n e.kind e.name) (tells.labels (passes.before same)) ∙ sym (labels-more 0 es e);
  hidden = λ same.
      let before = hidden_from bytes 0 0 es in
      let last : old.expected.now ≡ hidden_by bytes (labels_in 0 es) (cell_in 0 es) e.kind e.name e.point.index ++ new.expected.now =
      passes.expected same ∙ (λ i. hidden_by bytes (tells.labels (passes.before same) i) (tells.cell i) e.kind e.name e.point.index ++ new.expected.now) in
      let found = hidden_by bytes (labels_in 0 es) (cell_in 0 es) e.kind e.name e.point.index in
      let all : before ++ old.expected.now ≡ hidden_from bytes 0 0 (es ++ e ∷ []) ++ new.expected.now =
      ap (λ (xs : List ℕ). before ++ xs) last
      ∙ sym (append_assoc before found new.expected.now)
      ∙ ap (λ (xs : List ℕ). (before ++ xs) ++ new.expected.now) (sym (append-nil found))
      ∙ ap (λ (xs : List ℕ). xs ++ new.expected.now) (sym (hidden-more bytes 0 0 es e)) in
      tells.hidden (passes.before same) ∙ ap (flags_at (length bytes)) all;
})

-- after two more events
pub tells-two : (bytes : List ℕ) (flags : List Bool) (es added : List Event) (first second : Event) (old between new : Hiding) → added ≡ es ++ first ∷ second ∷ [] → Tells bytes flags es old
    → Passes bytes first.kind first.name first.point.index old between → Passes bytes second.kind second.name second.point.index between new → Tells bytes flags added new
tells-two bytes flags es added first second old between new is tells one two =
    tells-more bytes flags (es ++ first ∷ []) added second between new (is ∙ sym (append_assoc es (first ∷ []) (second ∷ []))) (tells-more bytes flags es (es ++ first ∷ []) first old between refl tells one) two

-- ---- A tree that is built of events

pub sink-more : (bytes : List ℕ) (old new : Building HtmlReferences) (e : Event) (before after : Hiding) → new.document ≡ old.document → new.events ≡ old.events ++ e ∷ [] → Passes bytes e.kind e.name e.point.index before after
    → IsTreeOf bytes old before → IsTreeOf bytes new after
sink-more bytes old new e before after same is passes h = record {
  document = same ∙ h.document ∙ ap (λ (d : Given). hiding_document d.hidden bytes) (sym same);
  tells = subst (λ (d : Given). Tells bytes d.hidden new.events after) (sym same) (tells-more bytes old.document.hidden old.events new.events e before after is h.tells passes);
}

pub sink-token : (bytes : List ℕ) (old new : Building HtmlReferences) (first second : Event) (before between after : Hiding) → new.document ≡ old.document → new.events ≡ old.events ++ first ∷ second ∷ []
    → Passes bytes first.kind first.name first.point.index before between → Passes bytes second.kind second.name second.point.index between after → IsTreeOf bytes old before → IsTreeOf bytes new after
sink-token bytes old new first second before between after same is passes then h = record {
  document = same ∙ h.document ∙ ap (λ (d : Given). hiding_document d.hidden bytes) (sym same);
  tells = subst (λ (d : Given). Tells bytes d.hidden new.events after) (sym same) (tells-two bytes old.document.hidden old.events new.events first second before between after is h.tells passes then);
}

-- once all that was expected is hidden, the flags are those of the events
pub all-hidden : (bytes : List ℕ) (flags : List Bool) (events : List Event) (hiding : Hiding) → hiding.differs ≡ false → hiding.expected.now ≡ [] → Tells bytes flags events hiding → flags ≡ hidden bytes events
all-hidden bytes flags events hiding same none tells =
    let found = hidden_from bytes 0 0 events in
    tells.hidden same ∙ ap (flags_at (length bytes)) (ap (λ (xs : List ℕ). found ++ xs) none ∙ append-nil found)
