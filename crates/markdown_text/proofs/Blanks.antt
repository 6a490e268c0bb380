-- White space whose last column is written separately.
use Rattle.std.proofs.Common.{◌≡◌, ◌≤◌, ◌<◌, ◌∙◌, ◌⊎◌, Bool, Err, List, Ok, OnOk, Result, ap, arith, drop, inl, length, refl, subst, sym, true, ℕ}
use Rattle.event_writer.specs.Calls.{CanReach}
use Rattle.event_writer.specs.Stages.{Enclosing, inlines}
use Rattle.markdown_events.specs.declared.event.Name.TheVariants.{SpaceOrTab}
use Rattle.markdown_options.specs.declared.Constructs.{Constructs}
use Rattle.markdown_pieces.specs.Tilings.{Spot, end_from, point}
use Rattle.markdown_pieces.specs.Walks.{Steps}
use Rattle.markdown_pieces.specs.Walks.{at as state}
use Rattle.markdown_pieces.specs.declared.piece.PieceKind.{PieceKind}
use Rattle.markdown_pieces.specs.declared.piece.PieceKind.TheVariants.{BlankLineEnding, BlockQuotePrefix, Enter, Exit, LineEnding, OpeningSequence, Text, Token}
use Rattle.markdown_text.proofs.Parts.{part_none}
use Rattle.markdown_text.specs.AttentionEvents.{is_between_texts}
use Rattle.markdown_text.specs.Contents.{IsLeft, IsPart, left, spot, whole}
use Rattle.markdown_text.specs.Outputs.{Stands, WritesTo, bytes_of, constructs_of, document_of, references_of}
use Rattle.markdown_text.specs.Spans.{IsWithin}
use Rattle.markdown_text.specs.declared.output.Output.{Output}

-- what follows of two things that are true where a call succeeds
pub two_on_ok : {X E P Q S : Type 0} (r : Result X E) → (P → Q → S) → OnOk r P → OnOk r Q → OnOk r S
two_on_ok (Ok x) f p q = f p q
two_on_ok (Err e) f p q = tt

-- what comes between the texts of a content leaves inlines as they are
pub step_between : (k : PieceKind) (h : Bool) (outer : List Enclosing) → is_between_texts k ≡ true → Steps k (state (inlines h) outer) (state (inlines h) outer)
step_between LineEnding h outer is = (refl, refl)
step_between BlockQuotePrefix h outer is = refl
step_between (Token SpaceOrTab) h outer is = (refl, refl)
step_between (Token name) h outer is = absurd (cc is)
step_between (Enter name) h outer is = absurd (cc is)
step_between (Exit name) h outer is = absurd (cc is)
step_between OpeningSequence h outer is = absurd (cc is)
step_between BlankLineEnding h outer is = absurd (cc is)
step_between Text h outer is = absurd (cc is)

-- what can be reached from a spot can be reached from a later one that is not after it
pub reach_later : (bytes : List ℕ) (from mid : Spot) (to vs : ℕ) → CanReach bytes (point from) to vs → from.offset ≤ mid.offset → (mid.offset < to) ⊎ ((mid.offset ≡ to) × (mid.virtual_spaces ≤ vs)) → CanReach bytes (point mid) to vs
reach_later bytes from mid to vs reach order after = record {
  order = after;
  within = reach.within;
  line = λ k low high. reach.line k (omega (arith, low, order)) high;
  tab = reach.tab;
}

-- a content is still written where the cursor moves within the tab that comes next
pub enter_writes : {R S : Type 0} (old new : Output R S) → Stands old → old.writer.value.cursor.index < old.lines.end → document_of new ≡ document_of old → references_of new ≡ references_of old → constructs_of new ≡ constructs_of old → bytes_of new ≡ bytes_of old → new.writer.value.given ≡ old.writer.value.given
    → new.writer.value.cursor.index ≡ old.writer.value.cursor.index → new.lines ≡ old.lines → new.at ≡ old.at → new.«data» ≡ old.at → IsWithin (constructs_of old) new.writer.value → WritesTo old new old.at
enter_writes old new s less document references constructs bytes given index lines at stop within = record {
  goes_on = record {
    stands = record {
      document = ap (λ g. g.bytes) given ∙ s.document ∙ sym document;
      references = ap (λ g. g.references) given ∙ s.references ∙ sym references;
      rest = subst (λ (bs : List ℕ). IsLeft bs (spot new.writer.value.cursor) new.lines.end new.lines.later.now) (sym document) (subst (λ ls. IsLeft (document_of old) (spot new.writer.value.cursor) ls.end ls.later.now) (sym lines) rest);
      bytes = ap (λ (n : ℕ). drop n (bytes_of new)) at ∙ ap (λ (bs : List ℕ). drop old.at bs) bytes ∙ s.bytes ∙ ap (λ (n : ℕ). left (document_of old) n old.lines.end old.lines.later.now) (sym index)
          ∙ ap (λ ls. left (document_of old) new.writer.value.cursor.index ls.end ls.later.now) (sym lines) ∙ ap (λ (bs : List ℕ). left bs new.writer.value.cursor.index new.lines.end new.lines.later.now) (sym document);
      waits = subst (λ (n : ℕ). IsPart (bytes_of new) n new.«data») (sym at) (subst (λ (n : ℕ). IsPart (bytes_of new) old.at n) (sym stop) (subst (λ (bs : List ℕ). IsPart bs old.at old.at) (sym bytes) (part_none (bytes_of old) old.at here s.waits.start)));
      within = subst (λ (c : Constructs). IsWithin c new.writer.value) (sym constructs) within;
    };
    document = document;
    references = references;
    constructs = constructs;
    bytes = bytes;
    end = ap (λ ls. end_from (whole ls.end) ls.later.now) lines;
  };
  at = at;
  data_end = stop;
}
  where
    rest : IsLeft (document_of old) (spot new.writer.value.cursor) old.lines.end old.lines.later.now
    rest = record {
      reach = reach_later (document_of old) (spot old.writer.value.cursor) (spot new.writer.value.cursor) old.lines.end 0 s.rest.reach (omega (arith, index)) (inl (omega (arith, index, less)));
      cut = s.rest.cut;
      lines = s.rest.lines;
      tiles = s.rest.tiles;
    }

    here : old.at ≤ length (bytes_of old)
    here = let order = s.waits.order in let within' = s.waits.within in omega (arith, order, within')
