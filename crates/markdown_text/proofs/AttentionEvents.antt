-- The enters and exits of emphasis, strong emphasis and struck text: what each call adds to them.
use Rattle.std.proofs.Common.{Bool, List, [], ap, append-nil, drop, false, if◌then◌else◌, inl, inr, refl, subst, sym, true, ℕ, ◌++◌, ◌∷◌, ◌∙◌, ◌≡◌, ◌≢◌, ◌⊎◌}
use Rattle.event_writer.specs.Stages.{Enclosing, Stage}
use Rattle.event_writer.specs.Standing.{ShowsFrames}
use Rattle.event_writer.specs.Written.{Written}
use Rattle.markdown_acceptance.specs.Calls.{exit_of}
use Rattle.markdown_acceptance.specs.declared.open_spans.Frame.{Frame}
use Rattle.markdown_attention.specs.declared.delimiter.AttentionKind.{AttentionKind}
use Rattle.markdown_attention.specs.declared.delimiter.AttentionKind.TheVariants.{DoubleStrikethrough, Emphasis, Strikethrough, Strong}
use Rattle.markdown_events.specs.Forest.{enter, exit}
use Rattle.markdown_events.specs.declared.event.Event.{Event}
use Rattle.markdown_events.specs.declared.event.Name.{Name}
use Rattle.markdown_events.specs.declared.event.Name.TheVariants.{AutolinkEmail, AutolinkProtocol, GfmAutolinkLiteralProtocol, GfmAutolinkLiteralWww, GfmTaskListItemValueChecked, GfmTaskListItemValueUnchecked, SpaceOrTab}
use Rattle.markdown_events.specs.declared.event.Point.{Point}
use Rattle.markdown_pieces.specs.Walks.{inside}
use Rattle.markdown_pieces.specs.declared.piece.Piece.{Piece}
use Rattle.markdown_pieces.specs.declared.piece.PieceKind.{PieceKind}
use Rattle.markdown_pieces.specs.declared.piece.PieceKind.TheVariants.{BlankLineEnding, BlockQuotePrefix, Enter, Exit, LineEnding, OpeningSequence, Text, Token}
use Rattle.markdown_text.specs.Addresses.{IsAddressName}
use Rattle.markdown_text.proofs.Contents.{outside}
use Rattle.markdown_text.specs.AttentionEvents.{IsSpotOf, attention_events, is_attention, is_between_texts}
use Rattle.markdown_text.specs.Contents.{IsContent, IsLeft, left, next_place, place_after, spot}
use Rattle.markdown_text.specs.Opens.{group_name, sequence_name, text_name}
use Rattle.markdown_text.specs.Outputs.{WritesTo, bytes_of, content_end, document_of}
use Rattle.markdown_text.specs.RawTexts.{raw_data_name, raw_sequence_name, raw_text_name}
use Rattle.markdown_text.specs.Standings.{IsAt}
use Rattle.markdown_text.specs.declared.content.Place.TheVariants.{AfterText, BeforeText}
use Rattle.markdown_text.specs.declared.output.Output.{Output}
use Rattle.markdown_text.specs.declared.raw_text.RawText.{RawText}
use Rattle.markdown_text.specs.declared.raw_text.RawText.TheVariants.{Code, Math}

-- ---- Events after others

-- theirs come after those of the others
pub attention_append : (es fs : List Event) → attention_events (es ++ fs) ≡ attention_events es ++ attention_events fs
attention_append [] fs = refl
attention_append (e ∷ es) fs = by (is_attention e.name) (attention_append es fs)
  where
    by : (b : Bool) → attention_events (es ++ fs) ≡ attention_events es ++ attention_events fs
        → (if b then e ∷ attention_events (es ++ fs) else attention_events (es ++ fs)) ≡ (if b then e ∷ attention_events es else attention_events es) ++ attention_events fs
    by true later = ap (λ (xs : List Event). e ∷ xs) later
    by false later = later

-- an event of this name is left out
left_out : (e : Event) (es : List Event) → is_attention e.name ≡ false → attention_events (e ∷ es) ≡ attention_events es
left_out e es other = (λ i. if other i then e ∷ attention_events es else attention_events es)

-- an event of this name is kept
kept : (e : Event) → is_attention e.name ≡ true → attention_events (e ∷ []) ≡ e ∷ []
kept e is = (λ i. if is i then e ∷ [] else [])

-- more events, by what they add
added : (old new es fs : List Event) → new ≡ old ++ es → attention_events es ≡ fs → attention_events new ≡ attention_events old ++ fs
added old new es fs events adds = ap attention_events events ∙ attention_append old es ∙ ap (λ (xs : List Event). attention_events old ++ xs) adds

-- they add nothing
unchanged : (old new es : List Event) → new ≡ old ++ es → attention_events es ≡ [] → attention_events new ≡ attention_events old
unchanged old new es events none = added old new es [] events none ∙ append-nil (attention_events old)

-- ---- Calls

-- a span has begun
pub begun_other : (old new : List Event) (name : Name) (point : Point) → is_attention name ≡ false → new ≡ old ++ enter name point ∷ [] → attention_events new ≡ attention_events old
begun_other old new name point other events = unchanged old new (enter name point ∷ []) events (left_out (enter name point) [] other)

pub begun_attention : (old new : List Event) (name : Name) (point : Point) → is_attention name ≡ true → new ≡ old ++ enter name point ∷ [] → attention_events new ≡ attention_events old ++ enter name point ∷ []
begun_attention old new name point is events = added old new (enter name point ∷ []) (enter name point ∷ []) events (kept (enter name point) is)

-- a token has been written
pub written_other : (old new : List Event) (name : Name) (start end : Point) → is_attention name ≡ false → new ≡ old ++ enter name start ∷ exit name end ∷ [] → attention_events new ≡ attention_events old
written_other old new name start end other events =
    unchanged old new (enter name start ∷ exit name end ∷ []) events (left_out (enter name start) (exit name end ∷ []) other ∙ left_out (exit name end) [] other)

-- the exit of the innermost span, where its name is known
exit_by : (from : Point → Type 0) (e : Enclosing) (es : List Enclosing) (end : Point) (frames : List Frame) → ShowsFrames from (e ∷ es) frames → (elim frames as (λ _. List Event) [ [] ↦ [] | f ∷ _ ↦ exit f.name end ∷ [] ]) ≡ exit e.name end ∷ []
exit_by from e es end [] shows = absurd shows
exit_by from e es end (f ∷ fs) shows = ap (λ (n : Name). exit n end ∷ []) (shows.0).name

exit_named : {R : Type 0} (w : Written R) (own a : Stage) (name : Name) (outer : List Enclosing) (end : Point) → IsAt w own (inside name a outer) → exit_of w.spans end ≡ exit name end ∷ []
exit_named w own a name outer end at = exit_by _ _ outer end w.spans.frames (at.shows).frames

-- it has ended
pub ended_other : {R : Type 0} (old : Written R) (new : List Event) (own a : Stage) (name : Name) (outer : List Enclosing) → IsAt old own (inside name a outer) → is_attention name ≡ false → new ≡ old.events ++ exit_of old.spans old.cursor → attention_events new ≡ attention_events old.events
ended_other old new own a name outer at other events =
    let end = old.cursor in
    unchanged old.events new (exit_of old.spans end) events (ap attention_events (exit_named old own a name outer end at) ∙ left_out (exit name end) [] other)

pub ended_attention : {R : Type 0} (old : Written R) (new : List Event) (own a : Stage) (name : Name) (outer : List Enclosing) → IsAt old own (inside name a outer) → is_attention name ≡ true → new ≡ old.events ++ exit_of old.spans old.cursor → attention_events new ≡ attention_events old.events ++ exit name old.cursor ∷ []
ended_attention old new own a name outer at is events =
    let end = old.cursor in
    added old.events new (exit_of old.spans end) (exit name end ∷ []) events (ap attention_events (exit_named old own a name outer end at) ∙ kept (exit name end) is)

-- ---- Pieces

-- before a text of a content stand such pieces as stand between its texts
before_text : (k : PieceKind) (ps : List Piece) → place_after (next_place BeforeText k) ps ≡ AfterText → k ≢ Text → is_between_texts k ≡ true
before_text (Enter name) ps h other = absurd (cc (outside ps))
before_text (Exit name) ps h other = absurd (cc (outside ps))
before_text (Token SpaceOrTab) ps h other = refl
before_text (Token name) ps h other = absurd (cc (outside ps))
before_text OpeningSequence ps h other = absurd (cc (outside ps))
before_text LineEnding ps h other = refl
before_text BlankLineEnding ps h other = absurd (cc (outside ps))
before_text Text ps h other = absurd (other refl)
before_text BlockQuotePrefix ps h other = refl

pub between_texts : (p : Piece) (ps : List Piece) → IsContent (p ∷ ps) → p.kind ≢ Text → is_between_texts p.kind ≡ true
between_texts p ps h other = before_text p.kind ps h other

-- a token among them is white space
pub token_other : (name : Name) → is_between_texts (Token name) ≡ true → is_attention name ≡ false
token_other SpaceOrTab is = refl
token_other name is = absurd (cc is)

-- ---- Spots

-- the next event of a content stands where what is left of it begins
pub at_spot : {R S : Type 0} (old new : Output R S) (offset : ℕ) → WritesTo old new offset → IsSpotOf (document_of old) (bytes_of old) (content_end old) offset (spot new.writer.value.cursor)
at_spot old new offset w =
    let s = w.goes_on.stands in
    let end = new.lines.end in
    let later = new.lines.later.now in
    let document = w.goes_on.document in
    record {
      end = end;
      later = later;
      rest = subst (λ (d : List ℕ). IsLeft d (spot new.writer.value.cursor) end later) document s.rest;
      same = ap (λ (n : ℕ). drop n (bytes_of old)) (sym w.at) ∙ ap (λ (bs : List ℕ). drop new.at bs) (sym w.goes_on.bytes) ∙ s.bytes ∙ ap (λ (d : List ℕ). left d new.writer.value.cursor.index end later) document;
      stops = w.goes_on.end;
    }

-- ---- Names

-- a name by other words
pub as_named : (name same : Name) (b : Bool) → name ≡ same → is_attention same ≡ b → is_attention name ≡ b
as_named name same b is h = ap is_attention is ∙ h

-- that of a raw text, of a sequence at its end, of what its lines have
pub raw_other : (r : RawText) → is_attention (raw_text_name r) ≡ false
raw_other Code = refl
raw_other Math = refl

pub raw_sequence_other : (r : RawText) → is_attention (raw_sequence_name r) ≡ false
raw_sequence_other Code = refl
raw_sequence_other Math = refl

pub raw_data_other : (r : RawText) → is_attention (raw_data_name r) ≡ false
raw_data_other Code = refl
raw_data_other Math = refl

-- that of an address in angle brackets, of one that is found in data, of an autolink literal
pub autolink_other : (name : Name) → (name ≡ AutolinkProtocol) ⊎ (name ≡ AutolinkEmail) → is_attention name ≡ false
autolink_other name (inl is) = ap is_attention is
autolink_other name (inr is) = ap is_attention is

pub address_other : (name : Name) → IsAddressName name → is_attention name ≡ false
address_other name (inl is) = ap is_attention is
address_other name (inr (inl is)) = ap is_attention is
address_other name (inr (inr is)) = ap is_attention is

pub literal_other : (name : Name) → (name ≡ GfmAutolinkLiteralProtocol) ⊎ (name ≡ GfmAutolinkLiteralWww) → is_attention name ≡ false
literal_other name (inl is) = ap is_attention is
literal_other name (inr is) = ap is_attention is

-- that of the value of a mark of a task
pub value_other : (name : Name) → (name ≡ GfmTaskListItemValueChecked) ⊎ (name ≡ GfmTaskListItemValueUnchecked) → is_attention name ≡ false
value_other name (inl is) = ap is_attention is
value_other name (inr is) = ap is_attention is

-- of the spans of attention it is the outermost alone
pub group_is : (k : AttentionKind) → is_attention (group_name k) ≡ true
group_is Emphasis = refl
group_is Strong = refl
group_is Strikethrough = refl
group_is DoubleStrikethrough = refl

pub sequence_other : (k : AttentionKind) → is_attention (sequence_name k) ≡ false
sequence_other Emphasis = refl
sequence_other Strong = refl
sequence_other Strikethrough = refl
sequence_other DoubleStrikethrough = refl

pub text_other : (k : AttentionKind) → is_attention (text_name k) ≡ false
text_other Emphasis = refl
text_other Strong = refl
text_other Strikethrough = refl
text_other DoubleStrikethrough = refl
