-- The constructs of a text that are open, and the spans around what comes next.
use Rattle.std.specs.Prelude.{Bool, List, OnOk, Result, [], false, ◌∷◌}
use Rattle.event_writer.specs.Stages.{Enclosing, Stage, footnote_call, inlines, media, media_target, nothing}
use Rattle.markdown_events.specs.declared.event.Name.{Name}
use Rattle.markdown_events.specs.declared.event.Name.TheVariants as names
use Rattle.markdown_pieces.specs.Walks.{inside}
use Rattle.markdown_attention.specs.declared.delimiter.AttentionKind.{AttentionKind}
use Rattle.markdown_attention.specs.declared.delimiter.AttentionKind.TheVariants.{DoubleStrikethrough, Emphasis, Strikethrough, Strong}
use Rattle.markdown_text.specs.Standings.{IsAt}
use Rattle.markdown_text.specs.declared.output.Output.{Output}
use Rattle.markdown_text.specs.declared.text.Open.{Open}
use Rattle.markdown_text.specs.declared.text.Open.TheVariants.{Attention, Label}
use Rattle.markdown_text.specs.declared.token.Labelled.{Labelled}
use Rattle.markdown_text.specs.declared.token.Labelled.TheVariants.{FootnoteCall, Image, Link}

-- the names of the spans of attention: the whole, the text between the sequences, and a sequence
abbrev pub group_name : AttentionKind → Name
group_name Emphasis = names.Emphasis
group_name Strong = names.Strong
group_name Strikethrough = names.GfmStrikethrough
group_name DoubleStrikethrough = names.GfmStrikethrough

abbrev pub text_name : AttentionKind → Name
text_name Emphasis = names.EmphasisText
text_name Strong = names.StrongText
text_name Strikethrough = names.GfmStrikethroughText
text_name DoubleStrikethrough = names.GfmStrikethroughText

abbrev pub sequence_name : AttentionKind → Name
sequence_name Emphasis = names.EmphasisSequence
sequence_name Strong = names.StrongSequence
sequence_name Strikethrough = names.GfmStrikethroughSequence
sequence_name DoubleStrikethrough = names.GfmStrikethroughSequence

-- the name of the span that a label belongs to, and that of the span of the markers that begin the label
abbrev pub labelled_name : Labelled → Name
labelled_name Link = names.Link
labelled_name Image = names.Image
labelled_name FootnoteCall = names.GfmFootnoteCall

abbrev pub label_start_name : Labelled → Name
label_start_name Link = names.LabelLink
label_start_name Image = names.LabelImage
label_start_name FootnoteCall = names.GfmFootnoteCallLabel

-- the stage in what a label belongs to, before the text of the label
abbrev pub label_stage : Labelled → Stage
label_stage Link = media
label_stage Image = media
label_stage FootnoteCall = footnote_call

-- the spans around the contents of a label, and around the markers that begin it; `h` and `outer` are the flag of the inlines
-- and the spans where what the label belongs to began
abbrev pub in_label : Labelled → Bool → List Enclosing → List Enclosing
in_label labelled h outer = inside names.Label (label_stage labelled) (inside (labelled_name labelled) (inlines h) outer)

abbrev pub in_label_start : Labelled → Bool → List Enclosing → List Enclosing
in_label_start labelled h outer = inside (label_start_name labelled) (label_stage labelled) (in_label labelled h outer)

-- the spans around the text of an open construct, from the flag of the inlines and the spans where it began
abbrev pub opened : Open → Bool → List Enclosing → List Enclosing
opened (Attention kind) h outer = inside (text_name kind) (inlines false) (inside (group_name kind) (inlines h) outer)
opened (Label labelled) h outer = inside names.LabelText (label_stage labelled) (in_label labelled h outer)

-- the spans around what comes next in nested open constructs, the outermost first
abbrev pub outer_of : List Open → Bool → List Enclosing → List Enclosing
outer_of [] h outer = outer
outer_of (o ∷ os) h outer = outer_of os false (opened o h outer)

-- the flag of the inlines in nested open constructs
abbrev pub flag_of : List Open → Bool → Bool
flag_of [] h = h
flag_of (o ∷ os) h = false

-- a content is being written with these constructs open, inside inlines with this flag and these spans
abbrev pub HasOpen : {R S : Type 0} → Output R S → List Open → Bool → List Enclosing → Type 0
HasOpen output os h outer = IsAt output.writer.value (inlines (flag_of os h)) (outer_of os h outer)

-- a content is being written with these constructs open
pub record AtOpen {R S : Type 0} (output : Output R S) (os : List Open) : Type 0 where
  pub in_heading : Bool
  pub outer : List Enclosing
  pub at : HasOpen output os in_heading outer

-- a call leads from these open constructs to those, unless it fails
abbrev pub KeepsOpen : {R S V E : Type 0} → Result V E → Output R S → Output R S → List Open → List Open → Type 0
KeepsOpen result old new before after = (h : Bool) → (outer : List Enclosing) → HasOpen old before h outer → OnOk result (HasOpen new after h outer)

-- this construct is the innermost open one
pub record AtOpened {R S : Type 0} (output : Output R S) (o : Open) : Type 0 where
  pub in_heading : Bool
  pub outer : List Enclosing
  pub at : IsAt output.writer.value (inlines false) (opened o in_heading outer)

-- a call among inlines begins a label, unless it fails
abbrev pub BeginsLabel : {R S V E : Type 0} → Result V E → Labelled → Output R S → Output R S → Type 0
BeginsLabel result labelled old new = (h : Bool) → (outer : List Enclosing) → IsAt old.writer.value (inlines h) outer → OnOk result (IsAt new.writer.value (label_stage labelled) (in_label labelled h outer))

-- the stage after the text of a label
abbrev pub label_end_stage : Labelled → Stage
label_end_stage Link = media_target
label_end_stage Image = media_target
label_end_stage FootnoteCall = nothing

-- the text of a label has ended
abbrev pub IsAtLabelEnd : {R S : Type 0} → Output R S → Labelled → Bool → List Enclosing → Type 0
IsAtLabelEnd output labelled h outer = IsAt output.writer.value (label_end_stage labelled) (in_label labelled h outer)

-- the text of a label has ended, inside inlines with some flag and some spans
pub record AtLabelEnd {R S : Type 0} (output : Output R S) (labelled : Labelled) : Type 0 where
  pub in_heading : Bool
  pub outer : List Enclosing
  pub at : IsAtLabelEnd output labelled in_heading outer

-- a call ends the label, and in the second definition also what the label belongs to, unless it fails
abbrev pub LeavesLabel : {R S V E : Type 0} → Result V E → Labelled → Output R S → Output R S → Type 0
LeavesLabel result labelled old new = (h : Bool) → (outer : List Enclosing) → IsAtLabelEnd old labelled h outer → OnOk result (IsAt new.writer.value (label_end_stage labelled) (inside (labelled_name labelled) (inlines h) outer))

abbrev pub EndsLabel : {R S V E : Type 0} → Result V E → Labelled → Output R S → Output R S → Type 0
EndsLabel result labelled old new = (h : Bool) → (outer : List Enclosing) → IsAtLabelEnd old labelled h outer → OnOk result (IsAt new.writer.value (inlines h) outer)
