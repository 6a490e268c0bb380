-- Contents as they are written: the output follows the pieces, and is at a stage that the grammar accepts.
use Rattle.std.specs.Prelude.{Bool, List, None, OnOk, Option, Result, Some, drop, false, is_some, if◌then◌else◌, slice_range, true, ℕ, ◌≡◌}
use Rattle.event_writer.specs.Stages.{Enclosing, Stage, character_reference_value, exited, in_part, inlines, skips, takes_line_endings, task, written}
use Rattle.event_writer.specs.Written.{Written}
use Rattle.markdown_events.specs.Names.{role_of}
use Rattle.markdown_events.specs.declared.event.Name.{Name}
use Rattle.markdown_events.specs.declared.role.ItemKind.TheVariants.{Part as part}
use Rattle.markdown_events.specs.declared.role.Part.{Part}
use Rattle.markdown_events.specs.declared.role.Part.TheVariants as parts
use Rattle.markdown_events.specs.declared.role.Role.{Role}
use Rattle.markdown_events.specs.declared.role.Role.TheVariants.{Significant as significant}
use Rattle.markdown_options.specs.declared.Constructs.{Constructs}
use Rattle.markdown_pieces.specs.Tilings.{Spot, end_from}
use Rattle.markdown_text.specs.Contents.{IsLeft, IsPart, left, spot, whole}
use Rattle.markdown_text.specs.Spans.{IsWithin}
use Rattle.markdown_text.specs.Standings.{IsAt, StandsIn}
use Rattle.markdown_text.specs.Texts.{text_of}
use Rattle.markdown_text.specs.Tokens.{Text}
use Rattle.markdown_text.specs.declared.output.Next.{Next}
use Rattle.markdown_text.specs.declared.output.Next.TheVariants as next
use Rattle.markdown_text.specs.declared.output.Output.{Output}

-- the document of a content
abbrev pub document_of : {R S : Type 0} → Output R S → List ℕ
document_of output = output.source.now.reading.now.document.now

-- the bytes of the content
abbrev pub bytes_of : {R S : Type 0} → Output R S → List ℕ
bytes_of output = output.source.now.bytes.now

-- the references that the document is read with
abbrev pub references_of : {R S : Type 0} → Output R S → R
references_of output = output.source.now.reading.now.references.now

-- the constructs that the document is read with
abbrev pub constructs_of : {R S : Type 0} → Output R S → Constructs
constructs_of output = output.source.now.reading.now.options.constructs

-- the content as a text that is read with a decoder; the flag says whether it may begin with a task mark
abbrev pub as_text : {R S : Type 0} → Output R S → (List ℕ → ℕ → Option (List ℕ)) → Bool → Text
as_text output decode may_be_task = text_of (bytes_of output) decode may_be_task

-- the end of the content in the document
abbrev pub content_end : {R S : Type 0} → Output R S → Spot
content_end output = end_from (whole output.lines.end) output.lines.later.now

-- the unwritten bytes are those of the remaining pieces, the pending data is within a line, and the constructs of the output are on
pub record Stands {R S : Type 0} (output : Output R S) : Type 0 where
  pub document : output.writer.value.given.bytes ≡ document_of output
  pub references : output.writer.value.given.references ≡ references_of output
  pub rest : IsLeft (document_of output) (spot output.writer.value.cursor) output.lines.end output.lines.later.now
  pub bytes : drop output.at (bytes_of output) ≡ left (document_of output) output.writer.value.cursor.index output.lines.end output.lines.later.now
  pub waits : IsPart (bytes_of output) output.at output.data
  pub within : IsWithin (constructs_of output) output.writer.value

-- the same content is still being written
pub record GoesOn {R S : Type 0} (old new : Output R S) : Type 0 where
  pub stands : Stands new
  pub document : document_of new ≡ document_of old
  pub references : references_of new ≡ references_of old
  pub constructs : constructs_of new ≡ constructs_of old
  pub bytes : bytes_of new ≡ bytes_of old
  pub end : content_end new ≡ content_end old

-- the content is written up to an offset
pub record WritesTo {R S : Type 0} (old new : Output R S) (to : ℕ) : Type 0 where
  pub goes_on : GoesOn old new
  pub at : new.at ≡ to
  pub data_end : new.data ≡ to

-- ---- Inlines

-- inlines may come, and no break is pending
pub record AtInlines {R S : Type 0} (output : Output R S) : Type 0 where
  pub in_heading : Bool
  pub outer : List Enclosing
  pub at : IsAt output.writer.value (inlines in_heading) outer

-- a content begins; the first flag says whether a task mark may come there
abbrev pub IsAtText : {R : Type 0} → Bool → Written R → Bool → List Enclosing → Type 0
IsAtText true w h outer = (h ≡ false) × IsAt w task outer
IsAtText false w h outer = IsAt w (inlines h) outer

-- a content begins, inside inlines with some flag and some spans
pub record BeginsText {R : Type 0} (is_task : Bool) (w : Written R) : Type 0 where
  pub in_heading : Bool
  pub outer : List Enclosing
  pub at : IsAtText is_task w in_heading outer

-- a call among inlines keeps their stage, unless it fails
abbrev pub KeepsInlines : {R S V E : Type 0} → Result V E → Output R S → Output R S → Type 0
KeepsInlines result old new = (h : Bool) → (outer : List Enclosing) → IsAt old.writer.value (inlines h) outer → OnOk result (IsAt new.writer.value (inlines h) outer)

-- pending data is written before what comes next; before a line ending, a break may then be pending
abbrev pub IsFlushed : {R S : Type 0} → Next → Output R S → Stage → List Enclosing → Type 0
IsFlushed next.LineEnding output a outer = (waits : Bool) × StandsIn waits output.writer.value a outer
IsFlushed next.Span output a outer = IsAt output.writer.value a outer
IsFlushed next.End output a outer = IsAt output.writer.value a outer

-- a content is being written at this stage
pub record AtStage {R S : Type 0} (output : Output R S) (a : Stage) : Type 0 where
  pub outer : List Enclosing
  pub at : IsAt output.writer.value a outer

-- a call leads from one stage to another, unless it fails
abbrev pub Leads : {R S V E : Type 0} → Result V E → Stage → Stage → Output R S → Output R S → Type 0
Leads result a b old new = (outer : List Enclosing) → IsAt old.writer.value a outer → OnOk result (IsAt new.writer.value b outer)

-- ---- Tokens and strings

-- only the text of a token with this role is read
abbrev pub is_plain : Role → Bool
is_plain (significant (part parts.HeadingAtxSequence)) = false
is_plain (significant (part parts.HeadingSetextUnderlineSequence)) = false
is_plain (significant (part parts.ListItemValue)) = false
is_plain (significant (part parts.CharacterReferenceValue)) = false
is_plain _ = true

-- the stage after such a token
abbrev pub after_plain : Stage → Name → Option Stage
after_plain a name = if is_plain (role_of name) then written a (role_of name) else None

-- such a token may be written
pub record MayPut {R S : Type 0} (output : Output R S) (name : Name) : Type 0 where
  pub stage : Stage
  pub outer : List Enclosing
  pub at : IsAt output.writer.value stage outer
  pub may : is_some (after_plain stage name) ≡ true

-- such tokens may be written one after another
pub record MayFill {R S : Type 0} (output : Output R S) (name : Name) : Type 0 where
  pub stage : Stage
  pub outer : List Enclosing
  pub at : IsAt output.writer.value stage outer
  pub keeps : after_plain stage name ≡ Some stage

-- such tokens may be written one after another, with line endings between them
pub record MayFillLines {R S : Type 0} (output : Output R S) (name : Name) : Type 0 where
  pub stage : Stage
  pub outer : List Enclosing
  pub at : IsAt output.writer.value stage outer
  pub keeps : after_plain stage name ≡ Some stage
  pub ends : takes_line_endings stage ≡ true

-- the value of a character reference may be written, and the decoder knows it
pub record MayDecode {R S : Type 0} (decode : List ℕ → ℕ → Option (List ℕ)) (output : Output R S) (end : ℕ) : Type 0 where
  pub marker : ℕ
  pub outer : List Enclosing
  pub at : IsAt output.writer.value (character_reference_value marker) outer
  pub known : is_some (decode (slice_range (bytes_of output) output.at end) marker) ≡ true

-- the stage after a part with a string in it, if the part may also be left out
abbrev pub after_inlines : Stage → Part → Option Stage → Option Stage
after_inlines a p (Some (inlines false)) = exited (inlines false) a (significant (part p))
after_inlines a p _ = None

abbrev pub if_skips : Stage → Option Stage → Option Stage
if_skips a None = None
if_skips a (Some b) = if skips a b then Some b else None

abbrev pub after_string_in : Stage → Role → Option Stage
after_string_in a (significant (part p)) = if_skips a (after_inlines a p (in_part a p))
after_string_in a _ = None

abbrev pub after_string : Stage → Name → Option Stage
after_string a name = after_string_in a (role_of name)

-- such a part may be written
pub record MayWriteString {R S : Type 0} (output : Output R S) (name : Name) : Type 0 where
  pub stage : Stage
  pub outer : List Enclosing
  pub at : IsAt output.writer.value stage outer
  pub may : is_some (after_string stage name) ≡ true
