-- The conditions of the second pass over a text on what the first pass finds.
use Rattle.std.specs.Prelude.{Bool, List, None, Option, Some, [], false, is_some, length, slice_get, slice_index, slice_range, true, ℕ, ◌+◌, ◌-◌, ◌<◌, ◌∷◌, ◌≡◌, ◌≤◌, ◌⊎◌}
use Rattle.commonmark_syntax.specs.Cuts.{IsCut}
use Rattle.commonmark_syntax.specs.Inlines.{email_autolink, uri_autolink}
use Rattle.commonmark_syntax.specs.Language.{IsNotAt, Leaves}
use Rattle.markdown_events.specs.declared.event.Name.{Name}
use Rattle.markdown_events.specs.declared.event.Name.TheVariants.{AutolinkEmail, AutolinkProtocol, GfmAutolinkLiteralProtocol, GfmAutolinkLiteralWww}
use Rattle.markdown_text.specs.Constructs.{IsMarker}
use Rattle.markdown_text.specs.Contents.{IsAsciiPart, IsPart, IsRange}
use Rattle.markdown_text.specs.declared.character_reference.ReferenceKind.{ReferenceKind}
use Rattle.markdown_text.specs.declared.character_reference.ReferenceKind.TheVariants.{Decimal, Hexadecimal, Named}
use Rattle.markdown_text.specs.declared.resource.Resource.{Resource}
use Rattle.markdown_text.specs.declared.token.Labelled.{Labelled}
use Rattle.markdown_text.specs.declared.token.Labelled.TheVariants.{FootnoteCall, Image, Link}
use Rattle.markdown_text.specs.declared.token.Target.{Target}
use Rattle.markdown_text.specs.declared.token.Target.TheVariants.{Collapsed, Full, Shortcut, Resource as InResource}
use Rattle.markdown_text.specs.declared.token.Token.{Token}
use Rattle.markdown_text.specs.declared.token.TokenKind.{TokenKind}
use Rattle.markdown_text.specs.declared.token.TokenKind.TheVariants.{Attention, Autolink, AutolinkLiteral, CharacterEscape, CharacterReference, CodeText, HardBreakEscape, HtmlText, LabelEnd, LabelStart, LineEnding, MathText, TaskListItemCheck}

-- a text that is read: its bytes, the decoder for the values of character references, and whether it may begin with a task mark
pub record Text : Type 0 where
  pub bytes : List ℕ
  pub decode : List ℕ → ℕ → Option (List ℕ)
  pub may_be_task : Bool

-- the number of bytes before the value of a character reference, and the byte that tells a decoder its kind
abbrev pub markers : ReferenceKind → ℕ
markers Named = 1
markers Decimal = 2
markers Hexadecimal = 3

abbrev pub marker : ReferenceKind → ℕ
marker Named = 38
marker Decimal = 35
marker Hexadecimal = 120

-- the number of bytes that are written at the start of a label
abbrev pub label_start : Labelled → ℕ
label_start Link = 1
label_start Image = 2
label_start FootnoteCall = 2

-- whether a target comes after the label
abbrev pub has_target : Labelled → Bool
has_target Link = true
has_target Image = true
has_target FootnoteCall = false

-- a part of a text begins and ends with this many bytes, each time within a line
pub record IsEnclosed (bytes : List ℕ) (size from to : ℕ) : Type 0 where
  pub order : from + size ≤ to - size
  pub opening : IsPart bytes from (from + size)
  pub closing : IsPart bytes (to - size) to

-- a character reference: ASCII, with a value that the decoder knows between its markers and its last byte
pub record IsReference (text : Text) (kind : ReferenceKind) (from to : ℕ) : Type 0 where
  pub ascii : IsAsciiPart text.bytes from to
  pub filled : from + markers kind + 1 < to
  pub known : is_some (text.decode (slice_range text.bytes (from + markers kind) (to - 1)) (marker kind)) ≡ true

-- an autolink at the start of a text, by the kind of its address, and what is left after it
abbrev pub LeavesAutolink : List ℕ → Option TokenKind → List ℕ → Type 0
LeavesAutolink s kind t =
    ((kind ≡ Some (Autolink AutolinkProtocol)) × Leaves uri_autolink s t)
    ⊎ ((kind ≡ Some (Autolink AutolinkEmail)) × IsNotAt uri_autolink s × Leaves email_autolink s t)

-- an autolink: an address that is not empty, with one byte on either side, within a line
pub record IsAutolink (bytes : List ℕ) (name : Name) (from to : ℕ) : Type 0 where
  pub part : IsPart bytes from to
  pub marks : IsEnclosed bytes 1 from to
  pub filled : from + 2 < to
  pub named : (name ≡ AutolinkProtocol) ⊎ (name ≡ AutolinkEmail)

-- a destination is within a line; if it begins with an angle bracket, it has another byte at its end
pub record IsDestination (bytes : List ℕ) (from to : ℕ) : Type 0 where
  pub part : IsPart bytes from to
  pub enclosed : from < to → slice_index bytes from ≡ 60 → IsEnclosed bytes 1 from to

-- the parts of a resource come one after another and fill it, with one byte on either side
pub record IsResource (bytes : List ℕ) (r : Resource) (from to : ℕ) : Type 0 where
  pub size : 1 + r.before + r.destination + r.between + r.title + r.after + 1 ≡ r.size
  pub whole : from + r.size ≡ to
  pub marks : IsEnclosed bytes 1 from to
  pub destination : IsDestination bytes (from + (1 + r.before)) (from + (1 + r.before) + r.destination)
  pub between : IsCut bytes (from + (1 + r.before + r.destination + r.between))
  pub title : 0 < r.title → IsEnclosed bytes 1 (from + (1 + r.before + r.destination + r.between)) (from + (1 + r.before + r.destination + r.between) + r.title)

-- the condition on what comes after a label, from one offset to another
abbrev pub IsTarget : List ℕ → Target → ℕ → ℕ → Type 0
IsTarget bytes Shortcut from to = from ≡ to
IsTarget bytes Collapsed from to = IsEnclosed bytes 1 from to
IsTarget bytes Full from to = IsEnclosed bytes 1 from to
IsTarget bytes (InResource resource) from to = IsResource bytes resource from to

-- the condition on what comes after the label of a link or an image; nothing comes after that of a footnote call
abbrev pub IsAfterLabel : List ℕ → Labelled → Target → ℕ → ℕ → Type 0
IsAfterLabel bytes FootnoteCall target from to = (target ≡ Shortcut) × (from ≡ to)
IsAfterLabel bytes Link target from to = IsTarget bytes target from to
IsAfterLabel bytes Image target from to = IsTarget bytes target from to

-- the start of a label; if it is known what the label belongs to, it has enough bytes for that
abbrev pub IsLabelStart : Option Labelled → ℕ → ℕ → Type 0
IsLabelStart None from to = Unit {0}
IsLabelStart (Some label) from to = from + label_start label ≤ to

-- a byte that begins the start of a label
abbrev pub BeginsLabel : ℕ → Type 0
BeginsLabel byte = (byte ≡ 33) ⊎ (byte ≡ 91)

-- the condition on a token of this kind, from one offset to another
abbrev pub IsToken : Text → TokenKind → ℕ → ℕ → Type 0
IsToken text LineEnding from to = (to ≡ from + 1) × (slice_get text.bytes from ≡ Some 10)
IsToken text HardBreakEscape from to = IsAsciiPart text.bytes from (from + 1) × (to ≡ from + 2) × (slice_get text.bytes (from + 1) ≡ Some 10)
IsToken text CharacterEscape from to = IsAsciiPart text.bytes from to × (to ≡ from + 2)
IsToken text (CharacterReference kind) from to = IsReference text kind from to
IsToken text (CodeText size) from to = (0 < size) × IsEnclosed text.bytes size from to
IsToken text (MathText size) from to = (0 < size) × IsEnclosed text.bytes size from to
IsToken text (Autolink name) from to = IsAutolink text.bytes name from to
IsToken text HtmlText from to = IsRange text.bytes from to
IsToken text (AutolinkLiteral name) from to = IsPart text.bytes from to × ((name ≡ GfmAutolinkLiteralProtocol) ⊎ (name ≡ GfmAutolinkLiteralWww))
IsToken text Attention from to = IsAsciiPart text.bytes from to × IsMarker (slice_index text.bytes from)
IsToken text (LabelStart label) from to = IsAsciiPart text.bytes from to × IsLabelStart label from to × BeginsLabel (slice_index text.bytes from)
IsToken text (LabelEnd label target) from to = IsPart text.bytes from (from + 1) × IsAfterLabel text.bytes label target (from + 1) to × IsRange text.bytes (from + 1) to × (slice_index text.bytes from ≡ 93)
IsToken text (TaskListItemCheck is_checked) from to = (text.may_be_task ≡ true) × (from ≡ 0) × (to ≡ 3) × IsRange text.bytes 0 3 × ((k : ℕ) → k < 3 → slice_index text.bytes k < 128) × IsEnclosed text.bytes 1 0 3

-- the condition on a construct that was found, or on data
abbrev pub IsFound : Text → Option TokenKind → ℕ → ℕ → Type 0
IsFound text None from to = IsPart text.bytes from to
IsFound text (Some kind) from to = IsToken text kind from to

-- a kind of token that may be found in a string, or data
abbrev pub IsOfString : Option TokenKind → Type 0
IsOfString None = Unit {0}
IsOfString (Some LineEnding) = Unit {0}
IsOfString (Some CharacterEscape) = Unit {0}
IsOfString (Some (CharacterReference kind)) = Unit {0}
IsOfString _ = ⊥

-- tokens in order, from an offset on: before each of them, and after the last, there is data within a line
abbrev pub AreTokens : Text → ℕ → List Token → Type 0
AreTokens text from [] = IsPart text.bytes from (length text.bytes)
AreTokens text from (t ∷ ts) = IsPart text.bytes from t.start × IsToken text t.kind t.start t.end × AreTokens text t.end ts
