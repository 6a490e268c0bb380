-- Pieces that tile a document: each begins where the one before it ends.
use Rattle.std.specs.Prelude.{List, Some, [], length, slice_range, take, true, ℕ, ◌+◌, ◌-◌, ◌<◌, ◌∷◌, ◌≡◌}
use Rattle.commonmark_syntax.specs.Cuts.{IsCut}
use Rattle.event_writer.specs.Calls.{CanReach, EndsLine, line_ending_length}
use Rattle.markdown_events.specs.declared.event.Name.{Name}
use Rattle.markdown_events.specs.declared.event.Name.TheVariants.{ByteOrderMark, CharacterReferenceValue, Frontmatter, HeadingSetextUnderlineSequence, ListItemValue}
use Rattle.markdown_grammar.specs.Document.{is_depth, is_item_number}
use Rattle.markdown_events.specs.declared.event.Point.{Point}
use Rattle.markdown_pieces.specs.declared.piece.Piece.{Piece}
use Rattle.markdown_pieces.specs.declared.piece.PieceKind.{PieceKind}
use Rattle.markdown_pieces.specs.declared.piece.PieceKind.TheVariants.{BlankLineEnding, BlockQuotePrefix, Enter, Exit, LineEnding, OpeningSequence, Text, Token}

-- a place between two pieces: an offset, and a number of columns into the tab there
pub record Spot : Type 0 where
  pub offset : ℕ
  pub virtual_spaces : ℕ

-- the start of a document
abbrev pub origin : Spot
origin = record { offset = 0; virtual_spaces = 0 }

-- a point at a spot; pieces say nothing about lines and columns
abbrev pub point : Spot → Point
point a = record { line = 1; column = 1; index = a.offset; vs = a.virtual_spaces }

-- the end of a piece
abbrev pub end_of : Piece → Spot
end_of p = record { offset = p.end; virtual_spaces = p.virtual_spaces }

-- a span with this name may begin at a spot; frontmatter needs a byte there
abbrev pub MayBegin : List ℕ → Name → Spot → Type 0
MayBegin bytes Frontmatter a = a.offset < length bytes
MayBegin bytes _ a = Unit {0}

-- a token with this name ends at the end of a character; a byte order mark ends after its three bytes, whatever comes next
abbrev pub EndsCharacter : List ℕ → Name → ℕ → Type 0
EndsCharacter bytes ByteOrderMark i = take i bytes ≡ 239 ∷ 187 ∷ 191 ∷ []
EndsCharacter bytes _ i = IsCut bytes i

-- the value of a token with this name, if it is read, can be read
abbrev pub HasValue : List ℕ → Name → Spot → Spot → Type 0
HasValue bytes ListItemValue a b = (a.virtual_spaces ≡ 0) × (b.virtual_spaces ≡ 0) × (is_item_number (Some (slice_range bytes a.offset b.offset)) ≡ true)
HasValue bytes HeadingSetextUnderlineSequence a b = a.offset < b.offset
HasValue bytes CharacterReferenceValue a b = ⊥
HasValue bytes _ a b = Unit {0}

-- a token with this name goes from one spot to another, within a line
pub record GoesAsToken (bytes : List ℕ) (name : Name) (a b : Spot) : Type 0 where
  pub reaches : CanReach bytes (point a) b.offset b.virtual_spaces
  pub cut : EndsCharacter bytes name b.offset
  pub value : HasValue bytes name a b

-- a text goes from one spot to another, within a line, and does not end in a tab
pub record GoesAsText (bytes : List ℕ) (a b : Spot) : Type 0 where
  pub reaches : CanReach bytes (point a) b.offset b.virtual_spaces
  pub whole : b.virtual_spaces ≡ 0
  pub cut : IsCut bytes b.offset

-- the opening sequence of a heading goes from one spot to another, within a line; it has one to six bytes
pub record GoesAsOpening (bytes : List ℕ) (a b : Spot) : Type 0 where
  pub reaches : CanReach bytes (point a) b.offset 0
  pub from_whole : a.virtual_spaces ≡ 0
  pub whole : b.virtual_spaces ≡ 0
  pub cut : IsCut bytes b.offset
  pub depth : is_depth (Some (b.offset - a.offset)) ≡ true

-- the prefix of a block quote has one byte, and may go further
pub record GoesAsPrefix (bytes : List ℕ) (a b : Spot) : Type 0 where
  pub marker : CanReach bytes (point a) (a.offset + 1) 0
  pub marker_cut : IsCut bytes (a.offset + 1)
  pub reaches : CanReach bytes (point (record { offset = a.offset + 1; virtual_spaces = 0 })) b.offset b.virtual_spaces
  pub cut : IsCut bytes b.offset

-- a piece of this kind goes from one spot to another: enters and exits have no length,
-- and line endings go to the start of the next line
abbrev pub Goes : List ℕ → PieceKind → Spot → Spot → Type 0
Goes bytes (Enter name) a b = (a ≡ b) × MayBegin bytes name a
Goes bytes (Exit name) a b = a ≡ b
Goes bytes (Token name) a b = GoesAsToken bytes name a b
Goes bytes OpeningSequence a b = GoesAsOpening bytes a b
Goes bytes Text a b = GoesAsText bytes a b
Goes bytes LineEnding a b = EndsLine bytes a.offset × (b ≡ record { offset = a.offset + line_ending_length bytes a.offset; virtual_spaces = 0 })
Goes bytes BlankLineEnding a b = EndsLine bytes a.offset × (b ≡ record { offset = a.offset + line_ending_length bytes a.offset; virtual_spaces = 0 })
Goes bytes BlockQuotePrefix a b = GoesAsPrefix bytes a b

-- pieces go from one spot of a document to another
abbrev pub Tiles : List ℕ → Spot → List Piece → Spot → Type 0
Tiles bytes a [] b = a ≡ b
Tiles bytes a (p ∷ ps) b = Goes bytes p.kind a (end_of p) × Tiles bytes (end_of p) ps b

-- the end of pieces that begin at a spot
abbrev pub end_from : Spot → List Piece → Spot
end_from a [] = a
end_from a (p ∷ ps) = end_from (end_of p) ps

-- tokens with this name are plain: any of them that has a byte and ends at a cut can be read
abbrev pub IsPlain : Name → Type 0
IsPlain ByteOrderMark = ⊥
IsPlain ListItemValue = ⊥
IsPlain CharacterReferenceValue = ⊥
IsPlain _ = Unit {0}

-- a piece of this kind is a plain token or a text
abbrev pub IsToken : PieceKind → Type 0
IsToken (Token name) = IsPlain name
IsToken Text = Unit {0}
IsToken _ = ⊥

-- a piece of this kind ends a line
abbrev pub IsEnding : PieceKind → Type 0
IsEnding LineEnding = Unit {0}
IsEnding BlankLineEnding = Unit {0}
IsEnding _ = ⊥
