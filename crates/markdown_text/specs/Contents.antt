-- Contents: texts, one in each line, separated by line endings and what comes before the next text.
use Rattle.std.specs.Prelude.{Bool, List, [], false, length, slice_index, slice_range, true, ℕ, ◌++◌, ◌<◌, ◌∷◌, ◌≡◌, ◌≢◌, ◌≤◌}
use Rattle.commonmark_syntax.specs.Cuts.{IsCut}
use Rattle.event_writer.specs.Calls.{CanReach}
use Rattle.markdown_events.specs.declared.event.Name.TheVariants.{SpaceOrTab}
use Rattle.markdown_events.specs.declared.event.Point.{Point}
use Rattle.markdown_pieces.specs.Tilings.{Spot, Tiles, end_from, point}
use Rattle.markdown_pieces.specs.declared.piece.Piece.{Piece}
use Rattle.markdown_pieces.specs.declared.piece.PieceKind.{PieceKind}
use Rattle.markdown_pieces.specs.declared.piece.PieceKind.TheVariants.{BlockQuotePrefix, Enter, LineEnding, Text, Token}
use Rattle.markdown_text.specs.declared.content.Place.{Place}
use Rattle.markdown_text.specs.declared.content.Place.TheVariants.{AfterText, BeforeText, Outside}

-- the place in a content after one more piece: after a text comes a line ending, and after that another text, with white space
-- and block quote prefixes before it
abbrev pub next_place : Place → PieceKind → Place
next_place AfterText LineEnding = BeforeText
next_place BeforeText Text = AfterText
next_place BeforeText (Token SpaceOrTab) = BeforeText
next_place BeforeText BlockQuotePrefix = BeforeText
next_place _ _ = Outside

-- the place in a content after these pieces
abbrev pub place_after : Place → List Piece → Place
place_after at [] = at
place_after at (p ∷ ps) = place_after (next_place at p.kind) ps

-- the pieces that may come after a text of a content: none, or the texts of more lines, with what comes before each of them
abbrev pub AreLines : List Piece → Type 0
AreLines ps = place_after AfterText ps ≡ AfterText

-- the pieces of a content: a text, with any white space and prefixes before it, and what may come after it
abbrev pub IsContent : List Piece → Type 0
IsContent ps = place_after BeforeText ps ≡ AfterText

-- a span begins with a piece of this kind
abbrev pub begins_span : PieceKind → Bool
begins_span (Enter name) = true
begins_span _ = false

-- the pieces begin with a span, so no content goes on in them
abbrev pub BeginWithSpan : List Piece → Type 0
BeginWithSpan [] = Unit {0}
BeginWithSpan (p ∷ ps) = begins_span p.kind ≡ true

-- the bytes that a piece of this kind adds to its content
abbrev pub piece_bytes : List ℕ → PieceKind → ℕ → ℕ → List ℕ
piece_bytes document Text from to = slice_range document from to
piece_bytes document LineEnding from to = 10 ∷ []
piece_bytes document _ from to = []

-- the bytes of the pieces of a content from an offset on, with an LF for each line ending
abbrev pub joined : List ℕ → ℕ → List Piece → List ℕ
joined document from [] = []
joined document from (p ∷ ps) = piece_bytes document p.kind from p.end ++ joined document p.end ps

-- the spot of a point
abbrev pub spot : Point → Spot
spot p = record { offset = p.index; virtual_spaces = p.vs }

-- an offset that is not within a tab
abbrev pub whole : ℕ → Spot
whole offset = record { offset = offset; virtual_spaces = 0 }

-- the rest of a content from a spot on: a text up to an offset, and the pieces after it
pub record IsLeft (document : List ℕ) (from : Spot) (end : ℕ) (later : List Piece) : Type 0 where
  pub reach : CanReach document (point from) end 0
  pub cut : IsCut document end
  pub lines : AreLines later
  pub tiles : Tiles document (whole end) later (end_from (whole end) later)

-- the bytes of that rest
abbrev pub left : List ℕ → ℕ → ℕ → List Piece → List ℕ
left document from end later = slice_range document from end ++ joined document end later

-- a part of one line of a text: there is no LF between its two offsets, and both are cuts
pub record IsPart (bytes : List ℕ) (from to : ℕ) : Type 0 where
  pub order : from ≤ to
  pub within : to ≤ length bytes
  pub line : (k : ℕ) → from ≤ k → k < to → slice_index bytes k ≢ 10
  pub start : IsCut bytes from
  pub end : IsCut bytes to

-- an ASCII part of one line
pub record IsAsciiPart (bytes : List ℕ) (from to : ℕ) : Type 0 where
  pub part : IsPart bytes from to
  pub ascii : (k : ℕ) → from ≤ k → k < to → slice_index bytes k < 128

-- a part of a text, which may contain LFs
pub record IsRange (bytes : List ℕ) (from to : ℕ) : Type 0 where
  pub order : from ≤ to
  pub within : to ≤ length bytes
  pub start : IsCut bytes from
  pub end : IsCut bytes to
