-- The enters and exits of emphasis, strong emphasis and strikethrough, and their places in a content.
use Rattle.std.specs.Prelude.{Bool, List, [], drop, false, if◌then◌else◌, true, ℕ, ◌++◌, ◌∷◌, ◌≡◌}
use Rattle.markdown_events.specs.declared.event.Event.{Event}
use Rattle.markdown_events.specs.declared.event.Name.{Name}
use Rattle.markdown_events.specs.declared.event.Name.TheVariants.{Emphasis, GfmStrikethrough, SpaceOrTab, Strong}
use Rattle.markdown_events.specs.declared.event.Point.{Point}
use Rattle.markdown_pieces.specs.Tilings.{Spot, end_from}
use Rattle.markdown_pieces.specs.declared.piece.Piece.{Piece}
use Rattle.markdown_pieces.specs.declared.piece.PieceKind.{PieceKind}
use Rattle.markdown_pieces.specs.declared.piece.PieceKind.TheVariants.{BlockQuotePrefix, LineEnding, Token}
use Rattle.markdown_text.specs.Contents.{IsLeft, left, spot, whole}
use Rattle.markdown_text.specs.Outputs.{bytes_of, content_end, document_of}
use Rattle.markdown_text.specs.declared.output.Output.{Output}

-- ---- The events

-- emphasis, strong emphasis and strikethrough
abbrev pub is_attention : Name → Bool
is_attention Emphasis = true
is_attention Strong = true
is_attention GfmStrikethrough = true
is_attention _ = false

-- the enters and exits of these spans among events
abbrev pub attention_events : List Event → List Event
attention_events [] = []
attention_events (e ∷ es) = if is_attention e.name then e ∷ attention_events es else attention_events es

-- these events among those that are written for a content
abbrev pub attention_of : {R S : Type 0} → Output R S → List Event
attention_of output = attention_events output.writer.value.events

-- the kinds of the pieces between the texts of a content: line endings, and after them white space and block quote prefixes
abbrev pub is_between_texts : PieceKind → Bool
is_between_texts LineEnding = true
is_between_texts (Token SpaceOrTab) = true
is_between_texts BlockQuotePrefix = true
is_between_texts _ = false

-- ---- Their places

-- an offset of a content is at a spot of the document: the rest of the content is what the pieces leave of the document there
pub record IsSpotOf (document bytes : List ℕ) (stop : Spot) (offset : ℕ) (from : Spot) : Type 0 where
  pub end : ℕ
  pub later : List Piece
  pub rest : IsLeft document from end later
  pub same : drop offset bytes ≡ left document from.offset end later
  pub stops : end_from (whole end) later ≡ stop

-- one such event is written, at an offset of the content
pub record WritesAttention {R S : Type 0} (old new : Output R S) (offset : ℕ) (event : Point → Event) : Type 0 where
  pub point : Point
  pub place : IsSpotOf (document_of old) (bytes_of old) (content_end old) offset (spot point)
  pub events : attention_of new ≡ attention_of old ++ event point ∷ []
