-- The lines that are kept.
use Rattle.std.specs.Prelude.{List, [], length, slice_range, ◌∷◌, ◌≡◌, ◌≤◌}
use Rattle.markdown_pieces.specs.Tilings.{Spot, Tiles}
use Rattle.markdown_pieces.specs.Walks.{AreBetween}
use Rattle.markdown_pieces.specs.declared.piece.Piece.{Piece}
use Rattle.markdown_flow.specs.Outputs.{next_of, spot_in}
use Rattle.markdown_flow.specs.declared.content.KeptLine.{KeptLine}
use Rattle.markdown_flow.specs.declared.line.Source.{Source}

-- the pieces of the prefix of a line
abbrev pub prefix_of : List Piece → KeptLine → List Piece
prefix_of prefixes kept = slice_range prefixes kept.prefix_start kept.prefix_end

-- a line of a document is kept: its prefix goes from a spot to the line's cursor
pub record Kept (source : Source) (prefixes : List Piece) (from : Spot) (kept : KeptLine) : Type 0 where
  pub same : (kept.line).source ≡ source
  pub order : kept.prefix_start ≤ kept.prefix_end
  pub within : kept.prefix_end ≤ length prefixes
  pub prefix : Tiles source.document.now from (prefix_of prefixes kept) (spot_in kept.line)
  pub between : AreBetween (prefix_of prefixes kept)

-- lines of a document are kept, one after the other; the first begins at `from`
abbrev pub AreKept : Source → List Piece → Spot → List KeptLine → Type 0
AreKept source prefixes from [] = Unit {0}
AreKept source prefixes from (kept ∷ lines) = Kept source prefixes from kept × AreKept source prefixes (next_of kept.line) lines

-- the start of the line after these
abbrev pub after_lines : Spot → List KeptLine → Spot
after_lines from [] = from
after_lines from (kept ∷ lines) = after_lines (next_of kept.line) lines
