-- The block structure of a document.
use Rattle.std.specs.Prelude.{List, length, ℕ}
use Rattle.markdown_flow.specs.declared.document.Blocks.{Blocks}
use Rattle.markdown_options.specs.declared.Constructs.{Constructs}
use Rattle.markdown_pieces.specs.Spans.{AreOn}
use Rattle.markdown_pieces.specs.Tilings.{Tiles, origin}
use Rattle.markdown_pieces.specs.Walks.{Walks, start}

-- the pieces tile the document, their spans nest, and no construct that is off has a span
pub record AreBlocks (document : List ℕ) (constructs : Constructs) (blocks : Blocks) : Type 0 where
  pub tiles : Tiles document origin blocks.pieces.items (record { offset = length document; virtual_spaces = 0 })
  pub nest : Walks start blocks.pieces.items start
  pub on : AreOn constructs blocks.pieces.items
