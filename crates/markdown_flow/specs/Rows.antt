-- Rows of tables: the first cell of a row.
use Rattle.std.specs.Prelude.{List, [], drop, length, take, ℕ, ◌≡◌, ◌⊎◌}
use Rattle.std.specs.Str.{IsAscii}
use Rattle.commonmark_syntax.specs.Cuts.{IsCut}
use Rattle.markdown_flow.specs.Lines.{after_spaces}
use Rattle.markdown_flow.specs.declared.gfm_table_row.Cell.{Cell}

-- the row from the text of the cell on
abbrev pub from_text : List ℕ → Cell → List ℕ
from_text row cell = after_spaces (drop cell.divider_size row)

-- the row after the text of the cell, and after the white space there
abbrev pub after_text : List ℕ → Cell → List ℕ
after_text row cell = after_spaces (drop (length cell.text.now) (from_text row cell))

-- a cell is the first of a row: its text may be cut out, and after it comes the next cell, or only ASCII if there is none
pub record IsFirst (row : List ℕ) (cell : Cell) : Type 0 where
  pub divider : IsAscii (take cell.divider_size row)
  pub text : cell.text.now ≡ take (length cell.text.now) (from_text row cell)
  pub text_cut : IsCut (from_text row cell) (length cell.text.now)
  pub end_cut : IsCut (after_text row cell) 1
  pub next : (after_text row cell ≡ cell.next.now) ⊎ ((cell.next.now ≡ []) × IsAscii (after_text row cell))
