use Rattle.std.proofs.Common.{◌≡◌, ◌≤◌, length}
use Rattle.commonmark_syntax.specs.Blocks.{next_delimiter_cell}
use Rattle.commonmark_syntax.specs.Reading.{greedy, read}
use Rattle.commonmark_syntax.proofs.delimiter_row.past_later_cells.Given as goal

-- as many are still to be read as bytes are left, at most
abbrev pub invariant-cells : goal.invariant-cells
invariant-cells l = (length l.rest ≤ length l.text) × (greedy (read next_delimiter_cell) (length l.rest) l.rest ≡ greedy (read next_delimiter_cell) (length l.text) l.text)

abbrev pub decreases-cells : goal.decreases-cells
decreases-cells l = length l.rest
