use Rattle.std.proofs.Common.{◌+◌, ◌≤◌, length}
use Rattle.markdown_flow.proofs.gfm_table_row.count.Given as goal

-- each cell takes a byte of the row
abbrev pub invariant-cells : goal.invariant-cells
invariant-cells l = l.count + length l.rest ≤ length l.row

abbrev pub decreases-cells : goal.decreases-cells
decreases-cells l = length l.rest
