use Rattle.event_lines.proofs.PointLemmas.{point_no_line, point_no_column, point_no_last, point_some}
use Rattle.event_lines.proofs.point.point.Goals as goal

pub returns-in_err-line : goal.returns-in_err-line
returns-in_err-line c = rw c.from_residual.ensures (point_no_line c.args.text.now c.in_err-line.ensures)

pub returns-in_err-column : goal.returns-in_err-column
returns-in_err-column c = rw c.from_residual-in_err-column.ensures (point_no_column c.args.text.now c.in_ok-line.after_line.now c.in_ok-line.line c.in_ok-line.ensures c.in_err-column.ensures)

pub returns-in_err-index : goal.returns-in_err-index
returns-in_err-index c =
    rw c.from_residual-in_err-index.ensures
    (point_no_last c.args.text.now c.in_ok-line.after_line.now c.in_ok-column.after_column.now c.in_ok-line.line c.in_ok-column.column c.in_ok-line.ensures c.in_ok-column.ensures c.in_err-index.ensures)

pub returns : goal.returns
returns c =
    point_some c.args.text.now c.in_ok-line.after_line.now c.in_ok-column.after_column.now c.in_ok-index.rest.now c.in_ok-line.line c.in_ok-column.column c.in_ok-index.index c.in_ok-index.vs c.in_ok-line.ensures c.in_ok-column.ensures c.in_ok-index.ensures
