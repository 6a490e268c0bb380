use Rattle.std.proofs.Common.{arith}
use Rattle.event_writer.proofs.places.point_at.Goals as goal

pub overflow_add-result : goal.overflow_add-result
overflow_add-result c =
    let b = c.in_ok-column.ensures.bound in
    let v = c.has_columns.ensures.bound c.if-not-has_columns.false in
    omega (arith, b, v)
