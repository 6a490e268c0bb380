use Rattle.std.proofs.Common.{arith}
use Rattle.commonmark_syntax.proofs.Destinations.{raw_empty, raw_exact, raw_in_line, raw_most, raw_next, raw_none}
use Rattle.commonmark_syntax.proofs.destination.scan_raw.Goals as goal

pub returns-in_err-size-clause-exact : goal.returns-in_err-size-clause-exact
returns-in_err-size-clause-exact c = raw_none _ _ c.requires c.in_err-size.ensures c.from_residual.ensures

pub overflow_sub-size : goal.overflow_sub-size
overflow_sub-size c = raw_most _ _ c.in_ok-size.ensures

pub returns-then-size-gt0-clause-exact : goal.returns-then-size-gt0-clause-exact
returns-then-size-gt0-clause-exact c = raw_exact _ _ c.requires c.in_ok-size.ensures (omega (arith, c.if-size-gt0.true))

pub returns-then-size-gt0-clause-in_line : goal.returns-then-size-gt0-clause-in_line
returns-then-size-gt0-clause-in_line c = raw_in_line _ _ c.in_ok-size.ensures

pub returns-then-size-gt0-clause-next : goal.returns-then-size-gt0-clause-next
returns-then-size-gt0-clause-next c = raw_next _ _ c.in_ok-size.ensures

pub returns-else-size-gt0-clause-exact : goal.returns-else-size-gt0-clause-exact
returns-else-size-gt0-clause-exact c = raw_empty _ c.in_ok-size.field-0.now c.requires c.in_ok-size.ensures (omega (arith, c.if-size-gt0.false))
