use Rattle.std.proofs.Common.{arith}
use Rattle.event_lines.proofs.PointLemmas.{number_nothing, number_feed, number_none}
use Rattle.event_lines.proofs.point.last_number.Goals as goal

pub returns-then-count-text : goal.returns-then-count-text
returns-then-count-text c = number_nothing c.args.text.now c.in_ok-value.value c.in_ok-value.count c.in_ok-value.ensures c.if-count-text.true

pub returns-then-text-count-eq10 : goal.returns-then-text-count-eq10
returns-then-text-count-eq10 c = number_feed c.args.text.now c.in_ok-value.value c.in_ok-value.count c.in_ok-value.ensures (omega (arith, c.in_ok-value.ensures.within)) c.if-text-count-eq10.true

pub returns-else-text-count-eq10 : goal.returns-else-text-count-eq10
returns-else-text-count-eq10 c = number_none c.args.text.now c.in_ok-value.value c.in_ok-value.count c.in_ok-value.ensures (omega (arith, c.in_ok-value.ensures.within)) c.if-text-count-eq10.false
