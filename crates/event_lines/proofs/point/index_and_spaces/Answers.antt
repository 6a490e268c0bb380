use Rattle.std.proofs.Common.{arith}
use Rattle.event_lines.proofs.PointLemmas.{last_no_number, last_nothing, last_feed, last_some, last_wrong, last_none}
use Rattle.event_lines.proofs.point.index_and_spaces.Goals as goal

pub returns-in_err-index : goal.returns-in_err-index
returns-in_err-index c = rw c.from_residual.ensures (last_no_number c.args.text.now c.in_err-index.ensures)

pub returns-then-count-text : goal.returns-then-count-text
returns-then-count-text c = last_nothing c.args.text.now c.in_ok-index.index c.in_ok-index.count c.in_ok-index.ensures c.if-count-text.true

pub returns-in_err-vs-in-58 : goal.returns-in_err-vs-in-58
returns-in_err-vs-in-58 c =
    rw c.from_residual-in_err-vs-in-58.ensures (last_wrong c.args.text.now c.in_ok-index.index c.in_ok-index.count c.in_ok-index.ensures (omega (arith, c.in_ok-index.ensures.within)) c.in-58.is c.in_err-vs-in-58.ensures)

pub returns-in_ok-vs-in-58 : goal.returns-in_ok-vs-in-58
returns-in_ok-vs-in-58 c =
    last_some c.args.text.now c.in_ok-index.index c.in_ok-index.count c.in_ok-vs-in-58.rest.now c.in_ok-vs-in-58.vs c.in_ok-index.ensures (omega (arith, c.in_ok-index.ensures.within)) c.in-58.is c.in_ok-vs-in-58.ensures

pub returns-in-10 : goal.returns-in-10
returns-in-10 c = last_feed c.args.text.now c.in_ok-index.index c.in_ok-index.count c.in_ok-index.ensures (omega (arith, c.in_ok-index.ensures.within)) c.in-10.is

pub returns-in_default : goal.returns-in_default
returns-in_default c = last_none c.args.text.now c.in_ok-index.index c.in_ok-index.count c.in_ok-index.ensures (omega (arith, c.in_ok-index.ensures.within)) (omega arith) (omega arith)
