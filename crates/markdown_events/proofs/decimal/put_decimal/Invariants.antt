use Rattle.std.proofs.Common.{drop}
use Rattle.markdown_events.proofs.Decimals.{Written}
use Rattle.markdown_events.proofs.decimal.put_decimal.Given as goal

abbrev pub invariant-loop-rest : goal.invariant-loop-rest
invariant-loop-rest l = Written l.buffer l.start l.rest l.fn.number l.fn.end (drop l.fn.end l.fn.buffer)

abbrev pub decreases-loop-rest : goal.decreases-loop-rest
decreases-loop-rest l = l.rest
