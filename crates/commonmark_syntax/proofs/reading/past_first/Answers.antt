use Rattle.commonmark_syntax.proofs.Words.{found_nowhere}
use Rattle.commonmark_syntax.proofs.reading.past_first.Goals as goal

pub returns-in_err-tail : goal.returns-in_err-tail
returns-in_err-tail c = found_nowhere c.args.expected.now c.args.text.now c.bytes.rest.now _ c.in_default.ensures c.in_err-tail.ensures.cases c.bytes.invariant c.from_residual.ensures
