use Rattle.std.proofs.Common.{arith}
use Rattle.event_lines.proofs.ChunkLemmas.{first_all, first_most, first_some}
use Rattle.event_lines.proofs.search.same_bytes.Goals as goal

pub returns-then-differ-eq0-clause-same : goal.returns-then-differ-eq0-clause-same
returns-then-differ-eq0-clause-same c = first_all 32 c.args.text.now c.args.other.now (omega arith) c.requires.text c.requires.other c.if-differ-eq0.true

pub returns-else-differ-eq0-clause-most : goal.returns-else-differ-eq0-clause-most
returns-else-differ-eq0-clause-most c = first_most 32 c.args.text.now c.args.other.now (omega arith) c.requires.text c.requires.other (omega (arith, c.if-differ-eq0.false))

pub returns-else-differ-eq0-clause-same : goal.returns-else-differ-eq0-clause-same
returns-else-differ-eq0-clause-same c = first_some 32 c.args.text.now c.args.other.now (omega arith) c.requires.text c.requires.other (omega (arith, c.if-differ-eq0.false))
