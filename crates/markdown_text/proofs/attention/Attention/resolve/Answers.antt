use Rattle.std.proofs.Common.{arith}
use Rattle.markdown_text.proofs.Switches.{none_wait}
use Rattle.markdown_text.proofs.attention.Attention.resolve.Goals as goal

pub returns-then-len-from-clause-resolved : goal.returns-then-len-from-clause-resolved
returns-then-len-from-clause-resolved c = none_wait c.args.from c.args.size c.args.self.now.runs.items c.args.self.now.delimiters.items (omega (arith, c.if-len-from.true, c.len.ensures))
