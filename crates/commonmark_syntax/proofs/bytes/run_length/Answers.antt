use Rattle.std.proofs.Common.{rules}
use Rattle.commonmark_syntax.proofs.bytes.run_length.Goals as goal

pub returns-clause-run : goal.returns-clause-run
returns-clause-run c k h = let s = c.count_while.ensures.counted k h in search (rules, s)
