use Rattle.std.proofs.Common.{arith}
use Rattle.commonmark_syntax.proofs.Fronts.{bytes_of}
use Rattle.commonmark_syntax.proofs.Runs.{first_run}
use Rattle.commonmark_syntax.proofs.delimiter_run.size.Goals as goal

pub returns-in-len1-up-clause-exact : goal.returns-in-len1-up-clause-exact
returns-in-len1-up-clause-exact c = λ some. first_run c.args.text.now c.run_length.result (bytes_of _ (λ i. omega (arith, c.type_inv.text i))) some c.run_length.ensures.run c.run_length.ensures.next c.run_length.ensures.most
