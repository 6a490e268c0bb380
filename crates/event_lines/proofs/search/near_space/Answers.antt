use Rattle.std.proofs.Common.{◌≤◌, eqb, arith}
use Rattle.std.proofs.lemmas.Bool.Decides.{nat_tests}
use Rattle.std.proofs.lemmas.Simd.{run_in_chunk_le, run_in_chunk_fails, run_in_chunk_stops}
use Rattle.event_lines.proofs.search.near_space.Goals as goal

pub returns-clause-before : goal.returns-clause-before
returns-clause-before c = λ k lt. let most : c.first_of_32.result ≤ 32 = run_in_chunk_le (λ x. eqb x 32) c.args.text.now 0 32 c.first_of_32.result 0 c.requires c.first_of_32.ensures in let no = run_in_chunk_fails (λ x. eqb x 32) c.args.text.now 0 32 c.first_of_32.result 0 c.requires c.first_of_32.ensures k (omega arith) (omega arith) in grind (arith, nat_tests, no)

pub returns-clause-at : goal.returns-clause-at
returns-clause-at c = λ lt. let yes = run_in_chunk_stops (λ x. eqb x 32) c.args.text.now 0 32 c.first_of_32.result 0 c.requires c.first_of_32.ensures lt in grind (arith, nat_tests, yes)
