use Rattle.std.proofs.Common.{◌≤◌, eqb, arith}
use Rattle.std.proofs.lemmas.Bool.Decides.{nat_tests}
use Rattle.std.proofs.lemmas.Simd.{run_in_chunk_le, run_in_chunk_fails, run_in_chunk_stops}
use Rattle.markdown_events.proofs.search.first_equal.Goals as goal

pub returns-clause-most : goal.returns-clause-most
returns-clause-most c = run_in_chunk_le (λ x. eqb x c.args.byte) c.args.text.now 0 16 c.before_equal.result 0 c.requires c.before_equal.ensures

pub returns-clause-before : goal.returns-clause-before
returns-clause-before c = λ k lt. let most : c.before_equal.result ≤ 16 = run_in_chunk_le (λ x. eqb x c.args.byte) c.args.text.now 0 16 c.before_equal.result 0 c.requires c.before_equal.ensures in let no = run_in_chunk_fails (λ x. eqb x c.args.byte) c.args.text.now 0 16 c.before_equal.result 0 c.requires c.before_equal.ensures k (omega arith) (omega arith) in grind (arith, nat_tests, no)

pub returns-clause-at : goal.returns-clause-at
returns-clause-at c = λ lt. let yes = run_in_chunk_stops (λ x. eqb x c.args.byte) c.args.text.now 0 16 c.before_equal.result 0 c.requires c.before_equal.ensures lt in grind (arith, nat_tests, yes)
