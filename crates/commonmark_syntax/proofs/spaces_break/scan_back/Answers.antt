use Rattle.std.proofs.Common.{arith, rules}
use Rattle.commonmark_syntax.proofs.Backwards.{EndsInSpaces, break_none, break_some}
use Rattle.commonmark_syntax.proofs.spaces_break.scan_back.Goals as goal

pub returns-then-spaces-lt-SPACES_LEAST-clause-exact : goal.returns-then-spaces-lt-SPACES_LEAST-clause-exact
returns-then-spaces-lt-SPACES_LEAST-clause-exact c =
    let it : EndsInSpaces c.args.text.now c.count_back-spaces.result = record {
      most = c.count_back-spaces.ensures.most;
      spaces = λ k least less. (let s = c.count_back-spaces.ensures.counted k least less in search (rules, s));
      other = λ less. (let s = c.count_back-spaces.ensures.next less in search (rules, s));
    } in
    break_none c.args.text.now c.count_back-spaces.result (λ i. omega (arith, c.type_inv.text i)) (omega (arith, c.if-spaces-lt-SPACES_LEAST.true)) it

pub returns-clause-exact : goal.returns-clause-exact
returns-clause-exact c =
    let it : EndsInSpaces c.args.text.now c.count_back-spaces.result = record {
      most = c.count_back-spaces.ensures.most;
      spaces = λ k least less. (let s = c.count_back-spaces.ensures.counted k least less in search (rules, s));
      other = λ less. (let s = c.count_back-spaces.ensures.next less in search (rules, s));
    } in
    break_some c.args.text.now c.count_back-spaces.result (λ i. omega (arith, c.type_inv.text i)) (omega (arith, c.if-spaces-lt-SPACES_LEAST.false)) it
