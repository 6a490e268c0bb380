use Rattle.std.proofs.Common.{arith, ◌≡◌, ◌≢◌}
use Rattle.commonmark_syntax.proofs.Searches.{joined}
use Rattle.commonmark_syntax.proofs.search.find_byte.Goals as goal

pub returns-then-before-lt16-clause-before : goal.returns-then-before-lt16-clause-before
returns-then-before-lt16-clause-before c =
    joined (λ b. b ≢ c.args.of) c.loop-at.at c.loop-at.at c.find_byte_in_16-before.result c.args.text.now (omega arith) c.loop-at.invariant c.find_byte_in_16-before.ensures.before

pub loop-at-preserved : goal.loop-at-preserved
loop-at-preserved c =
    let all : c.find_byte_in_16-before.result ≡ 16 = omega (arith, c.find_byte_in_16-before.ensures.most, c.if-before-lt16.false) in
    joined (λ b. b ≢ c.args.of) c.loop-at.at c.loop-at.at 16 c.args.text.now (omega arith) c.loop-at.invariant (λ k below. c.find_byte_in_16-before.ensures.before k (omega arith))

pub returns-clause-before : goal.returns-clause-before
returns-clause-before c =
    joined (λ b. b ≢ c.args.of) c.loop-at.at _ c.find_byte_in_16.result c.args.text.now c.loop-at-test.false c.loop-at.invariant c.find_byte_in_16.ensures.before
