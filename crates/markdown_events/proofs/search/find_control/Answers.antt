use Rattle.std.proofs.Common.{◌≡◌, ◌≤◌, arith}
use Rattle.markdown_events.proofs.Searches.{joined}
use Rattle.markdown_events.proofs.search.find_control.Goals as goal

pub returns-then-before-lt16-clause-before : goal.returns-then-before-lt16-clause-before
returns-then-before-lt16-clause-before c = joined (λ b. 32 ≤ b) c.loop-at.at c.first_below-before.result c.args.text.now c.loop-at.invariant.before c.first_below-before.ensures.before

pub loop-at-preserved : goal.loop-at-preserved
loop-at-preserved c =
    let all : c.first_below-before.result ≡ 16 = omega (arith, c.first_below-before.ensures.most, c.if-before-lt16.false) in record {
      within = omega (arith, c.loop-at-test.true, c.loop-at.invariant.within);
      before = joined (λ b. 32 ≤ b) c.loop-at.at 16 c.args.text.now c.loop-at.invariant.before (λ k below. c.first_below-before.ensures.before k (omega arith));
    }

pub returns-clause-before : goal.returns-clause-before
returns-clause-before c = joined (λ b. 32 ≤ b) c.loop-at.at c.find_control_in_few.result c.args.text.now c.loop-at.invariant.before c.find_control_in_few.ensures.before
