use Rattle.std.proofs.Common.{◌≡◌, arith, sym, ◌∙◌}
use Rattle.character_references.proofs.SearchLemmas.{joined, rest_length, rest_may_follow}
use Rattle.character_references.proofs.search.find_line.Goals as goal

pub returns-then-before-lt16-clause-before : goal.returns-then-before-lt16-clause-before
returns-then-before-lt16-clause-before c = joined c.args.name.now c.args.lines.now c.loop-at.at c.find_line_in_16-before.result c.loop-at.invariant.before c.find_line_in_16-before.ensures.before

pub returns-then-before-lt16-clause-at : goal.returns-then-before-lt16-clause-at
returns-then-before-lt16-clause-at c = λ _. sym (rest_may_follow c.args.name.now c.args.lines.now c.loop-at.at c.find_line_in_16-before.result) ∙ c.find_line_in_16-before.ensures.at c.if-before-lt16.true

pub loop-at-preserved : goal.loop-at-preserved
loop-at-preserved c =
    let all : c.find_line_in_16-before.result ≡ 16 = omega (arith, c.find_line_in_16-before.ensures.most, c.if-before-lt16.false) in record {
      within = omega (arith, c.loop-at-test.true, c.loop-at.invariant.within);
      before = joined c.args.name.now c.args.lines.now c.loop-at.at 16 c.loop-at.invariant.before (λ k below. c.find_line_in_16-before.ensures.before k (omega arith));
    }

pub returns-clause-before : goal.returns-clause-before
returns-clause-before c = joined c.args.name.now c.args.lines.now c.loop-at.at c.find_line_in_few.result c.loop-at.invariant.before c.find_line_in_few.ensures.before

pub returns-clause-at : goal.returns-clause-at
returns-clause-at c = λ less.
    sym (rest_may_follow c.args.name.now c.args.lines.now c.loop-at.at c.find_line_in_few.result) ∙ c.find_line_in_few.ensures.at (omega (arith, less, rest_length c.args.lines.now c.loop-at.at))
