use Rattle.std.proofs.Common.{◌≡◌, ◌∷◌, ◌-◌, [], ℕ, length, arith}
use Rattle.markdown_events.proofs.Searches.{joined}
use Rattle.markdown_json.specs.Strings.{escape}
use Rattle.markdown_json.proofs.strings.plain_size.Goals as goal

pub returns-then-before-lt16-clause-plain : goal.returns-then-before-lt16-clause-plain
returns-then-before-lt16-clause-plain c =
    joined (λ (b : ℕ). escape b ≡ b ∷ []) c.loop-at.at c.plain_size_of_16-before.result c.args.text.now c.loop-at.invariant.plain c.plain_size_of_16-before.ensures.plain

pub loop-at-preserved : goal.loop-at-preserved
loop-at-preserved c =
    let all : c.plain_size_of_16-before.result ≡ 16 = omega (arith, c.plain_size_of_16-before.ensures.most, c.if-before-lt16.false) in record {
      within = omega (arith, c.loop-at-test.true, c.loop-at.invariant.within);
      plain = joined (λ (b : ℕ). escape b ≡ b ∷ []) c.loop-at.at 16 c.args.text.now c.loop-at.invariant.plain (λ k below. c.plain_size_of_16-before.ensures.plain k (omega arith));
    }

pub returns-clause-plain : goal.returns-clause-plain
returns-clause-plain c =
    let last : ℕ = length c.args.text.now - 16 in
    joined (λ (b : ℕ). escape b ≡ b ∷ []) last c.plain_size_of_16.result c.args.text.now (λ k below. c.loop-at.invariant.plain k (omega (arith, c.loop-at-test.false))) c.plain_size_of_16.ensures.plain
