use Rattle.std.proofs.Common.{arith, false, ◌≡◌}
use Rattle.markdown_text.specs.Plain.{may_begin}
use Rattle.markdown_text.proofs.PlainBytes.{joined}
use Rattle.markdown_text.proofs.plain.plain_length.Goals as goal

pub returns-then-more-lt16-clause-plain : goal.returns-then-more-lt16-clause-plain
returns-then-more-lt16-clause-plain c =
    joined (λ before byte. may_begin c.args.literals before byte ≡ false) c.args.text.now c.loop-size.size c.plain_length_of_16-more.result c.loop-size.invariant.plain c.plain_length_of_16-more.ensures.plain

pub loop-size-preserved : goal.loop-size-preserved
loop-size-preserved c =
    let all : c.plain_length_of_16-more.result ≡ 16 = omega (arith, c.plain_length_of_16-more.ensures.most, c.if-more-lt16.false) in record {
      within = omega (arith, c.loop-size-test.true, c.loop-size.invariant.within);
      plain = joined (λ before byte. may_begin c.args.literals before byte ≡ false) c.args.text.now c.loop-size.size 16 c.loop-size.invariant.plain (λ k below. c.plain_length_of_16-more.ensures.plain k (omega arith));
    }

pub returns-clause-plain : goal.returns-clause-plain
returns-clause-plain c =
    joined (λ before byte. may_begin c.args.literals before byte ≡ false) c.args.text.now c.loop-size.size c.plain_length_of_few.result c.loop-size.invariant.plain c.plain_length_of_few.ensures.plain
