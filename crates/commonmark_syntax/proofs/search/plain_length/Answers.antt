use Rattle.std.proofs.Common.{arith, true, ◌≡◌}
use Rattle.commonmark_syntax.proofs.Searches.{joined}
use Rattle.commonmark_syntax.proofs.search.plain_length.Goals as goal

pub returns-then-more-lt16-clause-plain : goal.returns-then-more-lt16-clause-plain
returns-then-more-lt16-clause-plain g c =
    joined (λ b. g.C.Class.class b ≡ true) c.loop-size.size c.loop-size.size c.plain_length_of_16-more.result c.args.text.now (omega arith) c.loop-size.invariant c.plain_length_of_16-more.ensures.plain

pub loop-size-preserved : goal.loop-size-preserved
loop-size-preserved g c =
    let all : c.plain_length_of_16-more.result ≡ 16 = omega (arith, c.plain_length_of_16-more.ensures.most, c.if-more-lt16.false) in
    joined (λ b. g.C.Class.class b ≡ true) c.loop-size.size c.loop-size.size 16 c.args.text.now (omega arith) c.loop-size.invariant (λ k below. c.plain_length_of_16-more.ensures.plain k (omega arith))

pub returns-clause-plain : goal.returns-clause-plain
returns-clause-plain g c =
    joined (λ b. g.C.Class.class b ≡ true) c.loop-size.size _ c.plain_length_of_16.result c.args.text.now c.loop-size-test.false c.loop-size.invariant c.plain_length_of_16.ensures.plain
