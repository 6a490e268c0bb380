use Rattle.std.proofs.Common.{arith}
use Rattle.markdown_json.proofs.Fragments.{plain_byte}
use Rattle.markdown_json.proofs.strings.plain_size_of_16.Goals as goal

pub returns-clause-plain : goal.returns-clause-plain
returns-clause-plain c = λ k below.
    plain_byte _ (c.first_below-control.ensures.before k (omega arith)) (c.first_equal-quote.ensures.before k (omega arith)) (c.first_equal-backslash.ensures.before k (omega arith))
