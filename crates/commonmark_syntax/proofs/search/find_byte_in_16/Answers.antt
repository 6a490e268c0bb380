use Rattle.std.proofs.Common.{arith, sym, ◌∙◌}
use Rattle.commonmark_syntax.proofs.Searches.{other_byte, same_byte}
use Rattle.commonmark_syntax.proofs.search.find_byte_in_16.Goals as goal

pub returns-clause-before : goal.returns-clause-before
returns-clause-before c = λ k less. other_byte _ c.args.of (sym (c.places.ensures k (omega (arith, less, c.first_of.ensures.most))) ∙ c.first_of.ensures.before k less)

pub returns-clause-at : goal.returns-clause-at
returns-clause-at c = λ short. same_byte _ c.args.of (sym (c.places.ensures c.first_of.result short) ∙ c.first_of.ensures.at short)
