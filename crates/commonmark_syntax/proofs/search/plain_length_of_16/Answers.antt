use Rattle.std.proofs.Common.{arith, sym, ◌∙◌}
use Rattle.commonmark_syntax.proofs.Searches.{unset}
use Rattle.commonmark_syntax.proofs.search.plain_length_of_16.Goals as goal

pub returns-clause-plain : goal.returns-clause-plain
returns-clause-plain g c = λ k less. unset _ (sym (c.others.ensures k (omega (arith, less, c.first_of.ensures.most))) ∙ c.first_of.ensures.before k less)
