use Rattle.std.proofs.Common.{arith, sym, ◌∙◌}
use Rattle.character_references.proofs.SearchLemmas.{unset, set}
use Rattle.character_references.proofs.search.find_line_in_16.Goals as goal

pub returns-clause-before : goal.returns-clause-before
returns-clause-before c = λ k less. unset _ (sym (c.lines_in_16.ensures k (omega (arith, less, c.first_of.ensures.most))) ∙ c.first_of.ensures.before k less)

pub returns-clause-at : goal.returns-clause-at
returns-clause-at c = λ short. set _ (sym (c.lines_in_16.ensures c.first_of.result short) ∙ c.first_of.ensures.at short)
