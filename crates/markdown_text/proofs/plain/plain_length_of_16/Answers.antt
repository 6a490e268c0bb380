use Rattle.std.proofs.Common.{arith, sym, ◌∙◌}
use Rattle.markdown_text.proofs.PlainBytes.{set, unset}
use Rattle.markdown_text.proofs.plain.plain_length_of_16.Goals as goal

pub returns-clause-plain : goal.returns-clause-plain
returns-clause-plain c = λ k less. unset _ (sym (c.places.ensures k (omega (arith, less, c.first_of.ensures.most))) ∙ c.first_of.ensures.before k less)

pub returns-clause-next : goal.returns-clause-next
returns-clause-next c = λ short. set _ (sym (c.places.ensures c.first_of.result short) ∙ c.first_of.ensures.at short)
