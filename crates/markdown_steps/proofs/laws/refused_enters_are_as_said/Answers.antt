use Rattle.markdown_steps.proofs.Sayings.{enter_says}
use Rattle.markdown_steps.proofs.laws.refused_enters_are_as_said.Goals as goal

pub returns : goal.returns
returns c = enter_says
