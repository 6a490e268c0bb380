use Rattle.markdown_steps.proofs.Sayings.{exit_says}
use Rattle.markdown_steps.proofs.laws.refused_exits_are_as_said.Goals as goal

pub returns : goal.returns
returns c = exit_says
