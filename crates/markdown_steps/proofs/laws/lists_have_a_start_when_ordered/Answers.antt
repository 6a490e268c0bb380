use Rattle.markdown_steps.proofs.ConsequencesOfFields.{starts}
use Rattle.markdown_steps.proofs.laws.lists_have_a_start_when_ordered.Goals as goal

pub returns : goal.returns
returns c = starts
