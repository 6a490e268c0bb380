use Rattle.markdown_steps.proofs.ConsequencesOfFields.{positions}
use Rattle.markdown_steps.proofs.laws.every_node_has_a_position.Goals as goal

pub returns : goal.returns
returns c = positions
