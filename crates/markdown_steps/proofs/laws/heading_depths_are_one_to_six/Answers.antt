use Rattle.markdown_steps.proofs.ConsequencesOfFields.{depths}
use Rattle.markdown_steps.proofs.laws.heading_depths_are_one_to_six.Goals as goal

pub returns : goal.returns
returns c = depths
