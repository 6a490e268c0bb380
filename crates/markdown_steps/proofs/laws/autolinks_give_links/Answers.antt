use Rattle.markdown_steps.proofs.ConsequencesOfLinks.{links}
use Rattle.markdown_steps.proofs.laws.autolinks_give_links.Goals as goal

pub returns : goal.returns
returns c = links
