use Rattle.markdown_acceptance.proofs.Leading.{leads-exit}
use Rattle.markdown_acceptance.proofs.laws.exits_lead.Goals as goal

pub returns : goal.returns
returns c s point old new may closed = leads-exit s point old new may closed
