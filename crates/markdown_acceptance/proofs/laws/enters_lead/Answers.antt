use Rattle.markdown_acceptance.proofs.Leading.{leads-enter}
use Rattle.markdown_acceptance.proofs.laws.enters_lead.Goals as goal

pub returns : goal.returns
returns c s name point old new may opened = leads-enter s name point old new may opened
