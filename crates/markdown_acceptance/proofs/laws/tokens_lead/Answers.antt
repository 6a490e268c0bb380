use Rattle.markdown_acceptance.proofs.Leading.{leads-token}
use Rattle.markdown_acceptance.proofs.laws.tokens_lead.Goals as goal

pub returns : goal.returns
returns c s name start end old new may written = leads-token s name start end old new may written
