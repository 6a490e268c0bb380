use Rattle.markdown_acceptance.proofs.Accepting.{tracked-accepted}
use Rattle.markdown_acceptance.proofs.laws.done_is_accepted.Goals as goal

pub returns : goal.returns
returns c s events spans tracks frames waits = tracked-accepted s events spans tracks frames waits
