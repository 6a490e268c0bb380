use Rattle.mdast_check.proofs.Undefining.{undefined-open}
use Rattle.mdast_check.proofs.laws.undefined_are_open.Goals as goal

pub returns : goal.returns
returns c = undefined-open
