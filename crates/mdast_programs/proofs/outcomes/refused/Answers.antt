use Rattle.std.proofs.Common.{rules}
use Rattle.mdast_programs.proofs.outcomes.refused.Goals as goal

pub returns-clause-status : goal.returns-clause-status
returns-clause-status c = search rules

pub returns-clause-point : goal.returns-clause-point
returns-clause-point c = search rules
