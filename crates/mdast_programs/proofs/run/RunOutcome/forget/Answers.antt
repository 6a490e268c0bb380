use Rattle.std.proofs.Common.{rules}
use Rattle.mdast_programs.proofs.run.RunOutcome.forget.Goals as goal

pub returns : goal.returns
returns c = search rules
