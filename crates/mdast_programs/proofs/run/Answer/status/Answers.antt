use Rattle.std.proofs.Common.{refl}
use Rattle.mdast_programs.proofs.run.Answer.status.Goals as goal

pub returns-in-Refused : goal.returns-in-Refused
returns-in-Refused c = rw c.in-Refused.is refl
