use Rattle.std.proofs.Common.{rules}
use Rattle.mdast_programs.proofs.request.Request.of.Goals as goal

pub returns-then-is_some : goal.returns-then-is_some
returns-then-is_some c = search rules

pub returns : goal.returns
returns c = search rules
