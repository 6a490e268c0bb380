use Rattle.std.proofs.Common.{rules}
use Rattle.mdast_programs.proofs.check.checked_tree.Goals as goal

pub returns : goal.returns
returns c = search rules
