use Rattle.std.proofs.Common.{rules}
use Rattle.character_references.proofs.named.named.Goals as goal

pub returns-in-None : goal.returns-in-None
returns-in-None c = search rules
