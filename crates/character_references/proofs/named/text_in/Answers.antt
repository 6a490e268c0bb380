use Rattle.std.proofs.Common.{rules}
use Rattle.character_references.proofs.named.text_in.Goals as goal

pub returns-in-Some : goal.returns-in-Some
returns-in-Some c = search rules
