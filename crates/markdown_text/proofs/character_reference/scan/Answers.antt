use Rattle.std.proofs.Common.{rules}
use Rattle.markdown_text.proofs.character_reference.scan.Goals as goal

pub returns-clause-found : goal.returns-clause-found
returns-clause-found g c = search rules
