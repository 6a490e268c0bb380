use Rattle.std.proofs.Common.{rules}
use Rattle.character_references.proofs.decoder.NoReferencesReferences.decode.Goals as goal

pub returns : goal.returns
returns c = search rules
