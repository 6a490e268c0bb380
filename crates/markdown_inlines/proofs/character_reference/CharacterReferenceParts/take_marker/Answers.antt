use Rattle.std.proofs.Common.{rules}
use Rattle.markdown_inlines.proofs.character_reference.CharacterReferenceParts.take_marker.Goals as goal

pub returns : goal.returns
returns c = search rules
