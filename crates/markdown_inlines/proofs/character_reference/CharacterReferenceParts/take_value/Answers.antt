use Rattle.std.proofs.Common.{rules}
use Rattle.markdown_inlines.proofs.character_reference.CharacterReferenceParts.take_value.Goals as goal

pub returns-in_default-2 : goal.returns-in_default-2
returns-in_default-2 g c = search rules

pub returns : goal.returns
returns g c = search rules
