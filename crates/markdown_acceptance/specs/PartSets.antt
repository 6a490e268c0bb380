-- The parts in a set.
use Rattle.std.specs.Prelude.{Bool, false, slice_index_or}
use denote.Enum.Declared.{tag_of}
use Rattle.markdown_events.specs.contracts.role.Part.{the_type}
use Rattle.markdown_events.specs.declared.role.Part.{Part}
use Rattle.markdown_acceptance.specs.declared.part_set.PartSet.{PartSet}

-- a set contains a part
abbrev pub contains : PartSet → Part → Bool
contains parts part = slice_index_or parts.members (tag_of the_type part) false
