-- The names of the kinds of references.
use Rattle.std.specs.Prelude.{ℕ, List, codes}
use Rattle.markdown_kinds.specs.declared.ReferenceKind.{ReferenceKind}
use Rattle.markdown_kinds.specs.declared.ReferenceKind.TheVariants.{Shortcut, Collapsed, Full}

abbrev pub reference_kind_name : ReferenceKind → List ℕ
reference_kind_name Shortcut = codes "Shortcut"
reference_kind_name Collapsed = codes "Collapsed"
reference_kind_name Full = codes "Full"
