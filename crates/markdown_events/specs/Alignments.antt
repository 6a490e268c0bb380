-- The names of column alignments.
use Rattle.std.specs.Prelude.{ℕ, List, codes}
use Rattle.markdown_events.specs.declared.infer.AlignKind.{AlignKind}
use Rattle.markdown_events.specs.declared.infer.AlignKind.TheVariants as kinds

abbrev pub alignment_name : AlignKind → List ℕ
alignment_name kinds.Left = codes "Left"
alignment_name kinds.Right = codes "Right"
alignment_name kinds.Center = codes "Center"
alignment_name kinds.None = codes "None"
