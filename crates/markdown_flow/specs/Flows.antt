-- The open leaf, and the lines that are kept for it.
use Rattle.std.specs.Prelude.{Bool, List, OnOk, Result, [], false, true, ◌≡◌}
use Rattle.event_writer.specs.Stages.{Enclosing}
use Rattle.markdown_pieces.specs.Tilings.{Spot}
use Rattle.markdown_flow.specs.Contents.{AreKept, after_lines}
use Rattle.markdown_flow.specs.Leaves.{in_leaf}
use Rattle.markdown_flow.specs.Outputs.{Opens, Stands, source_of, spot}
use Rattle.markdown_flow.specs.declared.flow.Flow.{Flow}
use Rattle.markdown_flow.specs.declared.leaf.Leaf.{Leaf}
use Rattle.markdown_flow.specs.declared.leaf.Leaf.TheVariants.{CodeIndented, Paragraph}
use Rattle.markdown_flow.specs.declared.output.Output.{Output}

-- lines are kept for a leaf
abbrev pub keeps_lines : Leaf → Bool
keeps_lines Paragraph = true
keeps_lines CodeIndented = true
keeps_lines _ = false

-- the pieces tile the document up to the kept lines of the open leaf
pub record StandsWith (flow : Flow) (output : Output) : Type 0 where
  pub stands : Stands output
  pub kept : AreKept (source_of output) flow.content.prefixes.items (spot output.cursor) flow.content.lines.items
  pub none : keeps_lines flow.leaf ≡ false → flow.content.lines.items ≡ []

-- the start of the line after the kept lines
abbrev pub end_with : Flow → Output → Spot
end_with flow output = after_lines (spot output.cursor) flow.content.lines.items

-- the settled pieces lead into the open leaf
abbrev pub OpensIn : Flow → Output → Bool → List Enclosing → Type 0
OpensIn flow output n outer = Opens output (in_leaf flow.leaf n outer)

-- a call leads from one leaf to another in the same containers, unless it fails
abbrev pub LeadsOn : {X E : Type 0} → Result X E → Flow → Flow → Output → Output → Type 0
LeadsOn result old new before after = (n : Bool) → (outer : List Enclosing) → OpensIn old before n outer → OnOk result (OpensIn new after n outer)
