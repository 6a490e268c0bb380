-- The spans that are open in a leaf, given those around it.
use Rattle.std.specs.Prelude.{Bool, List, false, true}
use Rattle.event_writer.specs.Stages.{Enclosing, code_lines, flow, inlines, math_lines}
use Rattle.markdown_events.specs.declared.event.Name.{Name}
use Rattle.markdown_events.specs.declared.event.Name.TheVariants as names
use Rattle.markdown_pieces.specs.Walks.{State, at, inside}
use Rattle.markdown_flow.specs.declared.leaf.Leaf.{Leaf}
use Rattle.markdown_flow.specs.declared.leaf.Leaf.TheVariants as leaves
use Rattle.markdown_flow.specs.declared.raw_flow.FencedLine.{FencedLine}
use Rattle.markdown_flow.specs.declared.raw_flow.FencedLine.TheVariants.{Closing}
use Rattle.markdown_flow.specs.declared.raw_flow.RawFlow.{RawFlow}
use Rattle.markdown_flow.specs.declared.raw_flow.RawFlow.TheVariants.{Code, Math}

-- among blocks
abbrev pub in_flow : Bool → List Enclosing → State
in_flow n outer = at (flow n) outer

-- the name of a fenced block
abbrev pub raw_name : RawFlow → Name
raw_name Code = names.CodeFenced
raw_name Math = names.MathFlow

-- between fences
abbrev pub in_raw : RawFlow → Bool → List Enclosing → State
in_raw Code n outer = at code_lines (inside names.CodeFenced (flow n) outer)
in_raw Math n outer = at math_lines (inside names.MathFlow (flow n) outer)

-- after a line of a fenced block
abbrev pub after_fenced : FencedLine → RawFlow → Bool → List Enclosing → State
after_fenced Closing content n outer = in_flow n outer
after_fenced _ content n outer = in_raw content n outer

-- in indented code
abbrev pub in_code : Bool → List Enclosing → State
in_code n outer = at (inlines false) (inside names.CodeIndented (flow n) outer)

-- in a block of HTML, or after it if the flag is set
abbrev pub in_html : Bool → Bool → List Enclosing → State
in_html false n outer = at (inlines false) (inside names.HtmlFlow (flow n) outer)
in_html true n outer = in_flow n outer

-- in a table: after its head, or in its body if the flag is set
abbrev pub in_table : Bool → Bool → List Enclosing → State
in_table false n outer = at (inlines false) (inside names.GfmTable (flow n) outer)
in_table true n outer = at (inlines false) (inside names.GfmTableBody (inlines false) (inside names.GfmTable (flow n) outer))

-- in a leaf; a paragraph has no span until its lines are written
abbrev pub in_leaf : Leaf → Bool → List Enclosing → State
in_leaf leaves.None n outer = in_flow n outer
in_leaf leaves.Paragraph n outer = in_flow n outer
in_leaf leaves.CodeIndented n outer = in_code n outer
in_leaf (leaves.RawFlow fence _) n outer = in_raw fence.content n outer
in_leaf (leaves.Html _) n outer = in_html false n outer
in_leaf (leaves.Table has_body) n outer = in_table has_body n outer
