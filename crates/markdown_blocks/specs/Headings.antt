-- The parts so far of a heading.
use Rattle.std.specs.Prelude.{None, Option, option_map, ℕ}
use Rattle.markdown_blocks.specs.declared.heading.AtxParts.{AtxParts}
use Rattle.markdown_blocks.specs.declared.heading.SetextParts.{SetextParts}
use Rattle.markdown_parts.specs.PartsSoFar.{PartsSoFar, after_if, ending, stood_if, with_parts}
use Rattle.markdown_events.specs.declared.role.Part.TheVariants as parts
use Rattle.markdown_grammar.specs.Grammar.{heading_atx, heading_setext, heading_text}
use Rattle.markdown_nodes.specs.Tree as tree
use Rattle.markdown_nodes.specs.Tree.{Label as TreeLabel}
use Rattle.markdown_steps.specs.Summaries.{PartSummary, PartPath, count, count_of, into}

-- the parts of an ATX heading
abbrev pub in_atx : AtxParts → PartPath → Option PartSummary
in_atx x (into parts.HeadingAtxSequence way) = ending (option_map count x.depth) way
in_atx x way = None

-- an ATX heading, which has another content model once it has a depth
abbrev pub atx : AtxParts → PartsSoFar
atx x = record (with_parts heading_atx (in_atx x)) { current_model = after_if heading_atx heading_text x.depth }

-- the parts of a setext heading
abbrev pub in_setext : SetextParts → PartPath → Option PartSummary
in_setext x (into parts.HeadingSetextUnderlineSequence way) = ending (option_map count x.depth) way
in_setext x (into parts.HeadingSetextText way) = ending (stood_if x.has_text) way
in_setext x way = None

-- a setext heading
abbrev pub setext : SetextParts → PartsSoFar
setext x = with_parts heading_setext (in_setext x)

-- the label of a heading with this depth
abbrev pub heading_label : Option ℕ → TreeLabel
heading_label depth = tree.heading (count_of (option_map count depth))
