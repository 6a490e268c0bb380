-- The starts of leaves and of containers.
use Rattle.std.specs.Prelude.{None, Option, Some, true, ℕ, ◌≡◌}
use Rattle.std.specs.Str.{IsAscii}
use Rattle.commonmark_syntax.specs.Cuts.{IsCut}
use Rattle.markdown_flow.specs.Leaves.{raw_name}
use Rattle.markdown_flow.specs.Markers.{HasLabel, HasMarker, HasSigns}
use Rattle.markdown_flow.specs.Outputs.{constructs_in}
use Rattle.markdown_flow.specs.declared.container.ContainerStart.{ContainerStart}
use Rattle.markdown_flow.specs.declared.container.ContainerStart.TheVariants.{BlockQuote, FootnoteDefinition, ListItem}
use Rattle.markdown_flow.specs.declared.leaf.LeafStart.{LeafStart}
use Rattle.markdown_flow.specs.declared.leaf.LeafStart.TheVariants.{CodeIndented, HeadingAtx, Html, RawFlow, ThematicBreak}
use Rattle.markdown_flow.specs.declared.line.Line.{Line}
use Rattle.markdown_options.specs.Spans.{is_on}

-- a leaf can have this start in a line, and its construct is on
abbrev pub IsStart : LeafStart → Line → Type 0
IsStart CodeIndented line = (constructs_in line).code_indented ≡ true
IsStart (RawFlow fence) line = IsCut line.text.now fence.size × (is_on (constructs_in line) (raw_name fence.content) ≡ true)
IsStart (Html _) line = (constructs_in line).html_flow ≡ true
IsStart (HeadingAtx size) line = HasSigns line.text.now size × ((constructs_in line).heading_atx ≡ true)
IsStart ThematicBreak line = IsAscii line.text.now × ((constructs_in line).thematic_break ≡ true)

-- a container can have this start in a line, and its construct is on
abbrev pub IsContainerStart : ContainerStart → Line → Type 0
IsContainerStart BlockQuote line = (constructs_in line).block_quote ≡ true
IsContainerStart (ListItem item) line = HasMarker line.text.now item.digits × ((constructs_in line).list_item ≡ true)
IsContainerStart (FootnoteDefinition size) line = HasLabel line.text.now size × ((constructs_in line).gfm_footnote_definition ≡ true)

-- the marker of an item, if one begins
abbrev pub marker_of : ContainerStart → Option ℕ
marker_of (ListItem item) = Some item.marker
marker_of _ = None
