-- The parts so far of a definition or a footnote definition, and the labels of their nodes.
use Rattle.std.specs.Prelude.{None, Option, [], option_map, string_bytes, unwrap_or}
use Rattle.markdown_inlines.specs.declared.definition.DefinitionParts.{DefinitionParts}
use Rattle.markdown_inlines.specs.declared.footnote_definition.FootnoteDefinitionParts.{FootnoteDefinitionParts}
use Rattle.markdown_parts.specs.Labels.{identified_kept}
use Rattle.markdown_parts.specs.PartsSoFar.{PartsSoFar, ending, ending_text, with_parts}
use Rattle.markdown_events.specs.declared.role.Part.TheVariants as parts
use Rattle.markdown_grammar.specs.Grammar as models
use Rattle.markdown_nodes.specs.Tree as tree
use Rattle.markdown_nodes.specs.Tree.{Label as TreeLabel}
use Rattle.markdown_steps.specs.Summaries.{PartSummary, PartPath, identifier_of, into, words_of}

-- the parts of a definition
abbrev pub in_definition : DefinitionParts → PartPath → Option PartSummary
in_definition x (into parts.DefinitionLabelString way) = ending (identified_kept x.label) way
in_definition x (into parts.DefinitionDestinationString way) = ending_text x.destination way
in_definition x (into parts.DefinitionTitleString way) = ending_text x.title way
in_definition x way = None

-- a definition, with its parts
abbrev pub definition : DefinitionParts → PartsSoFar
definition x = with_parts models.definition (in_definition x)

-- the label of a definition's node
abbrev pub definition_label : DefinitionParts → TreeLabel
definition_label x = tree.definition (unwrap_or (option_map string_bytes x.destination) []) (option_map string_bytes x.title)
    (identifier_of (identified_kept x.label)) (words_of (identified_kept x.label))

-- the part of a footnote definition
abbrev pub in_footnote_definition : FootnoteDefinitionParts → PartPath → Option PartSummary
in_footnote_definition x (into parts.FootnoteDefinitionLabelString way) = ending (identified_kept x.label) way
in_footnote_definition x way = None

-- a footnote definition, with its part
abbrev pub footnote_definition : FootnoteDefinitionParts → PartsSoFar
footnote_definition x = with_parts models.footnote_definition (in_footnote_definition x)

-- the label of a footnote definition's node
abbrev pub footnote_label : FootnoteDefinitionParts → TreeLabel
footnote_label x = tree.footnote_definition (identifier_of (identified_kept x.label)) (words_of (identified_kept x.label))
