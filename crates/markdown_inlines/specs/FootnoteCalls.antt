-- The parts so far of a footnote call.
use Rattle.std.specs.Prelude.{None, Option, Some}
use Rattle.markdown_events.specs.declared.role.Part.TheVariants as parts
use Rattle.markdown_grammar.specs.Grammar as models
use Rattle.markdown_nodes.specs.Tree as tree
use Rattle.markdown_nodes.specs.Tree.{Label as TreeLabel}
use Rattle.markdown_steps.specs.Summaries.{PartSummary, PartPath, identifier_of, into, text_of}
use Rattle.markdown_parts.specs.PartsSoFar.{PartsSoFar, ending, with_parts}
use Rattle.markdown_inlines.specs.Labels.{label_kept, label_nodes}
use Rattle.markdown_inlines.specs.declared.footnote_call.FootnoteCallParts.{FootnoteCallParts}

-- the part of a footnote call
abbrev pub in_footnote_call : FootnoteCallParts → PartPath → Option PartSummary
in_footnote_call x (into parts.LabelText way) = ending (label_kept x.label) way
in_footnote_call x way = None

-- a footnote call, with its part and the nodes of its label
abbrev pub footnote_call : FootnoteCallParts → PartsSoFar
footnote_call x = record (with_parts models.footnote_call (in_footnote_call x)) { label = label_nodes x.label }

-- the label of its node, which refers to what the label of the call names
abbrev pub call_label : FootnoteCallParts → TreeLabel
call_label x = tree.footnote_reference (identifier_of (label_kept x.label)) (Some (text_of (label_kept x.label)))
