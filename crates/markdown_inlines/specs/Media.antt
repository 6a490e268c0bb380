-- The parts so far of a link or an image, and of its resource or its reference.
use Rattle.std.specs.Prelude.{List, None, Option, Some, [], option_map, string_bytes, unwrap_or, ℕ}
use Rattle.markdown_events.specs.declared.role.Part.TheVariants as parts
use Rattle.markdown_nodes.specs.Tree as tree
use Rattle.markdown_nodes.specs.Tree.{Label as TreeLabel, nothing}
use Rattle.markdown_kinds.specs.declared.ReferenceKind.{ReferenceKind}
use Rattle.markdown_grammar.specs.Grammar as models
use Rattle.markdown_grammar.specs.Nodes.{image_label, link_label}
use Rattle.markdown_steps.specs.Summaries.{PartSummary, PartPath, identifier_of, into, itself, stood, text_of}
use Rattle.markdown_steps.specs.SummaryNodes.{media_of}
use Rattle.markdown_parts.specs.Labels.{identified_kept}
use Rattle.markdown_parts.specs.PartsSoFar.{PartsSoFar, ending, ending_text, summary_in, with_parts}
use Rattle.markdown_inlines.specs.Labels.{label_kept, label_nodes}
use Rattle.markdown_parts.specs.declared.label.Identified.{Identified}
use Rattle.markdown_inlines.specs.declared.label.Label.{Label}
use Rattle.markdown_inlines.specs.declared.media.MediaParts.{MediaParts}
use Rattle.markdown_inlines.specs.declared.media.ReferenceParts.{ReferenceParts}
use Rattle.markdown_inlines.specs.declared.media.ResourceParts.{ResourceParts}
use Rattle.markdown_inlines.specs.declared.media.Target.{Target}
use Rattle.markdown_inlines.specs.declared.media.Target.TheVariants as targets

-- the parts of a resource
abbrev pub in_resource : ResourceParts → PartPath → Option PartSummary
in_resource x (into parts.ResourceDestinationString way) = ending_text x.destination way
in_resource x (into parts.ResourceTitleString way) = ending_text x.title way
in_resource x way = None

-- a resource, with its parts
abbrev pub resource : ResourceParts → PartsSoFar
resource x = with_parts models.resource (in_resource x)

-- the part of a reference
abbrev pub in_reference : ReferenceParts → PartPath → Option PartSummary
in_reference x (into parts.ReferenceString way) = ending (identified_kept x.string) way
in_reference x way = None

-- a reference, with its part
abbrev pub reference : ReferenceParts → PartsSoFar
reference x = with_parts models.reference (in_reference x)

-- the resource in a target, and its parts
abbrev pub resource_of : Target → PartPath → Option PartSummary
resource_of (targets.Resource x) itself = Some stood
resource_of (targets.Resource x) (into p way) = in_resource x (into p way)
resource_of _ way = None

-- the reference in a target, and its part
abbrev pub reference_of : Target → PartPath → Option PartSummary
reference_of (targets.Reference x) itself = Some stood
reference_of (targets.Reference x) (into p way) = in_reference x (into p way)
reference_of _ way = None

-- the parts of a link or an image
abbrev pub in_media : MediaParts → PartPath → Option PartSummary
in_media x (into parts.LabelText way) = ending (label_kept x.label) way
in_media x (into parts.Resource way) = resource_of x.target way
in_media x (into parts.Reference way) = reference_of x.target way
in_media x way = None

-- a link or an image, with its parts and the nodes of its label
abbrev pub media : MediaParts → PartsSoFar
media x = record (with_parts models.media (in_media x)) { label = label_nodes x.label }

-- ---- The labels of their nodes

-- the label of a link
abbrev pub link_of : MediaParts → TreeLabel
link_of x = link_label (media_of (summary_in (media x) nothing))

-- the label of a link to what its own label names
abbrev pub link_by_label : ReferenceKind → Option Label → TreeLabel
link_by_label kind label = tree.link_reference kind (identifier_of (label_kept label)) (Some (text_of (label_kept label)))

-- the label of a link to what this identifier names
abbrev pub link_by_name : ReferenceKind → Identified → TreeLabel
link_by_name kind x = tree.link_reference kind (string_bytes x.identifier) (Some (string_bytes x.label))

-- the label of an image
abbrev pub image_of : MediaParts → TreeLabel
image_of x = image_label (text_of (label_kept x.label)) (media_of (summary_in (media x) nothing))

-- the label of an image at the address of a resource
abbrev pub image_by_resource : List ℕ → ResourceParts → TreeLabel
image_by_resource alt x = tree.image alt (unwrap_or (option_map string_bytes x.destination) []) (option_map string_bytes x.title)

-- the label of an image of what its own label names
abbrev pub image_by_label : List ℕ → ReferenceKind → Option Label → TreeLabel
image_by_label alt kind label = tree.image_reference alt kind (identifier_of (label_kept label)) (Some alt)

-- the label of an image of what this identifier names
abbrev pub image_by_name : List ℕ → ReferenceKind → Identified → TreeLabel
image_by_name alt kind x = tree.image_reference alt kind (string_bytes x.identifier) (Some (string_bytes x.label))
