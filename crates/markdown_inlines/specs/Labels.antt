-- The summary of the label of a link, an image or a footnote call.
use Rattle.std.specs.Prelude.{◌≡◌, None, Option, Result, Some, Vec, option_map}
use Rattle.std.specs.declared.alloc.Global.{Global}
use Rattle.markdown_events.specs.Texts.{fold}
use Rattle.markdown_events.specs.declared.event.Point.{Point}
use Rattle.markdown_events.specs.declared.role.Part.TheVariants as parts
use Rattle.markdown_grammar.specs.declared.error_kind.Stop.{Stop}
use Rattle.markdown_nodes.specs.Tree.{Trees, nothing, plain_label}
use Rattle.markdown_nodes.specs.View.{views}
use Rattle.markdown_nodes.specs.declared.mdast.Node.{Node}
use Rattle.markdown_steps.specs.Summaries.{PartSummary, named}
use Rattle.markdown_grammar.specs.Document.{Given, visible_between}
use Rattle.markdown_parts.specs.WholeValues.{slice_text}
use Rattle.markdown_parts.specs.PartsSoFar.{PartsSoFar, ReadsText}
use Rattle.markdown_inlines.specs.declared.label.Label.{Label}

-- its visible bytes as an identifier, and its text
abbrev pub label_kept : Option Label → Option PartSummary
label_kept x = option_map (λ (l : Label). named (fold (slice_text l.slice)) (plain_label (views l.nodes.items))) x

-- the nodes of a label
abbrev pub label_nodes : Option Label → Trees
label_nodes None = nothing
label_nodes (Some l) = views l.nodes.items

-- a label has the visible bytes between two points, and these nodes
abbrev pub IsLabelOf : Given → Point → Point → Vec Node Global → Label → Type 0
IsLabelOf given a b nodes made = (slice_text made.slice ≡ visible_between given a b) × (views made.nodes.items ≡ views nodes.items)

-- a label between two points with these nodes is kept, or refused if it is not a text of the document
abbrev pub ReadsLabel : {X : Type 0} → Given → Vec Node Global → Point → Point
    → PartsSoFar → PartsSoFar → Result X Stop → Type 0
ReadsLabel given nodes a b old new result = ReadsText given parts.LabelText (views nodes.items) a b old new result
