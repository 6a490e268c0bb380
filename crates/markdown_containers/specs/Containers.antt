-- Open spans as containers: the parts so far in a span, by its construct.
use Rattle.std.specs.Prelude.{◌≢◌, List, Option, Result, false, true, Bool, ℕ}
use Rattle.markdown_inlines.specs.Definitions.{definition, footnote_definition}
use Rattle.markdown_blocks.specs.Fences.{code_fence, code_fenced, math_fence, math_flow}
use Rattle.markdown_blocks.specs.Headings.{atx, setext}
use Rattle.markdown_blocks.specs.Lists.{list_item, marked_paragraph, numbered_item, ordered_list, task_paragraph}
use Rattle.markdown_parts.specs.PartsSoFar.{Gains, GainsWords, IsFresh as IsFreshIn, Makes, PartsSoFar, misfit_in, place_with, summary_in, without_parts}
use Rattle.markdown_containers.specs.declared.container.Container.{Container}
use Rattle.markdown_containers.specs.declared.container.Container.TheVariants as containers
use Rattle.markdown_events.specs.declared.event.Point.{Point}
use Rattle.markdown_events.specs.declared.role.Content.{Content}
use Rattle.markdown_events.specs.declared.role.Content.TheVariants as contents
use Rattle.markdown_events.specs.declared.role.ItemKind.{ItemKind}
use Rattle.markdown_events.specs.declared.role.ItemKind.TheVariants as item_kinds
use Rattle.markdown_events.specs.declared.role.Part.{Part}
use Rattle.markdown_events.specs.declared.role.Part.TheVariants as parts
use Rattle.markdown_grammar.specs.Attributes.{Place}
use Rattle.markdown_grammar.specs.Document.{Given, Source, source_of}
use Rattle.markdown_grammar.specs.Grammar as models
use Rattle.markdown_grammar.specs.Grammar.{ContentModel}
use Rattle.markdown_grammar.specs.Refusals.{value_error}
use Rattle.markdown_grammar.specs.Values.{is_read}
use Rattle.markdown_grammar.specs.declared.error_kind.ErrorKind.{ErrorKind}
use Rattle.markdown_grammar.specs.declared.error_kind.Stop.{Stop}
use Rattle.markdown_inlines.specs.Autolinks.{autolink}
use Rattle.markdown_inlines.specs.CharacterReferences.{character_reference}
use Rattle.markdown_inlines.specs.FootnoteCalls.{footnote_call}
use Rattle.markdown_inlines.specs.Media.{media, reference, resource}
use Rattle.markdown_nodes.specs.Tree.{Trees}
use Rattle.markdown_steps.specs.Summaries.{PartSummary, PartPath, Summary}

-- a span that may contain any content, and no part
abbrev pub any_content : PartsSoFar
any_content = without_parts models.any_content

-- the parts so far of a container, by its construct
abbrev pub parts_of : Container → PartsSoFar
parts_of containers.AnyContent = any_content
parts_of (containers.Autolink x) = autolink x
parts_of (containers.Media x) = media x
parts_of (containers.FootnoteCall x) = footnote_call x
parts_of (containers.Resource x) = resource x
parts_of (containers.Reference x) = reference x
parts_of (containers.Definition x) = definition x
parts_of (containers.CharacterReference x) = character_reference x
parts_of (containers.CodeFence x) = code_fence x
parts_of (containers.MathFence x) = math_fence x
parts_of (containers.ListOrdered x) = ordered_list x
parts_of (containers.ListItem x) = list_item x
parts_of (containers.NumberedItem x) = numbered_item x
parts_of (containers.TaskParagraph x) = task_paragraph x
parts_of containers.MarkedParagraph = marked_paragraph
parts_of (containers.FootnoteDefinition x) = footnote_definition x
parts_of (containers.HeadingAtx x) = atx x
parts_of (containers.HeadingSetext x) = setext x
parts_of (containers.CodeFenced x) = code_fenced x
parts_of (containers.MathFlow x) = math_flow x

-- the content model of a container at first
abbrev pub initial_model_of : Container → ContentModel
initial_model_of container = (parts_of container).initial_model

-- the content model of a container now
abbrev pub current_model_of : Container → ContentModel
current_model_of container = (parts_of container).current_model

-- the summary of the part at the end of a path
abbrev pub part_of : Container → PartPath → Option PartSummary
part_of container = (parts_of container).part

-- the byte of the last marker of a character reference
abbrev pub marker_of : Container → Option ℕ
marker_of container = (parts_of container).marker

-- the mark of an item, or of a paragraph in one
abbrev pub mark_of : Container → Option Bool
mark_of container = (parts_of container).mark

-- the number of an item, or the number of the first item of a list that has one
abbrev pub value_of : Container → Option ℕ
value_of container = (parts_of container).value

-- the nodes of the label of a container that has one
abbrev pub label_of : Container → Trees
label_of container = (parts_of container).label

-- the error for the rule of a container that one more item violates, if it violates one
abbrev pub misfit_of : Container → ItemKind → Option ErrorKind
misfit_of container what = misfit_in (parts_of container) what

-- nothing is kept yet in a container with this content model
abbrev pub IsFresh : Container → ContentModel → Type 0
IsFresh container begun = IsFreshIn (parts_of container) begun

-- the summary of a container, with these nodes
abbrev pub summary_with : Container → Trees → Summary
summary_with container ts = summary_in (parts_of container) ts

-- the summary of a container for any content, with these nodes
abbrev pub summary_of_nodes : Trees → Summary
summary_of_nodes ts = summary_with containers.AnyContent ts

-- the change of a container by one more item
abbrev pub Keeps : Source → Place → ItemKind → Point → Point → Summary → Container → Container → Type 0
Keeps s p what a b i old new = Gains s p what a b i (parts_of old) (parts_of new)

-- this change, wherever the item is, and whatever nodes are in it
abbrev pub KeepsAnywhere : ItemKind → Container → Container → Container → Type 0
KeepsAnywhere what inner old new = (s : Source) (p : Place) (a b : Point) (ts : Trees) → Keeps s p what a b (summary_with inner ts) old new

-- a part with this summary is read and kept, or refused if it cannot be read
abbrev pub KeepsPart : {X : Type 0} → Source → Part → Point → Point → Summary → Container → Container → Result X Stop → Type 0
KeepsPart s q a b i old new result =
    (line_endings in_table : Bool) → let p : Place = place_with line_endings in_table (marker_of old) in
    Makes result (is_read s (current_model_of old) p false (item_kinds.Part q) a b) (value_error s (item_kinds.Part q) a b) (λ _. Keeps s p (item_kinds.Part q) a b i old new)

-- a part with these nodes is read and kept, or refused, whatever the decoder knows
abbrev pub KeepsNodes : {X : Type 0} → Given → Part → Point → Point → Trees → Container → Container → Result X Stop → Type 0
KeepsNodes given q a b ts old new result =
    (text : List ℕ → ℕ → Option (List ℕ)) → KeepsPart (source_of given text) q a b (summary_of_nodes ts) old new result

-- a part with this text is kept, whatever its nodes are
abbrev pub KeepsWords : Part → List ℕ → Container → Container → Type 0
KeepsWords q text old new = GainsWords q text (parts_of old) (parts_of new)

-- ---- The content models of content and of parts

-- a content model that this content may have
abbrev pub is_model_of : Content → ContentModel → Bool
is_model_of contents.CharacterReference models.character_reference = true
is_model_of contents.Autolink models.autolink = true
is_model_of contents.Link models.media = true
is_model_of contents.Image models.media = true
is_model_of contents.FootnoteCall models.footnote_call = true
is_model_of contents.Definition models.definition = true
is_model_of contents.ListOrdered models.list_ordered = true
is_model_of contents.ListItem models.list_item = true
is_model_of contents.ListItem models.numbered_item = true
is_model_of contents.Paragraph models.any_content = true
is_model_of contents.Paragraph models.task_paragraph = true
is_model_of contents.Paragraph models.marked_paragraph = true
is_model_of contents.FootnoteDefinition models.footnote_definition = true
is_model_of contents.HeadingAtx models.heading_atx = true
is_model_of contents.HeadingSetext models.heading_setext = true
is_model_of contents.CodeFenced models.code_fenced = true
is_model_of contents.MathFlow models.math_flow = true
is_model_of contents.BlockQuote models.any_content = true
is_model_of contents.CodeIndented models.any_content = true
is_model_of contents.CodeText models.any_content = true
is_model_of contents.Emphasis models.any_content = true
is_model_of contents.Frontmatter models.any_content = true
is_model_of contents.Strikethrough models.any_content = true
is_model_of contents.Table models.any_content = true
is_model_of contents.TableRow models.any_content = true
is_model_of contents.TableCell models.any_content = true
is_model_of contents.Html models.any_content = true
is_model_of contents.ListUnordered models.any_content = true
is_model_of contents.MathText models.any_content = true
is_model_of contents.Strong models.any_content = true
is_model_of _ _ = false

-- a content model that this part may have, other than that of leaves
abbrev pub is_part_model : Part → ContentModel → Bool
is_part_model parts.Resource models.resource = true
is_part_model parts.Reference models.reference = true
is_part_model parts.CodeFencedFence models.code_fence = true
is_part_model parts.MathFlowFence models.math_fence = true
is_part_model parts.LabelText models.any_content = true
is_part_model parts.ReferenceString models.any_content = true
is_part_model parts.DefinitionLabelString models.any_content = true
is_part_model parts.DefinitionDestinationString models.any_content = true
is_part_model parts.DefinitionTitleString models.any_content = true
is_part_model parts.FootnoteDefinitionLabelString models.any_content = true
is_part_model parts.ResourceDestinationString models.any_content = true
is_part_model parts.ResourceTitleString models.any_content = true
is_part_model parts.CodeFencedFenceInfo models.any_content = true
is_part_model parts.CodeFencedFenceMeta models.any_content = true
is_part_model parts.MathFlowFenceMeta models.any_content = true
is_part_model parts.HeadingSetextText models.any_content = true
is_part_model _ _ = false

-- a part that is not a leaf in any content model
abbrev pub IsNoLeaf : Part → Type 0
IsNoLeaf q = (m : ContentModel) → models.part_model m q ≢ models.leaf

-- a part of which only the text is used
abbrev pub is_text_part : Part → Bool
is_text_part parts.DefinitionDestinationString = true
is_text_part parts.DefinitionTitleString = true
is_text_part parts.ResourceDestinationString = true
is_text_part parts.ResourceTitleString = true
is_text_part parts.CodeFencedFenceInfo = true
is_text_part parts.CodeFencedFenceMeta = true
is_text_part parts.MathFlowFenceMeta = true
is_text_part _ = false

-- a part that is itself a label, and names a definition
abbrev pub is_label_string : Part → Bool
is_label_string parts.ReferenceString = true
is_label_string parts.DefinitionLabelString = true
is_label_string parts.FootnoteDefinitionLabelString = true
is_label_string _ = false
