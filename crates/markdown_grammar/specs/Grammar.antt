-- The grammar: rules, the content model of each span, the items that each content model accepts, and what it requires.
use Rattle.std.specs.Prelude.{Bool, List, [], false, is_some, not, true, ◌&&◌, ◌||◌, ◌∷◌}
use Rattle.std.specs.List.{list_all, list_any}
use Rattle.markdown_events.specs.declared.role.ItemKind.{ItemKind}
use Rattle.markdown_events.specs.declared.role.Part.{Part}
use Rattle.markdown_grammar.specs.Items.{Items, is_content, is_line_ending, is_one_of, is_part, kinds, no_item, ◌or◌}
use Rattle.markdown_events.specs.declared.role.Content.{Content}
use Rattle.markdown_events.specs.declared.role.ItemKind.TheVariants.{Content as content, Part as part}
use Rattle.markdown_grammar.specs.Attributes.{value}
use Rattle.markdown_grammar.specs.Document.{Source}
use Rattle.markdown_events.specs.declared.role.Content.TheVariants as contents
use Rattle.markdown_events.specs.declared.role.Part.TheVariants as parts

-- at least one item passes the test
abbrev pub any_item : (ItemKind → Bool) → List ItemKind → Bool
any_item test xs = list_any test xs

-- a rule for the items of a container; if a list keeps a rule, so does each prefix of the list
pub data Rule : Type 0 where
  -- every item passes the test
  only : (ItemKind → Bool) → Rule
  -- at most one item is one of these parts
  at_most_one : List Part → Rule
  -- no item is one of these parts
  none_of : List Part → Rule
  -- after any of these parts, every item passes the test
  only_after : List Part → (ItemKind → Bool) → Rule
  -- before the first of these parts, every item passes the test
  only_before : List Part → (ItemKind → Bool) → Rule

-- a list of items keeps a rule
abbrev pub keeps : Rule → List ItemKind → Bool
keeps rule [] = true
keeps (only test) (what ∷ xs) = test what && keeps (only test) xs
keeps (at_most_one ps) (what ∷ xs) = (not (is_one_of ps what) || not (any_item (is_one_of ps) xs)) && keeps (at_most_one ps) xs
keeps (none_of ps) (what ∷ xs) = not (is_one_of ps what) && keeps (none_of ps) xs
keeps (only_after ps test) (what ∷ xs) = (not (is_one_of ps what) || list_all test xs) && keeps (only_after ps test) xs
keeps (only_before ps test) (what ∷ xs) = is_one_of ps what || (test what && keeps (only_before ps test) xs)

-- the content models
pub data ContentModel : Type 0 where
  any_content autolink media footnote_call resource reference definition character_reference
      code_fence math_fence leaf list_ordered list_item numbered_item marked_item marked_numbered_item
      task_paragraph marked_paragraph footnote_definition heading_atx heading_text heading_setext
      code_fenced math_flow code_buffer math_buffer : ContentModel

-- the content model of content, in a container with content model `model`
abbrev pub content_model : ContentModel → Content → ContentModel
content_model model contents.Data = leaf
content_model model contents.AutolinkLiteralEmail = leaf
content_model model contents.AutolinkLiteralWww = leaf
content_model model contents.AutolinkLiteralWhole = leaf
content_model model contents.HardBreak = leaf
content_model model contents.ThematicBreak = leaf
content_model model contents.LineEnding = leaf
content_model model contents.CharacterReference = character_reference
content_model model contents.Autolink = autolink
content_model model contents.Link = media
content_model model contents.Image = media
content_model model contents.FootnoteCall = footnote_call
content_model model contents.Definition = definition
content_model model contents.ListOrdered = list_ordered
content_model list_ordered contents.ListItem = numbered_item
content_model model contents.ListItem = list_item
content_model list_item contents.Paragraph = task_paragraph
content_model numbered_item contents.Paragraph = task_paragraph
content_model marked_item contents.Paragraph = marked_paragraph
content_model marked_numbered_item contents.Paragraph = marked_paragraph
content_model model contents.FootnoteDefinition = footnote_definition
content_model model contents.HeadingAtx = heading_atx
content_model model contents.HeadingSetext = heading_setext
content_model model contents.CodeFenced = code_fenced
content_model model contents.MathFlow = math_flow
content_model model _ = any_content

-- the content model of a part, in a container with content model `model`; a fence is a leaf unless it is the first in its block
abbrev pub part_model : ContentModel → Part → ContentModel
part_model code_fenced parts.CodeFencedFence = code_fence
part_model math_flow parts.MathFlowFence = math_fence
part_model model parts.CodeFencedFence = leaf
part_model model parts.MathFlowFence = leaf
part_model model parts.Resource = resource
part_model model parts.Reference = reference
part_model model parts.AutolinkEmail = leaf
part_model model parts.AutolinkProtocol = leaf
part_model model parts.CharacterReferenceMarker = leaf
part_model model parts.CharacterReferenceMarkerNumeric = leaf
part_model model parts.CharacterReferenceMarkerHexadecimal = leaf
part_model model parts.CharacterReferenceValue = leaf
part_model model parts.TaskMarkChecked = leaf
part_model model parts.TaskMarkUnchecked = leaf
part_model model parts.HeadingAtxSequence = leaf
part_model model parts.HeadingSetextUnderlineSequence = leaf
part_model model parts.ListItemValue = leaf
part_model model _ = any_content

-- the content model of an item, in a container with content model `model`
abbrev pub model_of : ContentModel → ItemKind → ContentModel
model_of model (content c) = content_model model c
model_of model (part p) = part_model model p

-- the content model after a Paragraph, by whether that gives a mark
abbrev pub marked_if : ContentModel → ContentModel → Bool → ContentModel
marked_if before marked true = marked
marked_if before marked false = before

-- the content model after an item: a fenced block is a buffer after its first fence, an ATX heading is text after its first sequence,
-- and a list item is marked after a Paragraph that gives a mark
abbrev pub model_after : ContentModel → ItemKind → Bool → ContentModel
model_after code_fenced (part parts.CodeFencedFence) m = code_buffer
model_after math_flow (part parts.MathFlowFence) m = math_buffer
model_after heading_atx (part parts.HeadingAtxSequence) m = heading_text
model_after list_item (content contents.Paragraph) m = marked_if list_item marked_item m
model_after numbered_item (content contents.Paragraph) m = marked_if numbered_item marked_numbered_item m
model_after model _ m = model

-- the three markers of a character reference
abbrev pub markers : List Part
markers = parts.CharacterReferenceMarker ∷ parts.CharacterReferenceMarkerNumeric ∷ parts.CharacterReferenceMarkerHexadecimal ∷ []

-- the two marks of a task item
abbrev pub task_marks : List Part
task_marks = parts.TaskMarkChecked ∷ parts.TaskMarkUnchecked ∷ []

-- the two values of an Autolink
abbrev pub addresses : List Part
addresses = parts.AutolinkEmail ∷ parts.AutolinkProtocol ∷ []

-- the two kinds of target of a Link or an Image
abbrev pub targets : List Part
targets = parts.Resource ∷ parts.Reference ∷ []

-- only line endings and these parts
abbrev pub parts_alone : List Part → Rule
parts_alone ps = only (is_line_ending or is_one_of ps)

-- only content and these parts
abbrev pub content_and : List Part → Rule
content_and ps = only (is_content or is_one_of ps)

-- the rules of each content model; those about what may occur only once come first
abbrev pub rules : ContentModel → List Rule
rules leaf = only no_item ∷ []
rules autolink = at_most_one addresses ∷ parts_alone addresses ∷ []
rules media =
    at_most_one (parts.LabelText ∷ []) ∷ at_most_one (parts.Resource ∷ []) ∷ at_most_one (parts.Reference ∷ []) ∷ parts_alone (parts.LabelText ∷ targets) ∷ only_after targets is_line_ending ∷ []
rules footnote_call = at_most_one (parts.LabelText ∷ []) ∷ parts_alone (parts.LabelText ∷ []) ∷ []
rules resource =
    at_most_one (parts.ResourceDestinationString ∷ []) ∷ at_most_one (parts.ResourceTitleString ∷ []) ∷ parts_alone (parts.ResourceDestinationString ∷ parts.ResourceTitleString ∷ []) ∷ []
rules reference = at_most_one (parts.ReferenceString ∷ []) ∷ parts_alone (parts.ReferenceString ∷ []) ∷ []
rules definition =
    at_most_one (parts.DefinitionLabelString ∷ []) ∷ at_most_one (parts.DefinitionDestinationString ∷ []) ∷ at_most_one (parts.DefinitionTitleString ∷ [])
    ∷ parts_alone (parts.DefinitionLabelString ∷ parts.DefinitionDestinationString ∷ parts.DefinitionTitleString ∷ []) ∷ []
rules character_reference =
    at_most_one (parts.CharacterReferenceValue ∷ []) ∷ only (is_one_of markers or is_part parts.CharacterReferenceValue) ∷ only_after (parts.CharacterReferenceValue ∷ []) no_item ∷ only_before markers no_item ∷ []
rules code_fence = at_most_one (parts.CodeFencedFenceInfo ∷ []) ∷ at_most_one (parts.CodeFencedFenceMeta ∷ []) ∷ only (is_part parts.CodeFencedFenceInfo or is_part parts.CodeFencedFenceMeta) ∷ []
rules math_fence = at_most_one (parts.MathFlowFenceMeta ∷ []) ∷ only (is_part parts.MathFlowFenceMeta) ∷ []
rules numbered_item = at_most_one (parts.ListItemValue ∷ []) ∷ content_and (parts.ListItemValue ∷ []) ∷ []
rules task_paragraph = at_most_one task_marks ∷ content_and task_marks ∷ []
rules marked_paragraph = none_of task_marks ∷ content_and task_marks ∷ []
rules footnote_definition = at_most_one (parts.FootnoteDefinitionLabelString ∷ []) ∷ content_and (parts.FootnoteDefinitionLabelString ∷ []) ∷ []
rules heading_atx = content_and (parts.HeadingAtxSequence ∷ []) ∷ []
rules heading_setext =
    at_most_one (parts.HeadingSetextUnderlineSequence ∷ []) ∷ at_most_one (parts.HeadingSetextText ∷ []) ∷ content_and (parts.HeadingSetextUnderlineSequence ∷ parts.HeadingSetextText ∷ [])
    ∷ only_after (parts.HeadingSetextText ∷ []) (is_line_ending or is_part parts.HeadingSetextUnderlineSequence) ∷ []
rules code_fenced = content_and (parts.CodeFencedFence ∷ []) ∷ only_before (parts.CodeFencedFence ∷ []) is_line_ending ∷ []
rules math_flow = content_and (parts.MathFlowFence ∷ []) ∷ only_before (parts.MathFlowFence ∷ []) is_line_ending ∷ []
rules _ = only is_content ∷ []

-- the items so far keep every rule of the content model; more items may follow
abbrev pub conforms : ContentModel → List ItemKind → Bool
conforms model xs = list_all (λ rule. keeps rule xs) (rules model)

-- this part is among the items
abbrev pub has_part : Part → Items → Bool
has_part p xs = any_item (is_part p) (kinds xs)

-- the items include what the content model requires: a part, or for an ordered list a number from one of its items
abbrev pub has_required : Source → ContentModel → Items → Bool
has_required s character_reference xs = has_part parts.CharacterReferenceValue xs
has_required s heading_atx xs = has_part parts.HeadingAtxSequence xs
has_required s heading_setext xs = has_part parts.HeadingSetextUnderlineSequence xs
has_required s code_fenced xs = has_part parts.CodeFencedFence xs
has_required s math_flow xs = has_part parts.MathFlowFence xs
has_required s list_ordered xs = is_some (value s xs)
has_required s _ xs = true
