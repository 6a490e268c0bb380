-- The parts so far of a list, of its items and of the paragraphs of task items.
use Rattle.std.specs.Prelude.{Bool, None, Option, Some, false, is_some, true}
use Rattle.markdown_blocks.specs.declared.list.ListItemParts.{ListItemParts}
use Rattle.markdown_blocks.specs.declared.list.NumberedItemParts.{NumberedItemParts}
use Rattle.markdown_blocks.specs.declared.list.OrderedListParts.{OrderedListParts}
use Rattle.markdown_blocks.specs.declared.list.TaskParagraphParts.{TaskParagraphParts}
use Rattle.markdown_parts.specs.PartsSoFar.{GainsItem, PartsSoFar, after_if, ending, stood_if, with_parts, without_parts}
use Rattle.markdown_events.specs.declared.role.Content.TheVariants as contents
use Rattle.markdown_events.specs.declared.role.ItemKind.TheVariants as item_kinds
use Rattle.markdown_events.specs.declared.role.Part.{Part}
use Rattle.markdown_events.specs.declared.role.Part.TheVariants as parts
use Rattle.markdown_grammar.specs.Grammar as models
use Rattle.markdown_steps.specs.Summaries.{PartSummary, PartPath, into, stood}

-- an ordered list
abbrev pub ordered_list : OrderedListParts → PartsSoFar
ordered_list x = record (without_parts models.list_ordered) { value = x.start }

-- an item of an unordered list
abbrev pub list_item : ListItemParts → PartsSoFar
list_item x = record (without_parts models.list_item) {
  current_model = after_if models.list_item models.marked_item x.mark;
  mark = x.mark;
}

-- the parts of an item of an ordered list
abbrev pub in_numbered_item : NumberedItemParts → PartPath → Option PartSummary
in_numbered_item x (into parts.ListItemValue way) = ending (stood_if (is_some x.value)) way
in_numbered_item x way = None

-- an item of an ordered list
abbrev pub numbered_item : NumberedItemParts → PartsSoFar
numbered_item x = record (with_parts models.numbered_item (in_numbered_item x)) {
  current_model = after_if models.numbered_item models.marked_numbered_item x.mark;
  mark = x.mark;
  value = x.value;
}

-- a list keeps the number of an item
abbrev pub GainsNumberedItem : NumberedItemParts → PartsSoFar → PartsSoFar → Type 0
GainsNumberedItem item old new = GainsItem (item_kinds.Content contents.ListItem) (numbered_item item) old new

-- the part for this mark, if it is the one that occurred
abbrev pub mark_if : Bool → Option Bool → Option PartSummary
mark_if true (Some true) = Some stood
mark_if false (Some false) = Some stood
mark_if _ _ = None

-- the parts of a paragraph in an item without a mark
abbrev pub in_task_paragraph : TaskParagraphParts → PartPath → Option PartSummary
in_task_paragraph x (into parts.TaskMarkChecked way) = ending (mark_if true x.mark) way
in_task_paragraph x (into parts.TaskMarkUnchecked way) = ending (mark_if false x.mark) way
in_task_paragraph x way = None

-- a paragraph in an item without a mark
abbrev pub task_paragraph : TaskParagraphParts → PartsSoFar
task_paragraph x = record (with_parts models.task_paragraph (in_task_paragraph x)) { mark = x.mark }

-- an item keeps the mark of a paragraph
abbrev pub GainsParagraph : TaskParagraphParts → PartsSoFar → PartsSoFar → Type 0
GainsParagraph paragraph old new = GainsItem (item_kinds.Content contents.Paragraph) (task_paragraph paragraph) old new

-- a paragraph in an item with a mark
abbrev pub marked_paragraph : PartsSoFar
marked_paragraph = without_parts models.marked_paragraph

-- the part for a mark
abbrev pub part_of_mark : Bool → Part
part_of_mark true = parts.TaskMarkChecked
part_of_mark false = parts.TaskMarkUnchecked
