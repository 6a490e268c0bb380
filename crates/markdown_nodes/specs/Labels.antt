-- The labels of the nodes that have several fields besides children and position.
use Rattle.std.specs.Prelude.{option_map, string_bytes}
use Rattle.markdown_nodes.specs.Kinds.{FootnoteDefinition, List as ListNode, Link, LinkReference, ListItem}
use Rattle.markdown_kinds.specs.declared.FootnoteReference.{FootnoteReference}
use Rattle.markdown_kinds.specs.declared.Image.{Image}
use Rattle.markdown_kinds.specs.declared.ImageReference.{ImageReference}
use Rattle.markdown_kinds.specs.declared.Code.{Code}
use Rattle.markdown_kinds.specs.declared.Math.{Math}
use Rattle.markdown_kinds.specs.declared.Definition.{Definition}
use Rattle.markdown_nodes.specs.Tree.{Label, footnote_definition, list, footnote_reference, image, image_reference, link, link_reference, code, math, list_item, definition}

-- the label of a footnote definition
abbrev pub footnote_definition_label : FootnoteDefinition → Label
footnote_definition_label node = footnote_definition (string_bytes node.identifier) (option_map string_bytes node.label)

-- the label of a list
abbrev pub list_label : ListNode → Label
list_label node = list node.ordered node.start node.spread

-- the label of a footnote reference
abbrev pub footnote_reference_label : FootnoteReference → Label
footnote_reference_label node = footnote_reference (string_bytes node.identifier) (option_map string_bytes node.label)

-- the label of an image
abbrev pub image_label : Image → Label
image_label node = image (string_bytes node.alt) (string_bytes node.url) (option_map string_bytes node.title)

-- the label of an image reference
abbrev pub image_reference_label : ImageReference → Label
image_reference_label node = image_reference (string_bytes node.alt) node.reference_kind (string_bytes node.identifier) (option_map string_bytes node.label)

-- the label of a link
abbrev pub link_label : Link → Label
link_label node = link (string_bytes node.url) (option_map string_bytes node.title)

-- the label of a link reference
abbrev pub link_reference_label : LinkReference → Label
link_reference_label node = link_reference node.reference_kind (string_bytes node.identifier) (option_map string_bytes node.label)

-- the label of a block of code
abbrev pub code_label : Code → Label
code_label node = code (string_bytes node.value) (option_map string_bytes node.lang) (option_map string_bytes node.meta)

-- the label of a block of math
abbrev pub math_label : Math → Label
math_label node = math (string_bytes node.value) (option_map string_bytes node.meta)

-- the label of a list item
abbrev pub list_item_label : ListItem → Label
list_item_label node = list_item node.spread node.checked

-- the label of a definition
abbrev pub definition_label : Definition → Label
definition_label node = definition (string_bytes node.url) (option_map string_bytes node.title) (string_bytes node.identifier) (option_map string_bytes node.label)
