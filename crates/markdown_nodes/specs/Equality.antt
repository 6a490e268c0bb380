-- A test for the equality of trees.
use Rattle.std.specs.Prelude.{◌≡◌, ◌↔◌, IsTrue, Bool, true, false, ◌&&◌, bytes_eq, nat_eq}
use Rattle.std.specs.Option.{option_eq}
use lib.Pointwise.{pointwise}
use denote.Enum.Bare.{sameb}
use mathlib.Core.Bool.{beq}
use Rattle.markdown_events.specs.declared.infer.AlignKind.{AlignKind}
use Rattle.markdown_events.specs.contracts.infer.AlignKind.{the_type as align_type}
use Rattle.markdown_kinds.specs.declared.ReferenceKind.{ReferenceKind}
use Rattle.markdown_kinds.specs.contracts.ReferenceKind.{the_type as reference_type}
use Rattle.markdown_events.specs.declared.unist.Point.{Point}
use Rattle.markdown_events.specs.declared.unist.Position.{Position}
use Rattle.markdown_nodes.specs.Tree.{Label, Tree, Trees, node, nothing, root, paragraph, blockquote, emphasis, strong, delete, table_row, table_cell, thematic_break, «break», text, html, inline_code, inline_math, yaml, toml, heading, list, list_item, table, code, math, link, image, link_reference, image_reference, footnote_reference, footnote_definition, definition}

-- whether two columns have the same alignment
abbrev pub same_align_kind : AlignKind → AlignKind → Bool
same_align_kind = sameb align_type

-- whether two references are of the same kind
abbrev pub same_reference_kind : ReferenceKind → ReferenceKind → Bool
same_reference_kind = sameb reference_type

-- whether two points are the same
abbrev pub same_point : Point → Point → Bool
same_point first second = nat_eq first.line second.line && (nat_eq first.column second.column && nat_eq first.offset second.offset)

-- whether two positions are the same
abbrev pub same_position : Position → Position → Bool
same_position first second = same_point first.start second.start && same_point first.end second.end

-- whether two nodes have the same kind and the same fields, except children and position
unfoldable pub same_label : Label → Label → Bool
same_label root root = true
same_label paragraph paragraph = true
same_label blockquote blockquote = true
same_label emphasis emphasis = true
same_label strong strong = true
same_label delete delete = true
same_label table_row table_row = true
same_label table_cell table_cell = true
same_label thematic_break thematic_break = true
same_label «break» «break» = true
same_label (text value) (text value') = bytes_eq value value'
same_label (html value) (html value') = bytes_eq value value'
same_label (inline_code value) (inline_code value') = bytes_eq value value'
same_label (inline_math value) (inline_math value') = bytes_eq value value'
same_label (yaml value) (yaml value') = bytes_eq value value'
same_label (toml value) (toml value') = bytes_eq value value'
same_label (heading depth) (heading depth') = nat_eq depth depth'
same_label (list ordered start spread) (list ordered' start' spread') = beq ordered ordered' && (option_eq nat_eq start start' && beq spread spread')
same_label (list_item spread checked) (list_item spread' checked') = beq spread spread' && option_eq beq checked checked'
same_label (table align) (table align') = pointwise same_align_kind align align'
same_label (code value lang meta) (code value' lang' meta') = bytes_eq value value' && (option_eq bytes_eq lang lang' && option_eq bytes_eq meta meta')
same_label (math value meta) (math value' meta') = bytes_eq value value' && option_eq bytes_eq meta meta'
same_label (link url title) (link url' title') = bytes_eq url url' && option_eq bytes_eq title title'
same_label (image alt url title) (image alt' url' title') = bytes_eq alt alt' && (bytes_eq url url' && option_eq bytes_eq title title')
same_label (link_reference reference_kind identifier label) (link_reference reference_kind' identifier' label') = same_reference_kind reference_kind reference_kind' && (bytes_eq identifier identifier' && option_eq bytes_eq label label')
same_label (image_reference alt reference_kind identifier label) (image_reference alt' reference_kind' identifier' label') = bytes_eq alt alt' && (same_reference_kind reference_kind reference_kind' && (bytes_eq identifier identifier' && option_eq bytes_eq label label'))
same_label (footnote_reference identifier label) (footnote_reference identifier' label') = bytes_eq identifier identifier' && option_eq bytes_eq label label'
same_label (footnote_definition identifier label) (footnote_definition identifier' label') = bytes_eq identifier identifier' && option_eq bytes_eq label label'
same_label (definition url title identifier label) (definition url' title' identifier' label') = bytes_eq url url' && (option_eq bytes_eq title title' && (bytes_eq identifier identifier' && option_eq bytes_eq label label'))
same_label _ _ = false

-- whether two lists of nodes are the same
unfoldable pub same_trees : Trees → Trees → Bool
same_trees nothing nothing = true
same_trees (node label children position rest) (node label' children' position' rest') = (same_label label label' && same_trees children children') && (option_eq same_position position position' && same_trees rest rest')
same_trees _ _ = false

-- whether two trees are the same
unfoldable pub same_tree : Tree → Tree → Bool
same_tree first second = same_label first.label second.label && (same_trees first.children second.children && option_eq same_position first.position second.position)

-- a test of two values tells whether they are the same tree
abbrev pub Tells : {X : Type 0} → (X → X → Bool) → (X → Tree) → Type 0
Tells {X} test tree = (a b : X) → IsTrue (test a b) ↔ (tree a ≡ tree b)
