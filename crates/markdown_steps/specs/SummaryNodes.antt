-- The nodes of items, from their summaries.
use Rattle.std.specs.Prelude.{None, Option, Some, [], codes, false, if◌then◌else◌, option_map, true}
use Rattle.std.specs.Option.{option_or}
use Rattle.markdown_nodes.specs.Tree.{Trees, join, nothing, plain_text}
use Rattle.markdown_events.specs.declared.event.Point.{Point}
use Rattle.markdown_kinds.specs.declared.ReferenceKind.{ReferenceKind}
use Rattle.markdown_grammar.specs.Attributes.{Place, inherited_after, inherited_in, unescapes, value}
use Rattle.markdown_steps.specs.Summaries.{Summary, PartSummary, PartPath, address, count_of, identifier_of, summary_of, into, itself, path_through, path_to, text_of, words_of}
use Rattle.markdown_grammar.specs.Decorated.{node_at}
use Rattle.markdown_grammar.specs.Nodes.{Media, frontmatter, image_label, link_label, linked}
use Rattle.markdown_steps.specs.ChildFacts.{ChildFacts, child_facts_of}
use Rattle.markdown_events.specs.Texts.{raw, spaces, trim}
use Rattle.markdown_events.specs.declared.role.ItemKind.{ItemKind}
use Rattle.markdown_grammar.specs.Document.{Source, given_of, is_byte, value_read}
use Rattle.markdown_grammar.specs.Fenced.{fenced}
use Rattle.markdown_grammar.specs.LineEndings.{ending_read}
use Rattle.markdown_grammar.specs.Items.{Items, item, none, same_part, ◌then◌}
use Rattle.markdown_grammar.specs.Tasks.{task_if}
use Rattle.markdown_events.specs.declared.role.ItemKind.TheVariants.{Content as content, Part as part}
use Rattle.markdown_events.specs.declared.role.Part.TheVariants as parts
use Rattle.markdown_kinds.specs.declared.ReferenceKind.TheVariants as reference_kind
use Rattle.markdown_nodes.specs.Tree as tree
use Rattle.markdown_events.specs.declared.role.Content.TheVariants as contents

-- the link of an Autolink: to its address, or to nothing if there is none
abbrev pub autolink : Option PartSummary → Option PartSummary → Point → Point → Trees
autolink (Some (address from to value)) _ start end = linked (codes "mailto:") value start end from to
autolink _ (Some (address from to value)) start end = linked [] value start end from to
autolink _ _ start end = node_at (tree.link [] None) nothing start end

-- the kind of a reference, from its Reference and its ReferenceString: a shortcut without the first, collapsed without the second
abbrev pub reference_kind_of : Option PartSummary → Option PartSummary → ReferenceKind
reference_kind_of None _ = reference_kind.Shortcut
reference_kind_of (Some _) None = reference_kind.Collapsed
reference_kind_of (Some _) (Some _) = reference_kind.Full

-- the target of a Link or an Image: the texts of its Resource, and the kind, identifier and label as a reference
abbrev pub media_of : Summary → Media
media_of i =
    let string : Option PartSummary = i.part (path_through parts.Reference parts.ReferenceString) in
    record {
      resource = option_map (λ (r : PartSummary). (text_of (i.part (path_through parts.Resource parts.ResourceDestinationString)), words_of (i.part (path_through parts.Resource parts.ResourceTitleString))))
          (i.part (path_to parts.Resource));
      kind = reference_kind_of (i.part (path_to parts.Reference)) string;
      identifier = identifier_of (option_or string (i.part (path_to parts.LabelText)));
      label = text_of (option_or string (i.part (path_to parts.LabelText)));
    }

-- the nodes of one span: one node or none. A part has none, except the text of a setext heading, which has the nodes of its items
abbrev pub node_of : Source → Place → ItemKind → Point → Point → ChildFacts → Summary → Trees
node_of s p (content contents.Data) a b _ i = node_at (tree.text (value_read s a b)) nothing a b
node_of s p (content contents.CharacterReference) a b _ i = node_at (tree.text (text_of (i.part (path_to parts.CharacterReferenceValue)))) nothing a b
node_of s p (content contents.LineEnding) a b _ i = if p.line_endings then node_at (tree.text (ending_read s a b)) nothing a b else nothing
node_of s p (content contents.HardBreak) a b _ i = node_at tree.«break» nothing a b
node_of s p (content contents.Autolink) a b _ i = autolink (i.part (path_to parts.AutolinkEmail)) (i.part (path_to parts.AutolinkProtocol)) a b
node_of s p (content contents.AutolinkLiteralEmail) a b _ i = linked (codes "mailto:") (value_read s a b) a b a b
node_of s p (content contents.AutolinkLiteralWww) a b _ i = linked (codes "http://") (value_read s a b) a b a b
node_of s p (content contents.AutolinkLiteralWhole) a b _ i = linked [] (value_read s a b) a b a b
node_of s p (content contents.BlockQuote) a b _ i = node_at tree.blockquote i.nodes a b
node_of s p (content contents.Emphasis) a b _ i = node_at tree.emphasis i.nodes a b
node_of s p (content contents.Strong) a b _ i = node_at tree.strong i.nodes a b
node_of s p (content contents.Strikethrough) a b _ i = node_at tree.delete i.nodes a b
node_of s p (content contents.Paragraph) a b _ i = node_at tree.paragraph i.nodes a b
node_of s p (content contents.Table) a b children i = node_at (tree.table children.align) i.nodes a b
node_of s p (content contents.TableRow) a b _ i = node_at tree.table_row i.nodes a b
node_of s p (content contents.TableCell) a b _ i = node_at tree.table_cell i.nodes a b
node_of s p (content contents.HeadingAtx) a b _ i = node_at (tree.heading (count_of (i.part (path_to parts.HeadingAtxSequence)))) i.nodes a b
node_of s p (content contents.HeadingSetext) a b _ i = node_at (tree.heading (count_of (i.part (path_to parts.HeadingSetextUnderlineSequence)))) i.nodes a b
node_of s p (content contents.ThematicBreak) a b _ i = node_at tree.thematic_break nothing a b
node_of s p (content contents.ListOrdered) a b children i = node_at (tree.list true i.value children.loose_list) i.nodes a b
node_of s p (content contents.ListUnordered) a b children i = node_at (tree.list false None children.loose_list) i.nodes a b
node_of s p (content contents.ListItem) a b children i = node_at (tree.list_item children.loose_item i.mark) (task_if i.mark i.nodes) a b
node_of s p (content contents.CodeFenced) a b _ i =
    node_at (tree.code (fenced (given_of s) b.index i.nodes) (words_of (i.part (path_through parts.CodeFencedFence parts.CodeFencedFenceInfo))) (words_of (i.part (path_through parts.CodeFencedFence parts.CodeFencedFenceMeta)))) nothing a b
node_of s p (content contents.MathFlow) a b _ i = node_at (tree.math (fenced (given_of s) b.index i.nodes) (words_of (i.part (path_through parts.MathFlowFence parts.MathFlowFenceMeta)))) nothing a b
node_of s p (content contents.CodeIndented) a b _ i = node_at (tree.code (trim (plain_text i.nodes) false true) None None) nothing a b
node_of s p (content contents.CodeText) a b _ i = node_at (tree.inline_code (raw (spaces (plain_text i.nodes)) (unescapes s p))) nothing a b
node_of s p (content contents.MathText) a b _ i = node_at (tree.inline_math (raw (spaces (plain_text i.nodes)) (unescapes s p))) nothing a b
node_of s p (content contents.Html) a b _ i = node_at (tree.html (plain_text i.nodes)) nothing a b
node_of s p (content contents.Frontmatter) a b _ i = node_at (frontmatter (is_byte s 43 a) (trim (plain_text i.nodes) true true)) nothing a b
node_of s p (content contents.Definition) a b _ i =
    node_at (tree.definition (text_of (i.part (path_to parts.DefinitionDestinationString))) (words_of (i.part (path_to parts.DefinitionTitleString)))
    (identifier_of (i.part (path_to parts.DefinitionLabelString))) (words_of (i.part (path_to parts.DefinitionLabelString)))) nothing a b
node_of s p (content contents.FootnoteDefinition) a b _ i =
    node_at (tree.footnote_definition (identifier_of (i.part (path_to parts.FootnoteDefinitionLabelString))) (words_of (i.part (path_to parts.FootnoteDefinitionLabelString)))) i.nodes a b
node_of s p (content contents.FootnoteCall) a b _ i =
    node_at (tree.footnote_reference (identifier_of (i.part (path_to parts.LabelText))) (Some (text_of (i.part (path_to parts.LabelText))))) nothing a b
node_of s p (content contents.Link) a b _ i = node_at (link_label (media_of i)) i.label a b
node_of s p (content contents.Image) a b _ i = node_at (image_label (text_of (i.part (path_to parts.LabelText))) (media_of i)) nothing a b
node_of s p (part parts.HeadingSetextText) a b _ i = i.nodes
node_of s p (part _) a b _ i = nothing

-- the nodes of all items, or of those in a part; a break and the line ending after it become one Break
abbrev pub nodes : Source → PartPath → Place → Items → Trees
nodes s which p none = nothing
nodes s itself p (item (content contents.HardBreak) start _ _ _ (item (content contents.LineEnding) _ end _ _ rest)) =
    join (node_at tree.«break» nothing start end) (nodes s itself p rest)
nodes s itself p (item what start end children inner rest) =
    join (node_of s p what start end (child_facts_of children) (summary_of s (inherited_in what p) inner (λ which. nodes s which (inherited_in what p) inner))) (nodes s itself (inherited_after what p) rest)
nodes s (into q way) p (item (part r) _ _ _ inner rest) = elim (same_part q r) [ true ↦ nodes s way (inherited_in (part r) p) inner | false ↦ nodes s (into q way) p rest ]
nodes s (into q way) p (item (content _) _ _ _ _ rest) = nodes s (into q way) p rest
