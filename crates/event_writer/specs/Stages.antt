-- Stages: how far an open span has come, and what may come next in it. For a caller that must prove that no call is refused.
use Rattle.std.specs.Prelude.{Bool, None, Option, Some, false, if◌then◌else◌, not, true, ℕ, ◌&&◌, ◌≡◌, ◌⊎◌}
use Rattle.markdown_events.specs.declared.event.Name.{Name}
use Rattle.markdown_events.specs.declared.role.Content.{Content}
use Rattle.markdown_events.specs.declared.role.Content.TheVariants as contents
use Rattle.markdown_events.specs.declared.role.ItemKind.TheVariants.{Content as content, Part as part}
use Rattle.markdown_events.specs.declared.role.Part.{Part}
use Rattle.markdown_events.specs.declared.role.Part.TheVariants as parts
use Rattle.markdown_events.specs.declared.role.Role.{Role}
use Rattle.markdown_events.specs.declared.role.Role.TheVariants.{Significant as significant, Transparent as transparent}
use Rattle.markdown_events.specs.declared.role.TransparentKind.{TransparentKind}
use Rattle.markdown_events.specs.declared.role.TransparentKind.TheVariants as transparents

-- a stage of an open span: what may come next, given what came before
pub data Stage : Type 0 where
  -- blocks, outside tables: at the root, in a block quote or in an item. The flag says that the item has its number
  flow : (numbered : Bool) → Stage
  -- blocks, before the first block of an item
  item : (numbered : Bool) → Stage
  -- inlines, lines of code, rows and cells. The flag says that a closing sequence of a heading may come too
  inlines : (in_heading : Bool) → Stage
  -- inlines, and before them the mark of a task
  task : Stage
  -- only line endings, and nothing at all
  endings nothing : Stage
  -- the items of a list; for an ordered list, by whether one of them has had a number
  list_unordered list_ordered list_numbered : Stage
  -- the number of an item, and the label of a footnote definition
  item_number footnote_definition : Stage
  -- the opening sequence of an ATX heading
  heading_atx : Stage
  -- the text of a setext heading, and its underline
  heading_setext heading_setext_underline : Stage
  -- the first fence of a block, and its lines and later fences
  code_fenced code_lines math_flow math_lines : Stage
  -- the info and the meta of a fence
  code_fence code_fence_meta math_fence : Stage
  -- the remaining parts of a definition
  definition definition_destination definition_title : Stage
  -- the cells of a delimiter row, and the value of one
  delimiter_row delimiter_value : Stage
  -- the remaining parts of a link or an image, and those of its target
  media media_target resource resource_title reference : Stage
  -- the label of a footnote call, and the address of an autolink
  footnote_call autolink : Stage
  -- the first marker of a character reference; then more markers or its value, by the last marker
  character_reference : Stage
  character_reference_value : (marker : ℕ) → Stage

-- the second stage may follow the first with no item in between: it allows less, or says less about what came before
abbrev pub skips : Stage → Stage → Bool
skips (item n) (flow false) = true
skips (item true) (flow true) = true
skips (flow true) (flow false) = true
skips task (inlines false) = true
skips list_numbered list_ordered = true
skips code_fence code_fence_meta = true
skips code_fence nothing = true
skips code_fence_meta nothing = true
skips math_fence nothing = true
skips footnote_definition (flow false) = true
skips definition definition_destination = true
skips definition definition_title = true
skips definition endings = true
skips definition_destination definition_title = true
skips definition_destination endings = true
skips definition_title endings = true
skips media media_target = true
skips media endings = true
skips media_target endings = true
skips resource resource_title = true
skips resource endings = true
skips resource_title endings = true
skips reference endings = true
skips footnote_call nothing = true
skips _ _ = false

-- `b` is `a`, or a stage that allows or says less
abbrev pub IsWeaker : Stage → Stage → Type 0
IsWeaker a b = (a ≡ b) ⊎ (skips a b ≡ true)

-- ---- The items that may come next

-- inlines, and what is treated like them
abbrev pub takes_inlines : Stage → Bool
takes_inlines (flow _) = true
takes_inlines (item _) = true
takes_inlines (inlines _) = true
takes_inlines task = true
takes_inlines code_lines = true
takes_inlines math_lines = true
takes_inlines _ = false

-- a line ending
abbrev pub takes_line_endings : Stage → Bool
takes_line_endings endings = true
takes_line_endings list_unordered = true
takes_line_endings list_ordered = true
takes_line_endings list_numbered = true
takes_line_endings heading_setext_underline = true
takes_line_endings definition = true
takes_line_endings definition_destination = true
takes_line_endings definition_title = true
takes_line_endings media = true
takes_line_endings media_target = true
takes_line_endings resource = true
takes_line_endings resource_title = true
takes_line_endings reference = true
takes_line_endings a = takes_inlines a

-- the span may end
abbrev pub may_end : Stage → Bool
may_end endings = true
may_end nothing = true
may_end list_unordered = true
may_end list_numbered = true
may_end code_fence = true
may_end code_fence_meta = true
may_end math_fence = true
may_end definition = true
may_end definition_destination = true
may_end definition_title = true
may_end media = true
may_end media_target = true
may_end resource = true
may_end resource_title = true
may_end reference = true
may_end footnote_call = true
may_end a = takes_inlines a

-- ---- The first stage in a span

-- in an inline, a row or a cell, where inlines may come
abbrev pub in_inline : Content → Option Stage
in_inline contents.CharacterReference = Some character_reference
in_inline contents.Autolink = Some autolink
in_inline contents.CodeText = Some (inlines false)
in_inline contents.Emphasis = Some (inlines false)
in_inline contents.FootnoteCall = Some footnote_call
in_inline contents.Html = Some (inlines false)
in_inline contents.Image = Some media
in_inline contents.Link = Some media
in_inline contents.MathText = Some (inlines false)
in_inline contents.Strikethrough = Some (inlines false)
in_inline contents.Strong = Some (inlines false)
in_inline contents.TableCell = Some (inlines false)
in_inline contents.TableRow = Some (inlines false)
in_inline _ = None

-- in a block, where blocks may come
abbrev pub in_block : Content → Option Stage
in_block contents.BlockQuote = Some (flow false)
in_block contents.CodeFenced = Some code_fenced
in_block contents.CodeIndented = Some (inlines false)
in_block contents.Definition = Some definition
in_block contents.FootnoteDefinition = Some footnote_definition
in_block contents.Frontmatter = Some (inlines false)
in_block contents.HeadingAtx = Some heading_atx
in_block contents.HeadingSetext = Some heading_setext
in_block contents.Html = Some (inlines false)
in_block contents.ListOrdered = Some list_ordered
in_block contents.ListUnordered = Some list_unordered
in_block contents.MathFlow = Some math_flow
in_block contents.Paragraph = Some (inlines false)
in_block contents.Table = Some (inlines false)
in_block contents.ThematicBreak = Some nothing
in_block _ = None

-- in content
abbrev pub in_content : Stage → Content → Option Stage
in_content (item _) contents.Paragraph = Some task
in_content (item _) c = in_block c
in_content (flow _) c = in_block c
in_content list_unordered contents.ListItem = Some (item false)
in_content list_ordered contents.ListItem = Some item_number
in_content list_numbered contents.ListItem = Some item_number
in_content (inlines _) c = in_inline c
in_content task c = in_inline c
in_content _ _ = None

-- in a part
abbrev pub in_part : Stage → Part → Option Stage
in_part item_number parts.ListItemValue = Some nothing
in_part footnote_definition parts.FootnoteDefinitionLabelString = Some (inlines false)
in_part heading_atx parts.HeadingAtxSequence = Some nothing
in_part (inlines true) parts.HeadingAtxSequence = Some nothing
in_part heading_setext parts.HeadingSetextText = Some (inlines false)
in_part heading_setext_underline parts.HeadingSetextUnderlineSequence = Some nothing
in_part code_fenced parts.CodeFencedFence = Some code_fence
in_part code_lines parts.CodeFencedFence = Some nothing
in_part math_flow parts.MathFlowFence = Some math_fence
in_part math_lines parts.MathFlowFence = Some nothing
in_part code_fence parts.CodeFencedFenceInfo = Some (inlines false)
in_part code_fence parts.CodeFencedFenceMeta = Some (inlines false)
in_part code_fence_meta parts.CodeFencedFenceMeta = Some (inlines false)
in_part math_fence parts.MathFlowFenceMeta = Some (inlines false)
in_part definition parts.DefinitionLabelString = Some (inlines false)
in_part definition_destination parts.DefinitionDestinationString = Some (inlines false)
in_part definition_title parts.DefinitionTitleString = Some (inlines false)
in_part media parts.LabelText = Some (inlines false)
in_part media parts.Resource = Some resource
in_part media parts.Reference = Some reference
in_part media_target parts.Resource = Some resource
in_part media_target parts.Reference = Some reference
in_part resource parts.ResourceDestinationString = Some (inlines false)
in_part resource parts.ResourceTitleString = Some (inlines false)
in_part resource_title parts.ResourceTitleString = Some (inlines false)
in_part reference parts.ReferenceString = Some (inlines false)
in_part footnote_call parts.LabelText = Some (inlines false)
in_part autolink parts.AutolinkEmail = Some nothing
in_part autolink parts.AutolinkProtocol = Some nothing
in_part character_reference parts.CharacterReferenceMarker = Some nothing
in_part (character_reference_value m) parts.CharacterReferenceMarkerNumeric = Some nothing
in_part (character_reference_value m) parts.CharacterReferenceMarkerHexadecimal = Some nothing
in_part (character_reference_value m) parts.CharacterReferenceValue = Some nothing
in_part task parts.TaskMarkChecked = Some nothing
in_part task parts.TaskMarkUnchecked = Some nothing
in_part _ _ = None

-- in a transparent span: the stage around it, except in delimiter rows and their cell values; a sealed span has none
abbrev pub in_transparent : Stage → TransparentKind → Option Stage
in_transparent a transparents.BlankLineEnding = None
in_transparent a transparents.SpaceOrTab = None
in_transparent (inlines _) transparents.DelimiterRow = Some delimiter_row
in_transparent a transparents.DelimiterRow = None
in_transparent delimiter_row transparents.DelimiterCellValue = Some delimiter_value
in_transparent a transparents.DelimiterCellValue = None
in_transparent a _ = Some a

-- the first stage in a span that begins at a stage, if it may begin
abbrev pub entered : Stage → Role → Option Stage
entered a (transparent k) = in_transparent a k
entered a (significant (content c)) = in_content a c
entered a (significant (part p)) = in_part a p

-- ---- The stage after a span

-- after a part
abbrev pub after_part : Stage → Part → Stage
after_part item_number _ = item true
after_part footnote_definition _ = flow false
after_part heading_atx _ = inlines true
after_part (inlines _) _ = inlines true
after_part heading_setext _ = heading_setext_underline
after_part code_fenced _ = code_lines
after_part code_lines _ = code_lines
after_part math_flow _ = math_lines
after_part math_lines _ = math_lines
after_part code_fence parts.CodeFencedFenceInfo = code_fence_meta
after_part definition _ = definition_destination
after_part definition_destination _ = definition_title
after_part definition_title _ = endings
after_part media parts.LabelText = media_target
after_part media _ = endings
after_part media_target _ = endings
after_part resource parts.ResourceDestinationString = resource_title
after_part resource _ = endings
after_part resource_title _ = endings
after_part reference _ = endings
after_part character_reference _ = character_reference_value 38
after_part (character_reference_value m) parts.CharacterReferenceMarkerNumeric = character_reference_value 35
after_part (character_reference_value m) parts.CharacterReferenceMarkerHexadecimal = character_reference_value 120
after_part task _ = inlines false
after_part _ _ = nothing

-- after content, by the last stage in it
abbrev pub after_content : Stage → Stage → Stage
after_content list_ordered (flow true) = list_numbered
after_content list_ordered (item true) = list_numbered
after_content (item n) own = flow n
after_content a own = a

-- whether a stage is in a delimiter row, and whether it is in the value of one of its cells
abbrev pub is_in_row : Stage → Bool
is_in_row delimiter_row = true
is_in_row delimiter_value = true
is_in_row _ = false

abbrev pub is_in_value : Stage → Bool
is_in_value delimiter_value = true
is_in_value _ = false

-- two stages agree on being in a delimiter row, and on being in a cell value
abbrev pub are_beside : Stage → Stage → Bool
are_beside own a = (if is_in_row own then is_in_row a else not (is_in_row a)) && (if is_in_value own then is_in_value a else not (is_in_value a))

-- a part whose value is more than a text: it can only be written as a token
abbrev pub is_token_alone : Part → Bool
is_token_alone parts.CharacterReferenceValue = true
is_token_alone parts.HeadingAtxSequence = true
is_token_alone parts.HeadingSetextUnderlineSequence = true
is_token_alone parts.ListItemValue = true
is_token_alone _ = false

-- the stage after a span, from the last stage in it and the one at which it began, if it may end;
-- the prefix of an item ends before the item's first block
abbrev pub exited : Stage → Stage → Role → Option Stage
exited own a (transparent transparents.DelimiterRow) = if is_in_row own then Some a else None
exited own a (transparent transparents.DelimiterCellValue) = if is_in_row own then Some a else None
exited (item n) a (transparent transparents.ListItemPrefix) = if are_beside (item n) a then Some (item n) else None
exited own a (transparent transparents.ListItemPrefix) = None
exited own a (transparent k) = if are_beside own a then Some own else None
exited own a (significant (content c)) = if may_end own then Some (after_content a own) else None
exited own a (significant (part p)) = if may_end own && not (is_token_alone p) then Some (after_part a p) else None

-- ---- The stage after a token, a span with nothing in it

-- after content
abbrev pub after_leaf : Stage → Content → Option Stage
after_leaf a contents.Data = if takes_inlines a then Some a else None
after_leaf a contents.AutolinkLiteralEmail = if takes_inlines a then Some a else None
after_leaf a contents.AutolinkLiteralWww = if takes_inlines a then Some a else None
after_leaf a contents.AutolinkLiteralWhole = if takes_inlines a then Some a else None
after_leaf a contents.LineEnding = if takes_line_endings a then Some a else None
after_leaf a _ = None

-- after a part with nothing in it
abbrev pub after_leaf_part : Stage → Part → Option Stage → Option Stage
after_leaf_part a p (Some nothing) = Some (after_part a p)
after_leaf_part a p _ = None

-- after a transparent span
abbrev pub after_transparent : Stage → TransparentKind → Option Stage
after_transparent a transparents.DelimiterRow = None
after_transparent a transparents.DelimiterCellValue = None
after_transparent a transparents.ListItemPrefix = None
after_transparent a _ = Some a

-- the stage after a token, if it may come at this stage
abbrev pub written : Stage → Role → Option Stage
written a (transparent k) = after_transparent a k
written a (significant (content c)) = after_leaf a c
written a (significant (part p)) = after_leaf_part a p (in_part a p)

-- ---- The spans around

-- an open span: its name, and the stage at which it began
pub record Enclosing : Type 0 where
  pub name : Name
  pub stage : Stage
