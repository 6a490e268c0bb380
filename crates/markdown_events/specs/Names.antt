-- The role of each name.
use Rattle.std.specs.Prelude.{Bool}
use denote.Enum.Bare.{sameb}
use Rattle.markdown_events.specs.contracts.event.Name.{the_type}
use Rattle.markdown_events.specs.declared.event.Name.{Name}
use Rattle.markdown_events.specs.declared.event.Name.TheVariants as name
use Rattle.markdown_events.specs.declared.role.Role.{Role}
use Rattle.markdown_events.specs.declared.role.Role.TheVariants.{Transparent as transparent, Significant as significant}
use Rattle.markdown_events.specs.declared.role.ItemKind.TheVariants.{Content as content, Part as part}
use Rattle.markdown_events.specs.declared.role.Content.TheVariants as contents
use Rattle.markdown_events.specs.declared.role.Part.TheVariants as parts
use Rattle.markdown_events.specs.declared.role.TransparentKind.TheVariants as transparents

-- 73 names are significant and 68 transparent; of the transparent ones 61 have the kind Other:
-- no rule names them, but their spans still count as children
abbrev pub role_of : Name → Role
role_of name.Data = significant (content contents.Data)
role_of name.CharacterEscapeValue = significant (content contents.Data)
role_of name.CodeFlowChunk = significant (content contents.Data)
role_of name.CodeTextData = significant (content contents.Data)
role_of name.FrontmatterChunk = significant (content contents.Data)
role_of name.HtmlFlowData = significant (content contents.Data)
role_of name.HtmlTextData = significant (content contents.Data)
role_of name.MathFlowChunk = significant (content contents.Data)
role_of name.MathTextData = significant (content contents.Data)
role_of name.CharacterReference = significant (content contents.CharacterReference)
role_of name.Autolink = significant (content contents.Autolink)
role_of name.BlockQuote = significant (content contents.BlockQuote)
role_of name.CodeFenced = significant (content contents.CodeFenced)
role_of name.CodeIndented = significant (content contents.CodeIndented)
role_of name.CodeText = significant (content contents.CodeText)
role_of name.Definition = significant (content contents.Definition)
role_of name.Emphasis = significant (content contents.Emphasis)
role_of name.Frontmatter = significant (content contents.Frontmatter)
role_of name.GfmAutolinkLiteralEmail = significant (content contents.AutolinkLiteralEmail)
role_of name.GfmAutolinkLiteralWww = significant (content contents.AutolinkLiteralWww)
role_of name.GfmAutolinkLiteralMailto = significant (content contents.AutolinkLiteralWhole)
role_of name.GfmAutolinkLiteralProtocol = significant (content contents.AutolinkLiteralWhole)
role_of name.GfmAutolinkLiteralXmpp = significant (content contents.AutolinkLiteralWhole)
role_of name.GfmFootnoteCall = significant (content contents.FootnoteCall)
role_of name.GfmFootnoteDefinition = significant (content contents.FootnoteDefinition)
role_of name.GfmStrikethrough = significant (content contents.Strikethrough)
role_of name.GfmTable = significant (content contents.Table)
role_of name.GfmTableRow = significant (content contents.TableRow)
role_of name.GfmTableCell = significant (content contents.TableCell)
role_of name.HeadingAtx = significant (content contents.HeadingAtx)
role_of name.HeadingSetext = significant (content contents.HeadingSetext)
role_of name.HtmlFlow = significant (content contents.Html)
role_of name.HtmlText = significant (content contents.Html)
role_of name.Image = significant (content contents.Image)
role_of name.Link = significant (content contents.Link)
role_of name.ListItem = significant (content contents.ListItem)
role_of name.ListOrdered = significant (content contents.ListOrdered)
role_of name.ListUnordered = significant (content contents.ListUnordered)
role_of name.MathFlow = significant (content contents.MathFlow)
role_of name.MathText = significant (content contents.MathText)
role_of name.Paragraph = significant (content contents.Paragraph)
role_of name.Strong = significant (content contents.Strong)
role_of name.ThematicBreak = significant (content contents.ThematicBreak)
role_of name.HardBreakEscape = significant (content contents.HardBreak)
role_of name.HardBreakTrailing = significant (content contents.HardBreak)
role_of name.LineEnding = significant (content contents.LineEnding)
role_of name.AutolinkEmail = significant (part parts.AutolinkEmail)
role_of name.AutolinkProtocol = significant (part parts.AutolinkProtocol)
role_of name.CharacterReferenceMarker = significant (part parts.CharacterReferenceMarker)
role_of name.CharacterReferenceMarkerNumeric = significant (part parts.CharacterReferenceMarkerNumeric)
role_of name.CharacterReferenceMarkerHexadecimal = significant (part parts.CharacterReferenceMarkerHexadecimal)
role_of name.CharacterReferenceValue = significant (part parts.CharacterReferenceValue)
role_of name.CodeFencedFenceInfo = significant (part parts.CodeFencedFenceInfo)
role_of name.CodeFencedFenceMeta = significant (part parts.CodeFencedFenceMeta)
role_of name.DefinitionDestinationString = significant (part parts.DefinitionDestinationString)
role_of name.DefinitionLabelString = significant (part parts.DefinitionLabelString)
role_of name.DefinitionTitleString = significant (part parts.DefinitionTitleString)
role_of name.GfmFootnoteDefinitionLabelString = significant (part parts.FootnoteDefinitionLabelString)
role_of name.LabelText = significant (part parts.LabelText)
role_of name.MathFlowFenceMeta = significant (part parts.MathFlowFenceMeta)
role_of name.ReferenceString = significant (part parts.ReferenceString)
role_of name.ResourceDestinationString = significant (part parts.ResourceDestinationString)
role_of name.ResourceTitleString = significant (part parts.ResourceTitleString)
role_of name.CodeFencedFence = significant (part parts.CodeFencedFence)
role_of name.MathFlowFence = significant (part parts.MathFlowFence)
role_of name.GfmTaskListItemValueChecked = significant (part parts.TaskMarkChecked)
role_of name.GfmTaskListItemValueUnchecked = significant (part parts.TaskMarkUnchecked)
role_of name.HeadingAtxSequence = significant (part parts.HeadingAtxSequence)
role_of name.HeadingSetextText = significant (part parts.HeadingSetextText)
role_of name.HeadingSetextUnderlineSequence = significant (part parts.HeadingSetextUnderlineSequence)
role_of name.ListItemValue = significant (part parts.ListItemValue)
role_of name.Reference = significant (part parts.Reference)
role_of name.Resource = significant (part parts.Resource)
role_of name.BlankLineEnding = transparent transparents.BlankLineEnding
role_of name.SpaceOrTab = transparent transparents.SpaceOrTab
role_of name.ListItemPrefix = transparent transparents.ListItemPrefix
role_of name.BlockQuotePrefix = transparent transparents.BlockQuotePrefix
role_of name.GfmTableDelimiterRow = transparent transparents.DelimiterRow
role_of name.GfmTableDelimiterCellValue = transparent transparents.DelimiterCellValue
role_of name.GfmTableDelimiterMarker = transparent transparents.DelimiterMarker
role_of _ = transparent transparents.Other

-- whether two names are the same
abbrev pub is_same_name : Name → Name → Bool
is_same_name = sameb the_type
