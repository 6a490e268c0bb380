-- The values that are read, and whether they can be.
use Rattle.std.specs.Prelude.{Bool, is_some, not, true, ◌&&◌, ◌||◌}
use Rattle.markdown_events.specs.Slices.{slice}
use Rattle.markdown_events.specs.declared.event.Point.{Point}
use Rattle.markdown_events.specs.declared.role.ItemKind.{ItemKind}
use Rattle.markdown_grammar.specs.Attributes.{Place, decoded}
use Rattle.markdown_grammar.specs.Grammar.{ContentModel, heading_atx}
use Rattle.markdown_grammar.specs.Document.{Source, byte_at, is_depth, is_item_number, length_between}
use Rattle.markdown_events.specs.declared.role.ItemKind.TheVariants.{Content as content, Part as part}
use Rattle.markdown_events.specs.declared.role.Content.TheVariants as contents
use Rattle.markdown_events.specs.declared.role.Part.TheVariants as parts

-- the span's own value, if it is read at all, can be read; `after_break` says whether a break comes before it
abbrev pub is_read : Source → ContentModel → Place → Bool → ItemKind → Point → Point → Bool
is_read s model p after_break (content contents.Data) a b = is_some (slice s.bytes a b)
is_read s model p after_break (content contents.AutolinkLiteralEmail) a b = is_some (slice s.bytes a b)
is_read s model p after_break (content contents.AutolinkLiteralWww) a b = is_some (slice s.bytes a b)
is_read s model p after_break (content contents.AutolinkLiteralWhole) a b = is_some (slice s.bytes a b)
is_read s model p after_break (content contents.LineEnding) a b = not (p.line_endings && not after_break) || is_some (slice s.bytes a b)
is_read s model p after_break (part parts.AutolinkEmail) a b = is_some (slice s.bytes a b)
is_read s model p after_break (part parts.AutolinkProtocol) a b = is_some (slice s.bytes a b)
is_read s model p after_break (part parts.CharacterReferenceValue) a b = is_some (slice s.bytes a b) && is_some (decoded s p a b)
is_read s model p after_break (part parts.LabelText) a b = is_some (slice s.bytes a b)
is_read s model p after_break (part parts.ReferenceString) a b = is_some (slice s.bytes a b)
is_read s model p after_break (part parts.DefinitionLabelString) a b = is_some (slice s.bytes a b)
is_read s model p after_break (part parts.FootnoteDefinitionLabelString) a b = is_some (slice s.bytes a b)
is_read s model p after_break (part parts.ListItemValue) a b = is_item_number (slice s.bytes a b)
is_read s model p after_break (part parts.HeadingSetextUnderlineSequence) a b = is_some (byte_at s.bytes a)
is_read s heading_atx p after_break (part parts.HeadingAtxSequence) a b = is_depth (length_between s.bytes a b)
is_read s model p after_break _ a b = true
