-- How the words of what is in a span are said.
use Rattle.std.specs.Prelude.{Bool, false, if◌then◌else◌, not, true, ◌&&◌, ◌||◌}
use Rattle.markdown_events.specs.declared.role.ItemKind.{ItemKind}
use Rattle.markdown_events.specs.declared.role.ItemKind.TheVariants.{Content as content, Part as part}
use Rattle.markdown_events.specs.declared.role.Content.TheVariants as contents
use Rattle.markdown_events.specs.declared.role.Part.TheVariants as parts
use Rattle.markdown_words.specs.declared.setting.Setting.{Setting}
use Rattle.markdown_words.specs.declared.setting.Voice.{Voice}
use Rattle.markdown_words.specs.declared.setting.Voice.TheVariants as voices

-- a task mark of either form
abbrev pub is_task_mark : ItemKind → Bool
is_task_mark (part parts.TaskMarkChecked) = true
is_task_mark (part parts.TaskMarkUnchecked) = true
is_task_mark _ = false

-- a fence of code or math
abbrev pub is_fence : ItemKind → Bool
is_fence (part parts.CodeFencedFence) = true
is_fence (part parts.MathFlowFence) = true
is_fence _ = false

-- the address of an autolink
abbrev pub is_address : ItemKind → Bool
is_address (part parts.AutolinkEmail) = true
is_address (part parts.AutolinkProtocol) = true
is_address _ = false

-- a part of a character reference
abbrev pub is_of_reference : ItemKind → Bool
is_of_reference (part parts.CharacterReferenceMarker) = true
is_of_reference (part parts.CharacterReferenceMarkerNumeric) = true
is_of_reference (part parts.CharacterReferenceMarkerHexadecimal) = true
is_of_reference (part parts.CharacterReferenceValue) = true
is_of_reference _ = false

-- frontmatter, whose value is text in a label alone
abbrev pub is_front : ItemKind → Bool
is_front (content contents.Frontmatter) = true
is_front _ = false

-- a hard break, or the text of a setext heading
abbrev pub is_of_text : ItemKind → Bool
is_of_text (content contents.HardBreak) = true
is_of_text (part parts.HeadingSetextText) = true
is_of_text _ = false

-- data or a line ending
abbrev pub is_plain : ItemKind → Bool
is_plain (content contents.Data) = true
is_plain (content contents.LineEnding) = true
is_plain _ = false

-- a line ending
abbrev pub is_ending : ItemKind → Bool
is_ending (content contents.LineEnding) = true
is_ending _ = false

-- an item of which it is not known here what is said
abbrev pub is_odd : Bool → ItemKind → Bool
is_odd in_label what = is_task_mark what || is_fence what || is_front what && in_label

-- whether it is known what is said of an item
abbrev pub fits : Voice → Bool → ItemKind → Bool
fits voices.Silent in_label what = true
fits voices.Flow in_label what = not (is_odd in_label what || is_of_text what)
fits voices.Text in_label what = not (is_odd in_label what)
fits voices.Broken in_label what = is_ending what
fits voices.Item in_label what = not (is_odd in_label what || is_of_text what)
fits voices.First in_label what = is_task_mark what || not (is_odd in_label what)
fits voices.Marked in_label what = is_plain what
fits voices.Media in_label what = true
fits voices.Autolink in_label what = is_address what
fits voices.Reference in_label what = is_of_reference what
fits voices.Named in_label what = is_of_reference what
fits voices.Numeric in_label what = is_of_reference what
fits voices.Hexadecimal in_label what = is_of_reference what
fits voices.Fenced in_label what = is_fence what
fits voices.Raw in_label what = is_fence what || is_plain what
fits voices.Leaf in_label what = false

-- how the items in content are said
abbrev pub in_content : Bool → ItemKind → Voice
in_content in_label (part parts.HeadingSetextText) = voices.Text
in_content in_label (part _) = voices.Silent
in_content in_label (content contents.Emphasis) = voices.Text
in_content in_label (content contents.Strong) = voices.Text
in_content in_label (content contents.Strikethrough) = voices.Text
in_content in_label (content contents.Paragraph) = voices.Text
in_content in_label (content contents.HeadingAtx) = voices.Text
in_content in_label (content contents.HeadingSetext) = voices.Text
in_content in_label (content contents.BlockQuote) = voices.Flow
in_content in_label (content contents.ListOrdered) = voices.Flow
in_content in_label (content contents.ListUnordered) = voices.Flow
in_content in_label (content contents.FootnoteDefinition) = voices.Flow
in_content in_label (content contents.Table) = voices.Flow
in_content in_label (content contents.TableRow) = voices.Flow
in_content in_label (content contents.TableCell) = voices.Flow
in_content in_label (content contents.ListItem) = voices.Item
in_content in_label (content contents.Link) = voices.Media
in_content in_label (content contents.Image) = voices.Media
in_content in_label (content contents.Autolink) = voices.Autolink
in_content in_label (content contents.CharacterReference) = voices.Reference
in_content in_label (content contents.CodeFenced) = voices.Fenced
in_content in_label (content contents.MathFlow) = voices.Fenced
in_content in_label (content contents.CodeIndented) = voices.Raw
in_content in_label (content contents.CodeText) = voices.Raw
in_content in_label (content contents.MathText) = voices.Raw
in_content in_label (content contents.Html) = if in_label then voices.Raw else voices.Silent
in_content in_label (content contents.ThematicBreak) = voices.Silent
in_content in_label (content contents.FootnoteCall) = voices.Silent
in_content in_label (content contents.Definition) = voices.Silent
in_content in_label (content contents.Frontmatter) = voices.Silent
in_content in_label (content _) = voices.Leaf

-- the same in a list item, where the first paragraph may have a task mark
abbrev pub in_item : Bool → ItemKind → Voice
in_item in_label (content contents.Paragraph) = voices.First
in_item in_label what = in_content in_label what

-- in a link or an image, only the label is said
abbrev pub in_media : ItemKind → Voice
in_media (part parts.LabelText) = voices.Text
in_media _ = voices.Silent

-- in code, fences are not said
abbrev pub in_code : ItemKind → Voice
in_code (part _) = voices.Silent
in_code (content _) = voices.Leaf

-- how the items in an item are said
abbrev pub inside : Voice → Bool → ItemKind → Voice
inside voices.Silent in_label what = voices.Silent
inside voices.Flow in_label what = in_content in_label what
inside voices.Text in_label what = in_content in_label what
inside voices.Broken in_label what = voices.Leaf
inside voices.Item in_label what = in_item in_label what
inside voices.First in_label what = in_content in_label what
inside voices.Marked in_label what = voices.Leaf
inside voices.Media in_label what = in_media what
inside voices.Autolink in_label what = voices.Leaf
inside voices.Reference in_label what = voices.Leaf
inside voices.Named in_label what = voices.Leaf
inside voices.Numeric in_label what = voices.Leaf
inside voices.Hexadecimal in_label what = voices.Leaf
inside voices.Fenced in_label what = in_code what
inside voices.Raw in_label what = in_code what
inside voices.Leaf in_label what = voices.Leaf

-- after an item among inlines
abbrev pub after_text : ItemKind → Voice
after_text (content contents.HardBreak) = voices.Broken
after_text (part parts.HeadingSetextText) = voices.Flow
after_text (part parts.TaskMarkChecked) = voices.Marked
after_text (part parts.TaskMarkUnchecked) = voices.Marked
after_text _ = voices.Text

-- after an item in a list item that has no node yet
abbrev pub after_item : ItemKind → Voice
after_item (content contents.LineEnding) = voices.Item
after_item (content _) = voices.Flow
after_item (part _) = voices.Item

-- after an item in a link or an image
abbrev pub after_media : ItemKind → Voice
after_media (part parts.LabelText) = voices.Silent
after_media _ = voices.Media

-- after a part of a character reference
abbrev pub after_marker : ItemKind → Voice
after_marker (part parts.CharacterReferenceMarker) = voices.Named
after_marker (part parts.CharacterReferenceMarkerNumeric) = voices.Numeric
after_marker (part parts.CharacterReferenceMarkerHexadecimal) = voices.Hexadecimal
after_marker _ = voices.Leaf

-- how what comes after an item is said
abbrev pub after : Voice → ItemKind → Voice
after voices.Silent what = voices.Silent
after voices.Flow what = voices.Flow
after voices.Text what = after_text what
after voices.Broken what = voices.Text
after voices.Item what = after_item what
after voices.First what = after_text what
after voices.Marked what = voices.Text
after voices.Media what = after_media what
after voices.Autolink what = voices.Leaf
after voices.Reference what = after_marker what
after voices.Named what = after_marker what
after voices.Numeric what = after_marker what
after voices.Hexadecimal what = after_marker what
after voices.Fenced what = voices.Raw
after voices.Raw what = voices.Raw
after voices.Leaf what = voices.Leaf

-- an image, whose label is its alternative text
abbrev pub is_image : ItemKind → Bool
is_image (content contents.Image) = true
is_image _ = false

-- a table
abbrev pub is_table : ItemKind → Bool
is_table (content contents.Table) = true
is_table _ = false

-- the setting in an item, after it, and of the root's items
abbrev pub setting_inside : Setting → ItemKind → Setting
setting_inside q what = record { voice = inside q.voice q.in_label what; in_label = is_image what || q.in_label; in_table = is_table what || q.in_table }

abbrev pub setting_after : Setting → ItemKind → Setting
setting_after q what = record { voice = after q.voice what; in_label = q.in_label; in_table = q.in_table }

abbrev pub setting_of_root : Setting
setting_of_root = record { voice = voices.Flow; in_label = false; in_table = false }
