-- The spans that a document can have, by the constructs that are on.
use Rattle.std.specs.Prelude.{Bool, List, [], true, ◌&&◌, ◌∷◌, ◌≡◌}
use Rattle.markdown_events.specs.declared.event.Event.{Event}
use Rattle.markdown_events.specs.declared.event.Name.{Name}
use Rattle.markdown_events.specs.declared.event.Name.TheVariants.{Autolink, BlockQuote, CharacterEscape, CharacterReference, CodeFenced, CodeIndented, CodeText, Definition, Emphasis, Frontmatter, GfmAutolinkLiteralEmail, GfmAutolinkLiteralMailto, GfmAutolinkLiteralProtocol, GfmAutolinkLiteralWww, GfmAutolinkLiteralXmpp, GfmFootnoteCall, GfmFootnoteDefinition, GfmStrikethrough, GfmTable, GfmTaskListItemCheck, HardBreakEscape, HardBreakTrailing, HeadingAtx, HeadingSetext, HtmlFlow, HtmlText, Image, Link, ListItem, ListOrdered, ListUnordered, MathFlow, MathText, Strong, ThematicBreak}
use Rattle.markdown_options.specs.declared.Constructs.{Constructs}

-- the construct of a span with this name is on. The names not listed belong to no construct, or occur only within the listed spans
abbrev pub is_on : Constructs → Name → Bool
is_on c Autolink = c.autolink
is_on c BlockQuote = c.block_quote
is_on c CharacterEscape = c.character_escape
is_on c CharacterReference = c.character_reference
is_on c CodeFenced = c.code_fenced
is_on c CodeIndented = c.code_indented
is_on c CodeText = c.code_text
is_on c Definition = c.definition
is_on c Emphasis = c.attention
is_on c Frontmatter = c.frontmatter
is_on c GfmAutolinkLiteralEmail = c.gfm_autolink_literal
is_on c GfmAutolinkLiteralMailto = c.gfm_autolink_literal
is_on c GfmAutolinkLiteralProtocol = c.gfm_autolink_literal
is_on c GfmAutolinkLiteralWww = c.gfm_autolink_literal
is_on c GfmAutolinkLiteralXmpp = c.gfm_autolink_literal
is_on c GfmFootnoteCall = c.gfm_label_start_footnote && c.label_end
is_on c GfmFootnoteDefinition = c.gfm_footnote_definition
is_on c GfmStrikethrough = c.gfm_strikethrough
is_on c GfmTable = c.gfm_table
is_on c GfmTaskListItemCheck = c.gfm_task_list_item
is_on c HardBreakEscape = c.hard_break_escape
is_on c HardBreakTrailing = c.hard_break_trailing
is_on c HeadingAtx = c.heading_atx
is_on c HeadingSetext = c.heading_setext
is_on c HtmlFlow = c.html_flow
is_on c HtmlText = c.html_text
is_on c Image = c.label_start_image && c.label_end
is_on c Link = c.label_start_link && c.label_end
is_on c ListItem = c.list_item
is_on c ListOrdered = c.list_item
is_on c ListUnordered = c.list_item
is_on c MathFlow = c.math_flow
is_on c MathText = c.math_text
is_on c Strong = c.attention
is_on c ThematicBreak = c.thematic_break
is_on c _ = true

-- the construct of each event's span is on
abbrev pub AreOn : Constructs → List Event → Type 0
AreOn c [] = Unit {0}
AreOn c (e ∷ es) = (is_on c e.name ≡ true) × AreOn c es
