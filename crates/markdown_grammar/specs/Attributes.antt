-- Attributes of items: what an item inherits from its surroundings, and what it gives to the span around it.
use Rattle.std.specs.Prelude.{Bool, List, None, Option, Some, false, not, true, ℕ, ◌&&◌, ◌||◌}
use Rattle.std.specs.Option.{option_and_then, option_or}
use Rattle.markdown_events.specs.declared.role.ItemKind.{ItemKind}
use Rattle.markdown_grammar.specs.Items.{Items, is_table, item, marker_of, none}
use Rattle.markdown_events.specs.declared.role.ItemKind.TheVariants.{Content as content, Part as part}
use Rattle.markdown_events.specs.declared.event.Point.{Point}
use Rattle.markdown_grammar.specs.Document.{Source, number, text_read}
use Rattle.markdown_grammar.specs.Hidden.{hides}
use Rattle.markdown_events.specs.declared.role.Content.TheVariants as contents
use Rattle.markdown_events.specs.declared.role.Part.TheVariants as parts

-- the surroundings that nodes and values depend on
pub record Place : Type 0 where
  -- whether a line ending is text here
  pub line_endings : Bool
  -- whether an enclosing span, at any depth, is a table
  pub in_table : Bool
  -- the byte of the last character reference marker so far
  pub marker : Option ℕ

-- whether a line ending is text inside a span
abbrev pub line_ending_is_text : ItemKind → Bool
line_ending_is_text (content contents.Table) = false
line_ending_is_text (content contents.BlockQuote) = false
line_ending_is_text (content contents.TableRow) = false
line_ending_is_text (content contents.TableCell) = false
line_ending_is_text (content contents.ListOrdered) = false
line_ending_is_text (content contents.ListUnordered) = false
line_ending_is_text (content contents.ListItem) = false
line_ending_is_text (content contents.FootnoteDefinition) = false
-- before the first fence
line_ending_is_text (content contents.CodeFenced) = false
line_ending_is_text (content contents.MathFlow) = false
-- containers that contain only parts
line_ending_is_text (content contents.Autolink) = false
line_ending_is_text (content contents.Link) = false
line_ending_is_text (content contents.Image) = false
line_ending_is_text (content contents.FootnoteCall) = false
line_ending_is_text (content contents.Definition) = false
line_ending_is_text (part parts.Resource) = false
line_ending_is_text (part parts.Reference) = false
line_ending_is_text _ = true

-- whether a line ending is text after an item: yes after a fence, no after the text of a setext heading, otherwise as before
abbrev pub line_ending_is_text_after : ItemKind → Bool → Bool
line_ending_is_text_after (part parts.CodeFencedFence) before = true
line_ending_is_text_after (part parts.MathFlowFence) before = true
line_ending_is_text_after (part parts.HeadingSetextText) before = false
line_ending_is_text_after _ before = before

-- the place inside a span
abbrev pub inherited_in : ItemKind → Place → Place
inherited_in what p = record { line_endings = line_ending_is_text what; in_table = p.in_table || is_table what; marker = None }

-- the place after an item
abbrev pub inherited_after : ItemKind → Place → Place
inherited_after what p = record { line_endings = line_ending_is_text_after what p.line_endings; in_table = p.in_table; marker = option_or (marker_of what) p.marker }

-- the place of the items of the root
abbrev pub inherited_at_root : Place
inherited_at_root = record { line_endings = false; in_table = false; marker = None }

-- the decoder's result for a value and the last marker before it
abbrev pub decoded : Source → Place → Point → Point → Option (List ℕ)
decoded s p a b = option_and_then (λ marker. s.text (text_read s a b) marker) p.marker

-- whether backslashes before pipes are removed from inline code and math: in a table, unless bytes are hidden,
-- because these backslashes are then among the hidden bytes
abbrev pub unescapes : Source → Place → Bool
unescapes s p = p.in_table && not (hides s.hidden)

-- the number that an item gives to its container: a ListItemValue gives its own, a ListItem the one given in it
abbrev pub value_given : Source → ItemKind → Point → Point → Option ℕ → Option ℕ
value_given s (part parts.ListItemValue) start end inner = Some (number (text_read s start end))
value_given s (content contents.ListItem) start end inner = inner
value_given s _ start end inner = None

-- the first number that one of the items gives
abbrev pub value : Source → Items → Option ℕ
value s none = None
value s (item what start end _ inner rest) = option_or (value_given s what start end (value s inner)) (value s rest)

-- the mark that an item gives to its container: a task mark gives itself, a Paragraph the one given in it
abbrev pub mark_given : ItemKind → Option Bool → Option Bool
mark_given (part parts.TaskMarkChecked) inner = Some true
mark_given (part parts.TaskMarkUnchecked) inner = Some false
mark_given (content contents.Paragraph) inner = inner
mark_given _ inner = None

-- the first mark that one of the items gives
abbrev pub mark : Items → Option Bool
mark none = None
mark (item what _ _ _ inner rest) = option_or (mark_given what (mark inner)) (mark rest)
