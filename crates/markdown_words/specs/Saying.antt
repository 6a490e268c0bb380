-- The words of items, said one after the other.
use Rattle.std.specs.Prelude.{Bool, List, [], codes, drop, false, if◌then◌else◌, length, not, take, true, unwrap_or, ℕ, ◌&&◌, ◌++◌, ◌-◌, ◌==◌, ◌||◌, ◌∷◌}
use Rattle.markdown_events.specs.Texts.{raw, spaces, trim}
use Rattle.markdown_events.specs.declared.event.Point.{Point}
use Rattle.markdown_events.specs.declared.role.ItemKind.{ItemKind}
use Rattle.markdown_events.specs.declared.role.ItemKind.TheVariants.{Content as content, Part as part}
use Rattle.markdown_events.specs.declared.role.Content.TheVariants as contents
use Rattle.markdown_events.specs.declared.role.Part.TheVariants as parts
use Rattle.markdown_grammar.specs.Document.{Source, text_read, value_read}
use Rattle.markdown_grammar.specs.Fenced.{is_line_begun}
use Rattle.markdown_grammar.specs.Hidden.{hides}
use Rattle.markdown_grammar.specs.Items.{Items, item, none}
use Rattle.markdown_grammar.specs.LineEndings.{ending_read}
use Rattle.markdown_grammar.specs.declared.values.Values.TheVariants.{AsInDocument, Whole}
use Rattle.mdast_util.specs.PlainText.{ended}
use Rattle.markdown_words.specs.Settings.{fits, setting_after, setting_inside}
use Rattle.markdown_words.specs.declared.setting.Setting.{Setting}
use Rattle.markdown_words.specs.declared.setting.Voice.{Voice}
use Rattle.markdown_words.specs.declared.setting.Voice.TheVariants as voices

-- what is said so far, where in it the open code begins, and where in the document the last text of that code ends
pub record Said : Type 0 where
  pub text : List ℕ
  pub mark : ℕ
  pub last : ℕ

-- with more text
abbrev pub add : List ℕ → Said → Said
add words said = record { text = said.text ++ words; mark = said.mark; last = said.last }

-- with more text, in code
abbrev pub add_code : List ℕ → Point → Said → Said
add_code words end said = record { text = said.text ++ words; mark = said.mark; last = end.index }

-- what was said since the mark
abbrev pub since : Said → List ℕ
since said = drop said.mark said.text

-- with this in its place
abbrev pub put : List ℕ → Said → Said
put words said = record { text = take said.mark said.text ++ words; mark = said.mark; last = said.last }

-- on a line of its own, outside of labels
abbrev pub lined : Bool → Bool → List ℕ → List ℕ
lined false in_label text = text
lined true true text = text
lined true false text = ended text

-- whether an item begins a line
abbrev pub begins : ItemKind → Bool
begins (content contents.Paragraph) = true
begins (content contents.HeadingAtx) = true
begins (content contents.HeadingSetext) = true
begins (content contents.TableCell) = true
begins (content contents.CodeFenced) = true
begins (content contents.CodeIndented) = true
begins (content contents.MathFlow) = true
begins _ = false

-- whether the items in an item are code or math
abbrev pub is_code : ItemKind → Bool
is_code (content contents.CodeFenced) = true
is_code (content contents.CodeIndented) = true
is_code (content contents.CodeText) = true
is_code (content contents.MathFlow) = true
is_code (content contents.MathText) = true
is_code _ = false

-- where an item begins: it may begin a line, and be code
abbrev pub opened_in : Bool → ItemKind → Said → Said
opened_in in_label what said = record {
  text = lined (begins what) in_label said.text;
  mark = if is_code what then length (lined (begins what) in_label said.text) else said.mark;
  last = said.last;
}

abbrev pub opened : Voice → Bool → ItemKind → Said → Said
opened voices.Flow in_label what said = opened_in in_label what said
opened voices.Text in_label what said = opened_in in_label what said
opened voices.Item in_label what said = opened_in in_label what said
opened voices.First in_label what said = opened_in in_label what said
opened _ in_label what said = said

-- whether a block that ends at an offset has one more line after a text that ends at another
abbrev pub line_after : Source → ℕ → ℕ → Bool
line_after s last end = elim s.values [ AsInDocument ↦ false | Whole ↦ is_line_begun (take (end - last) (drop last s.bytes)) ]

-- the line ending at the end of a text, if line endings are said
abbrev pub ending_if : Bool → List ℕ → Said → Said
ending_if true words said = add words said
ending_if false words said = said

-- a hard break, outside of labels
abbrev pub break_in : Bool → Said → Said
break_in true said = said
break_in false said = add (codes "\n") said

-- the value of code or math in a line
abbrev pub inline_in : Source → Bool → Said → Said
inline_in s in_table said = put (raw (spaces (since said)) (in_table && not (hides s.hidden))) said

-- the value of a block between fences
abbrev pub fenced_in : Source → Point → Said → Said
fenced_in s end said = put (trim (since said) true (not (line_after s said.last end.index))) said

-- where an item ends, among blocks or inlines, by whether line endings are said
abbrev pub closed_in : Source → Bool → Bool → Bool → ItemKind → Point → Point → Said → Said
closed_in s endings in_label in_table (content contents.Data) start end said = add (value_read s start end) said
closed_in s endings in_label in_table (content contents.AutolinkLiteralEmail) start end said = add (value_read s start end) said
closed_in s endings in_label in_table (content contents.AutolinkLiteralWww) start end said = add (value_read s start end) said
closed_in s endings in_label in_table (content contents.AutolinkLiteralWhole) start end said = add (value_read s start end) said
closed_in s endings in_label in_table (content contents.LineEnding) start end said = ending_if endings (ending_read s start end) said
closed_in s endings in_label in_table (content contents.HardBreak) start end said = break_in in_label said
closed_in s endings in_label in_table (content contents.CodeText) start end said = inline_in s in_table said
closed_in s endings in_label in_table (content contents.MathText) start end said = inline_in s in_table said
closed_in s endings in_label in_table (content contents.CodeIndented) start end said = put (trim (since said) false true) said
closed_in s endings in_label in_table (content contents.CodeFenced) start end said = fenced_in s end said
closed_in s endings in_label in_table (content contents.MathFlow) start end said = fenced_in s end said
closed_in s endings in_label in_table _ start end said = said

-- a text without its first byte
abbrev pub cut : List ℕ → List ℕ
cut [] = []
cut (byte ∷ bytes) = bytes

-- whether a text begins with a space, a tab or an LF
abbrev pub has_blank : List ℕ → Bool
has_blank [] = false
has_blank (byte ∷ bytes) = byte == 32 || byte == 9 || byte == 10

-- what data or a line ending says
abbrev pub plain_read : Source → ItemKind → Point → Point → List ℕ
plain_read s (content contents.LineEnding) start end = ending_read s start end
plain_read s _ start end = value_read s start end

-- the address of an autolink
abbrev pub closed_address : Source → ItemKind → Point → Point → Said → Said
closed_address s (part parts.AutolinkEmail) start end said = add (value_read s start end) said
closed_address s (part parts.AutolinkProtocol) start end said = add (value_read s start end) said
closed_address s _ start end said = said

-- the value of a character reference after a marker
abbrev pub closed_reference : Source → ℕ → ItemKind → Point → Point → Said → Said
closed_reference s marker (part parts.CharacterReferenceValue) start end said = add (unwrap_or (s.text (text_read s start end) marker) []) said
closed_reference s marker _ start end said = said

-- data or a line ending in code
abbrev pub closed_code : Source → ItemKind → Point → Point → Said → Said
closed_code s (content contents.Data) start end said = add_code (value_read s start end) end said
closed_code s (content contents.LineEnding) start end said = add_code (ending_read s start end) end said
closed_code s _ start end said = said

-- whether an item says the bytes from its start to its end
abbrev pub is_valued : ItemKind → Bool
is_valued (content contents.Data) = true
is_valued (content contents.LineEnding) = true
is_valued (content contents.AutolinkLiteralEmail) = true
is_valued (content contents.AutolinkLiteralWww) = true
is_valued (content contents.AutolinkLiteralWhole) = true
is_valued (part parts.AutolinkEmail) = true
is_valued (part parts.AutolinkProtocol) = true
is_valued (part parts.CharacterReferenceValue) = true
is_valued _ = false

-- whether an item whose start is not read says something where it ends
abbrev pub says_at_end : ItemKind → Bool
says_at_end (content contents.HardBreak) = true
says_at_end what = is_code what

-- whether the first text is still to come, after a task mark
abbrev pub is_marked : Voice → Bool
is_marked voices.Marked = true
is_marked _ = false

-- where an item ends
abbrev pub closed : Source → Setting → ItemKind → Point → Point → Said → Said
closed s q what start end said = elim q.voice [
  | voices.Silent ↦ said
  | voices.Flow ↦ closed_in s false q.in_label q.in_table what start end said
  | voices.Text ↦ closed_in s true q.in_label q.in_table what start end said
  | voices.Broken ↦ said
  | voices.Item ↦ closed_in s false q.in_label q.in_table what start end said
  | voices.First ↦ closed_in s true q.in_label q.in_table what start end said
  | voices.Marked ↦ add (cut (plain_read s what start end)) said
  | voices.Media ↦ said
  | voices.Autolink ↦ closed_address s what start end said
  | voices.Reference ↦ said
  | voices.Named ↦ closed_reference s 38 what start end said
  | voices.Numeric ↦ closed_reference s 35 what start end said
  | voices.Hexadecimal ↦ closed_reference s 120 what start end said
  | voices.Fenced ↦ said
  | voices.Raw ↦ closed_code s what start end said
  | voices.Leaf ↦ said
]

-- whether it is known what is said of an item, by its value
abbrev pub suits : Source → Voice → ItemKind → Point → Point → Bool
suits s voices.Marked what start end = has_blank (plain_read s what start end)
suits s _ what start end = true

-- what is said after items in a setting
abbrev pub told : Source → Setting → Items → Said → Said
told s q none said = said
told s q (item what start end _ inner rest) said =
    told s (setting_after q what) rest (closed s q what start end (told s (setting_inside q what) inner (opened q.voice q.in_label what said)))

-- whether it is known of each item what is said of it
abbrev pub are_known : Source → Setting → Items → Bool
are_known s q none = true
are_known s q (item what start end _ inner rest) =
    fits q.voice q.in_label what && are_known s (setting_inside q what) inner && suits s q.voice what start end && are_known s (setting_after q what) rest
