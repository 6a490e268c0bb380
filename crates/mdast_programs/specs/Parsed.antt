-- The meaning of an outcome for a document alone, for the constructs that it is read with, and for the wanted form of its tree.
use Rattle.std.specs.Prelude.{◌≡◌, ◌≢◌, ◌⊎◌, ◌==◌, ◌^◌, ℕ, Bool, List, [], Option, None, Some, IsSome, IsSomeAnd, codes, false, true, if◌then◌else◌, nat_lt}
use Rattle.std.specs.Int.{bit_at}
use Rattle.std.specs.Str.{IsUtf8, IsValidUpTo}
use Rattle.character_references.specs.Html.{html}
use Rattle.event_writer.specs.Finished.{IsFinished}
use Rattle.markdown.specs.Hidden.{hidden}
use Rattle.markdown.specs.Roots.{whole_document}
use Rattle.markdown_events.specs.declared.event.Event.{Event}
use Rattle.markdown_grammar.specs.Correct.{IsMeaning}
use Rattle.markdown_grammar.specs.Document.{source, source_hiding}
use Rattle.markdown_grammar.specs.Ordered.{IsOrdered}
use Rattle.markdown_html.specs.Html.{default_html, unsafe_html}
use Rattle.markdown_json.specs.Json.{json, json_utf16}
use Rattle.markdown_nodes.specs.declared.mdast.Node.{Node}
use Rattle.markdown_nodes.specs.Tree.{Tree, only}
use Rattle.markdown_nodes.specs.View.{view}
use Rattle.markdown_options.specs.declared.Constructs.{Constructs}
use Rattle.markdown_options.specs.Spans.{AreOn}
use Rattle.mdast_programs.specs.declared.outcomes.Outcome.{Outcome}
use Rattle.mdast_programs.specs.declared.outcomes.parsed.Form.{Form}
use Rattle.mdast_programs.specs.declared.outcomes.parsed.Form.TheVariants.{Json, JsonUtf16, Outline, PlainText, Html, UnsafeHtml, FilteredHtml}
use Rattle.mdast_util.specs.Outline.{outline_of}
use Rattle.mdast_util.specs.PlainText.{text_in_lines}

-- whether a bit of a number is set, counted from 0 at the lowest
abbrev pub has : ℕ → ℕ → Bool
has bits bit = bit_at bits bit == 1

-- the constructs whose bits are set
abbrev pub with_bits : ℕ → Constructs
with_bits bits = record {
  attention = has bits 0;
  autolink = has bits 1;
  block_quote = has bits 2;
  character_escape = has bits 3;
  character_reference = has bits 4;
  code_indented = has bits 5;
  code_fenced = has bits 6;
  code_text = has bits 7;
  definition = has bits 8;
  frontmatter = has bits 9;
  gfm_autolink_literal = has bits 10;
  gfm_footnote_definition = has bits 11;
  gfm_label_start_footnote = has bits 12;
  gfm_strikethrough = has bits 13;
  gfm_table = has bits 14;
  gfm_task_list_item = has bits 15;
  hard_break_escape = has bits 16;
  hard_break_trailing = has bits 17;
  heading_atx = has bits 18;
  heading_setext = has bits 19;
  html_flow = has bits 20;
  html_text = has bits 21;
  label_start_image = has bits 22;
  label_start_link = has bits 23;
  label_end = has bits 24;
  list_item = has bits 25;
  math_flow = has bits 26;
  math_text = has bits 27;
  thematic_break = has bits 28;
}

-- the constructs whose bits are set, if no other bit is
abbrev pub constructs_in : ℕ → Option Constructs
constructs_in bits = if nat_lt bits (2 ^ 29) then Some (with_bits bits) else None

-- the form with this number
abbrev pub form_of : ℕ → Option Form
form_of number = if number == 0 then Some Json else if number == 1 then Some JsonUtf16 else if number == 2 then Some Outline else if number == 3 then Some PlainText else if number == 4 then Some Html else if number == 5 then Some UnsafeHtml else if number == 6 then Some FilteredHtml else None

-- the numbers are those of constructs and of a form
pub record AreOptions (constructs form : ℕ) : Type 0 where
  pub constructs_are : IsSome (constructs_in constructs)
  pub form_is : IsSome (form_of form)

-- a tree of a document that is read with these constructs: the meaning of finished events, none of them of a construct that is off
pub record IsTreeOf (tree : Node) (document : List ℕ) (constructs : Constructs) : Type 0 where
  pub events : List Event
  pub finished : IsFinished (source document html) events
  pub on : AreOn constructs events
  pub is_meaning : IsMeaning tree events (source_hiding (hidden document events) document html)
  -- its root covers the whole document, and its nodes are in order
  pub root : (view tree).position ≡ Some (whole_document document)
  pub ordered : IsOrdered (only (view tree))

-- a tree of a document, written in a form
abbrev pub written : Form → List ℕ → Tree → List ℕ
written Json document tree = json tree
written JsonUtf16 document tree = json_utf16 document tree
written Outline document tree = outline_of tree
written PlainText document tree = text_in_lines tree
written Html document tree = default_html tree
written UnsafeHtml document tree = unsafe_html false (codes "user-content-") tree
written FilteredHtml document tree = unsafe_html true (codes "user-content-") tree

-- a text is such a tree in this form
pub record IsFormOf (text : List ℕ) (form : Form) (document : List ℕ) (constructs : Constructs) : Type 0 where
  pub tree : Node
  pub is_tree : IsTreeOf tree document constructs
  pub is_form : text ≡ written form document (view tree)

-- a text is such a tree in a form, where the constructs and the form are given by their numbers
abbrev pub IsText : List ℕ → List ℕ → ℕ → ℕ → Type 0
IsText text document constructs form = IsSomeAnd (constructs_in constructs) (λ allowed. IsSomeAnd (form_of form) (λ wanted. IsFormOf text wanted document allowed))

-- the meaning of an outcome for a document, constructs and a form
pub record IsParsed (outcome : Outcome) (document : List ℕ) (constructs form : ℕ) : Type 0 where
  pub status : (outcome.status ≡ 0) ⊎ (outcome.status ≡ 3) ⊎ (outcome.status ≡ 5) ⊎ (outcome.status ≡ 6)
  -- the text is a tree of the document with these constructs, in this form
  pub text : outcome.status ≡ 0 → IsText outcome.text.now document constructs form
  -- the options are invalid; with every other status they are valid
  pub no_options : outcome.status ≡ 6 → ¬ (AreOptions constructs form)
  pub options : outcome.status ≢ 6 → AreOptions constructs form
  -- the document is not UTF-8, and the offset is that of the first byte that begins no character
  pub not_utf8 : outcome.status ≡ 5 → ¬ (IsUtf8 document)
  pub valid_up_to : outcome.status ≡ 5 → IsValidUpTo document outcome.offset
  -- with a status other than these two, the document is UTF-8
  pub utf8 : outcome.status ≢ 5 → outcome.status ≢ 6 → IsUtf8 document
  -- the fields that a status does not use are empty or 0
  pub only_text : outcome.status ≢ 0 → outcome.text.now ≡ []
  pub only_offset : outcome.status ≢ 5 → outcome.offset ≡ 0
  pub no_rule : outcome.rule.now ≡ []
  pub no_reason : outcome.reason.now ≡ []
  pub no_line : outcome.line ≡ 0
  pub no_column : outcome.column ≡ 0
