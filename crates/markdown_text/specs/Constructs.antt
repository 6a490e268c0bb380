-- The tokens found in a text, and whether their constructs are on.
use Rattle.std.specs.Prelude.{Bool, List, None, Option, Some, if◌then◌else◌, true, ℕ, ◌==◌, ◌≡◌, ◌⊎◌}
use Rattle.std.specs.List.{All}
use Rattle.markdown_options.specs.Spans.{is_on}
use Rattle.markdown_options.specs.declared.Constructs.{Constructs}
use Rattle.markdown_text.specs.Opens.{group_name, labelled_name}
use Rattle.markdown_attention.specs.declared.delimiter.Delimiter.{Delimiter}
use Rattle.markdown_attention.specs.declared.delimiter.Delimiter.TheVariants.{Opening}
use Rattle.markdown_text.specs.declared.brackets.Bracket.{Bracket}
use Rattle.markdown_text.specs.declared.brackets.LabelForm.{LabelForm}
use Rattle.markdown_text.specs.declared.brackets.LabelForm.TheVariants.{Footnote, Image, Link}
use Rattle.markdown_text.specs.declared.token.Labelled.{Labelled}
use Rattle.markdown_text.specs.declared.token.Token.{Token}
use Rattle.markdown_text.specs.declared.token.TokenKind.{TokenKind}
use Rattle.markdown_text.specs.declared.token.TokenKind.TheVariants.{Autolink, AutolinkLiteral, CharacterEscape, CharacterReference, CodeText, HardBreakEscape, HtmlText, LabelEnd, LabelStart, MathText, TaskListItemCheck}

-- ---- Tokens

-- the constructs of a label are on: that of its start, and that of its end
abbrev pub is_label_on : Constructs → Labelled → Bool
is_label_on c labelled = is_on c (labelled_name labelled)

-- the construct of a token of this kind is on. A line ending has none, and nor has the start of a label that does not end;
-- for a delimiter run, its delimiters decide
abbrev pub is_kind_on : Constructs → TokenKind → Bool
is_kind_on c HardBreakEscape = c.hard_break_escape
is_kind_on c CharacterEscape = c.character_escape
is_kind_on c (CharacterReference kind) = c.character_reference
is_kind_on c (CodeText size) = c.code_text
is_kind_on c (MathText size) = c.math_text
is_kind_on c (Autolink name) = c.autolink
is_kind_on c HtmlText = c.html_text
is_kind_on c (AutolinkLiteral name) = c.gfm_autolink_literal
is_kind_on c (LabelStart (Some labelled)) = is_label_on c labelled
is_kind_on c (LabelEnd labelled target) = is_label_on c labelled
is_kind_on c (TaskListItemCheck is_checked) = c.gfm_task_list_item
is_kind_on c _ = true

-- the construct of what was found is on; data has none
abbrev pub is_found_on : Constructs → Option TokenKind → Bool
is_found_on c None = true
is_found_on c (Some kind) = is_kind_on c kind

-- the construct of each of these tokens is on
abbrev pub AreTokensOn : Constructs → List Token → Type 0
AreTokensOn c tokens = All (λ t. is_kind_on c t.kind ≡ true) tokens

-- ---- Attention

-- the markers of delimiter runs: an asterisk, an underscore, a tilde
abbrev pub IsMarker : ℕ → Type 0
IsMarker byte = (byte ≡ 42) ⊎ ((byte ≡ 95) ⊎ (byte ≡ 126))

-- the construct of a run of these markers is on: strikethrough for tildes, attention for the others
abbrev pub is_marker_on : Constructs → ℕ → Bool
is_marker_on c marker = if marker == 126 then c.gfm_strikethrough else c.attention

-- a delimiter does not open a span whose construct is off
abbrev pub is_delimiter_on : Constructs → Delimiter → Bool
is_delimiter_on c (Opening kind) = is_on c (group_name kind)
is_delimiter_on c _ = true

-- none of these delimiters opens a span whose construct is off
abbrev pub AreDelimitersOn : Constructs → List Delimiter → Type 0
AreDelimitersOn c delimiters = All (λ d. is_delimiter_on c d ≡ true) delimiters

-- ---- Brackets

-- the construct of a label start of this form is on
abbrev pub is_form_on : Constructs → LabelForm → Bool
is_form_on c Link = c.label_start_link
is_form_on c Image = c.label_start_image
is_form_on c Footnote = c.gfm_label_start_footnote

-- the construct of each of these brackets is on
abbrev pub AreBracketsOn : Constructs → List Bracket → Type 0
AreBracketsOn c brackets = All (λ b. is_form_on c b.form ≡ true) brackets
