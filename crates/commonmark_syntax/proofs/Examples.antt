-- The page read by computation: for each construct texts that begin with it, and texts that do not.
use Rattle.std.proofs.Common.{◌≡◌, [], None, Some, false, refl}
use Rattle.std.specs.Prelude.{codes}
use Rattle.commonmark_syntax.specs.Parentheses.{ends}
use Rattle.commonmark_syntax.specs.Reading.{read}
use Rattle.commonmark_syntax.specs.Syntax.{angle_destination, cdata_section, closing_tag, comment, declaration, html_tag, link_label, open_tag, processing_instruction, title}

pub plain_tag : read open_tag (codes "<a>b") ≡ Some (codes "b")
plain_tag = refl

pub attributes_of_all_kinds : read open_tag (codes "<a b c=d e='f>' g=\"h\n\">") ≡ Some []
attributes_of_all_kinds = refl

pub slash_in_a_value : read open_tag (codes "<a b=c/>") ≡ Some []
slash_in_a_value = refl

pub line_in_a_tag : read open_tag (codes "<a\n  b>") ≡ Some []
line_in_a_tag = refl

pub digit_first : read open_tag (codes "<1a>") ≡ None
digit_first = refl

pub two_line_endings : read open_tag (codes "<a\n\nb>") ≡ None
two_line_endings = refl

pub no_space_between : read open_tag (codes "<a b='c'd>") ≡ None
no_space_between = refl

pub value_with_a_grave_accent : read open_tag (codes "<a b=c`>") ≡ None
value_with_a_grave_accent = refl

pub unclosed_tag : read open_tag (codes "<a b") ≡ None
unclosed_tag = refl

pub plain_closing : read closing_tag (codes "</a>b") ≡ Some (codes "b")
plain_closing = refl

pub space_at_its_end : read closing_tag (codes "</a \t>") ≡ Some []
space_at_its_end = refl

pub hyphen_in_a_name : read closing_tag (codes "</a-1>") ≡ Some []
hyphen_in_a_name = refl

pub space_at_its_start : read closing_tag (codes "</ a>") ≡ None
space_at_its_start = refl

pub attribute_in_a_closing : read closing_tag (codes "</a b>") ≡ None
attribute_in_a_closing = refl

pub slash_at_its_end : read closing_tag (codes "</a/>") ≡ None
slash_at_its_end = refl

pub short_comment : read comment (codes "<!-->b") ≡ Some (codes "b")
short_comment = refl

pub longer_comment : read comment (codes "<!--->b") ≡ Some (codes "b")
longer_comment = refl

pub long_comment : read comment (codes "<!-- a -- b -->c") ≡ Some (codes "c")
long_comment = refl

pub short_before_long : read comment (codes "<!--> a -->") ≡ Some (codes " a -->")
short_before_long = refl

pub comment_of_one_hyphen : read comment (codes "<!- a -->") ≡ None
comment_of_one_hyphen = refl

pub unclosed_comment : read comment (codes "<!-- a --") ≡ None
unclosed_comment = refl

pub spaced_comment : read comment (codes "< !-- a -->") ≡ None
spaced_comment = refl

pub instruction : read processing_instruction (codes "<?a?>b") ≡ Some (codes "b")
instruction = refl

pub empty_instruction : read processing_instruction (codes "<??>") ≡ Some []
empty_instruction = refl

pub first_end : read processing_instruction (codes "<? ? > ?>?>") ≡ Some (codes "?>")
first_end = refl

pub overlapping_end : read processing_instruction (codes "<?>") ≡ None
overlapping_end = refl

pub unclosed_instruction : read processing_instruction (codes "<?a>") ≡ None
unclosed_instruction = refl

pub spaced_instruction : read processing_instruction (codes "< ?a?>") ≡ None
spaced_instruction = refl

pub declaration_of_a_type : read declaration (codes "<!A b>c") ≡ Some (codes "c")
declaration_of_a_type = refl

pub lower_case : read declaration (codes "<!a>") ≡ Some []
lower_case = refl

pub line_in_a_declaration : read declaration (codes "<!A\n>") ≡ Some []
line_in_a_declaration = refl

pub no_letter : read declaration (codes "<! A>") ≡ None
no_letter = refl

pub digit_in_place : read declaration (codes "<!1>") ≡ None
digit_in_place = refl

pub unclosed_declaration : read declaration (codes "<!A") ≡ None
unclosed_declaration = refl

pub section : read cdata_section (codes "<![CDATA[a]]>b") ≡ Some (codes "b")
section = refl

pub empty_section : read cdata_section (codes "<![CDATA[]]>") ≡ Some []
empty_section = refl

pub brackets_in_a_section : read cdata_section (codes "<![CDATA[]]]>") ≡ Some []
brackets_in_a_section = refl

pub lower_case_section : read cdata_section (codes "<![cdata[a]]>") ≡ None
lower_case_section = refl

pub unclosed_section : read cdata_section (codes "<![CDATA[a]>") ≡ None
unclosed_section = refl

pub other_bracket : read cdata_section (codes "<![CDATA a]]>") ≡ None
other_bracket = refl

pub double_quotes : read title (codes "\"a' b\"c") ≡ Some (codes "c")
double_quotes = refl

pub escaped_quote : read title (codes "'a\\'b'") ≡ Some []
escaped_quote = refl

pub parentheses : read title (codes "(a \\) b)") ≡ Some []
parentheses = refl

pub two_lines : read title (codes "\"a\nb\"") ≡ Some []
two_lines = refl

pub blank_line : read title (codes "\"a\n \nb\"") ≡ None
blank_line = refl

pub other_mark : read title (codes "\"a'") ≡ None
other_mark = refl

pub nested_parentheses : read title (codes "(a (b)") ≡ None
nested_parentheses = refl

pub no_mark : read title (codes "a\"") ≡ None
no_mark = refl

pub label : read link_label (codes "[a]b") ≡ Some (codes "b")
label = refl

pub escaped_bracket : read link_label (codes "[a\\]b]") ≡ Some []
escaped_bracket = refl

pub two_lines_of_a_label : read link_label (codes "[a\n b]") ≡ Some []
two_lines_of_a_label = refl

pub empty_label : read link_label (codes "[]") ≡ None
empty_label = refl

pub white_label : read link_label (codes "[ \n]") ≡ None
white_label = refl

pub bracket_in_a_label : read link_label (codes "[a[b]]") ≡ None
bracket_in_a_label = refl

pub empty_destination : read angle_destination (codes "<>a") ≡ Some (codes "a")
empty_destination = refl

pub spaces_in_a_destination : read angle_destination (codes "<a b>") ≡ Some []
spaces_in_a_destination = refl

pub escaped_angle : read angle_destination (codes "<a\\>b>") ≡ Some []
escaped_angle = refl

pub line_in_a_destination : read angle_destination (codes "<a\nb>") ≡ None
line_in_a_destination = refl

pub angle_in_a_destination : read angle_destination (codes "<a<b>") ≡ None
angle_in_a_destination = refl

pub unclosed_destination : read angle_destination (codes "<a") ≡ None
unclosed_destination = refl

pub raw_destination : ends (codes "a b") false 0 ≡ Some (codes " b")
raw_destination = refl

pub pair_in_a_destination : ends (codes "a(b)c) d") false 0 ≡ Some (codes ") d")
pair_in_a_destination = refl

pub escaped_parenthesis : ends (codes "a\\(b") false 0 ≡ Some []
escaped_parenthesis = refl

pub control_after : ends (codes "a\tb") false 0 ≡ Some (codes "\tb")
control_after = refl

pub open_pair : ends (codes "a(b c") false 0 ≡ None
open_pair = refl

pub two_open : ends (codes "((a)") false 0 ≡ None
two_open = refl

pub escaped_end : ends (codes "a(b\\)") false 0 ≡ None
escaped_end = refl

pub closing_tag_is_a_tag : read html_tag (codes "</a >b") ≡ Some (codes "b")
closing_tag_is_a_tag = refl

pub comment_is_a_tag : read html_tag (codes "<!-- > -->b") ≡ Some (codes "b")
comment_is_a_tag = refl

pub instruction_is_a_tag : read html_tag (codes "<??>b") ≡ Some (codes "b")
instruction_is_a_tag = refl

pub no_name_in_a_tag : read html_tag (codes "<>") ≡ None
no_name_in_a_tag = refl

pub no_tag_after_a_space : read html_tag (codes "< a>") ≡ None
no_tag_after_a_space = refl

pub no_tag_without_its_end : read html_tag (codes "<!a") ≡ None
no_tag_without_its_end = refl
