-- The pages of blocks and of HTML read by computation: for each construct texts that begin with it, and texts that do not.
use Rattle.std.proofs.Common.{◌≡◌, [], None, Some, refl}
use Rattle.std.specs.Prelude.{codes}
use Rattle.commonmark_syntax.specs.Blocks.{atx_opening, block_quote_marker, closing_fence, code_fence, delimiter_row, footnote_label, frontmatter_fence, heading_text, interrupting_list_marker, list_marker, math_fence, setext_underline, thematic_break}
use Rattle.commonmark_syntax.specs.Html.{basic_start, complete_closing, complete_opening, declaration_start, raw_end, raw_start}
use Rattle.commonmark_syntax.specs.InfoStrings.{info_string, language, meta}
use Rattle.commonmark_syntax.specs.Reading.{read}

pub equals_signs : read setext_underline (codes "===") ≡ Some []
equals_signs = refl

pub one_hyphen : read setext_underline (codes "-") ≡ Some []
one_hyphen = refl

pub space_after_an_underline : read setext_underline (codes "= \t") ≡ Some (codes " \t")
space_after_an_underline = refl

pub two_kinds_of_signs : read setext_underline (codes "=-") ≡ None
two_kinds_of_signs = refl

pub space_in_an_underline : read setext_underline (codes "= =") ≡ None
space_in_an_underline = refl

pub text_after_an_underline : read setext_underline (codes "---a") ≡ None
text_after_an_underline = refl

pub one_number_sign : read atx_opening (codes "# a") ≡ Some (codes " a")
one_number_sign = refl

pub six_number_signs : read atx_opening (codes "######") ≡ Some []
six_number_signs = refl

pub tab_after_number_signs : read atx_opening (codes "##\tb") ≡ Some (codes "\tb")
tab_after_number_signs = refl

pub text_after_a_number_sign : read atx_opening (codes "#a") ≡ None
text_after_a_number_sign = refl

pub seven_number_signs : read atx_opening (codes "####### a") ≡ None
seven_number_signs = refl

pub escaped_number_sign : read atx_opening (codes "\\# a") ≡ None
escaped_number_sign = refl

pub fence_with_an_info_string : read code_fence (codes "```rust") ≡ Some (codes "rust")
fence_with_an_info_string = refl

pub backticks_after_tildes : read code_fence (codes "~~~~ `a`") ≡ Some (codes " `a`")
backticks_after_tildes = refl

pub long_fence : read code_fence (codes "`````") ≡ Some []
long_fence = refl

pub two_backticks : read code_fence (codes "``") ≡ None
two_backticks = refl

pub backtick_in_an_info_string : read code_fence (codes "``` a`b") ≡ None
backtick_in_an_info_string = refl

pub two_kinds_of_fences : read code_fence (codes "~~`") ≡ None
two_kinds_of_fences = refl

pub two_dollars : read math_fence (codes "$$") ≡ Some []
two_dollars = refl

pub dollars_and_text : read math_fence (codes "$$$ a") ≡ Some (codes " a")
dollars_and_text = refl

pub text_beside_dollars : read math_fence (codes "$$a\\b") ≡ Some (codes "a\\b")
text_beside_dollars = refl

pub one_dollar : read math_fence (codes "$") ≡ None
one_dollar = refl

pub dollar_in_the_rest : read math_fence (codes "$$ a$") ≡ None
dollar_in_the_rest = refl

pub dollars_later : read math_fence (codes "a$$") ≡ None
dollars_later = refl

pub as_many_backticks : read (closing_fence 96 3) (codes "```") ≡ Some []
as_many_backticks = refl

pub more_backticks : read (closing_fence 96 3) (codes "````") ≡ Some []
more_backticks = refl

pub spaces_after_a_fence : read (closing_fence 96 3) (codes "```  ") ≡ Some (codes "  ")
spaces_after_a_fence = refl

pub fewer_backticks : read (closing_fence 96 3) (codes "``") ≡ None
fewer_backticks = refl

pub text_after_a_fence : read (closing_fence 96 3) (codes "```a") ≡ None
text_after_a_fence = refl

pub other_fence : read (closing_fence 96 3) (codes "~~~") ≡ None
other_fence = refl

pub three_hyphens : read (frontmatter_fence 45) (codes "---") ≡ Some []
three_hyphens = refl

pub space_after_hyphens : read (frontmatter_fence 45) (codes "--- ") ≡ Some (codes " ")
space_after_hyphens = refl

pub tab_after_hyphens : read (frontmatter_fence 45) (codes "---\t") ≡ Some (codes "\t")
tab_after_hyphens = refl

pub two_hyphens : read (frontmatter_fence 45) (codes "--") ≡ None
two_hyphens = refl

pub four_hyphens : read (frontmatter_fence 45) (codes "----") ≡ None
four_hyphens = refl

pub text_after_hyphens : read (frontmatter_fence 45) (codes "--- a") ≡ None
text_after_hyphens = refl

pub three_pluses : read (frontmatter_fence 45) (codes "+++") ≡ None
three_pluses = refl

pub bullet : read list_marker (codes "- a") ≡ Some (codes " a")
bullet = refl

pub bullet_alone : read list_marker (codes "*") ≡ Some []
bullet_alone = refl

pub number_with_a_period : read list_marker (codes "12. a") ≡ Some (codes " a")
number_with_a_period = refl

pub number_with_a_parenthesis : read list_marker (codes "1)\ta") ≡ Some (codes "\ta")
number_with_a_parenthesis = refl

pub text_beside_a_bullet : read list_marker (codes "-a") ≡ None
text_beside_a_bullet = refl

pub ten_digits : read list_marker (codes "1234567890. a") ≡ None
ten_digits = refl

pub text_beside_a_number : read list_marker (codes "1.a") ≡ None
text_beside_a_number = refl

pub letter_for_a_number : read list_marker (codes "a. b") ≡ None
letter_for_a_number = refl

pub bullet_in_a_paragraph : read interrupting_list_marker (codes "- a") ≡ Some (codes " a")
bullet_in_a_paragraph = refl

pub number_one : read interrupting_list_marker (codes "1. a") ≡ Some (codes " a")
number_one = refl

pub zeros_before_one : read interrupting_list_marker (codes "001) a") ≡ Some (codes " a")
zeros_before_one = refl

pub number_two : read interrupting_list_marker (codes "2. a") ≡ None
number_two = refl

pub empty_item_in_a_paragraph : read interrupting_list_marker (codes "-") ≡ None
empty_item_in_a_paragraph = refl

pub blank_item_in_a_paragraph : read interrupting_list_marker (codes "1. ") ≡ None
blank_item_in_a_paragraph = refl

pub text_beside_a_quote_marker : read block_quote_marker (codes ">a") ≡ Some (codes "a")
text_beside_a_quote_marker = refl

pub space_after_a_quote_marker : read block_quote_marker (codes "> a") ≡ Some (codes " a")
space_after_a_quote_marker = refl

pub two_quote_markers : read block_quote_marker (codes ">>") ≡ Some (codes ">")
two_quote_markers = refl

pub no_quote_marker : read block_quote_marker (codes "a") ≡ None
no_quote_marker = refl

pub space_before_a_quote_marker : read block_quote_marker (codes " >") ≡ None
space_before_a_quote_marker = refl

pub escaped_quote_marker : read block_quote_marker (codes "\\>") ≡ None
escaped_quote_marker = refl

pub three_stars : read thematic_break (codes "***") ≡ Some []
three_stars = refl

pub spaced_hyphens : read thematic_break (codes "- - -") ≡ Some []
spaced_hyphens = refl

pub underscores_and_tabs : read thematic_break (codes "__\t_ ") ≡ Some []
underscores_and_tabs = refl

pub two_stars : read thematic_break (codes "**") ≡ None
two_stars = refl

pub two_kinds_in_a_break : read thematic_break (codes "*-*") ≡ None
two_kinds_in_a_break = refl

pub pluses : read thematic_break (codes "+++") ≡ None
pluses = refl

pub one_cell : read delimiter_row (codes "|-|") ≡ Some []
one_cell = refl

pub aligned_cells : read delimiter_row (codes ":-: | --") ≡ Some []
aligned_cells = refl

pub cells_without_outer_bars : read delimiter_row (codes "-|:-") ≡ Some []
cells_without_outer_bars = refl

pub hyphens_alone : read delimiter_row (codes "---") ≡ None
hyphens_alone = refl

pub empty_cell : read delimiter_row (codes "| |") ≡ None
empty_cell = refl

pub space_between_hyphens : read delimiter_row (codes "- -|") ≡ None
space_between_hyphens = refl

pub two_colons : read delimiter_row (codes "::-|") ≡ None
two_colons = refl

pub footnote : read footnote_label (codes "[^a]: b") ≡ Some (codes " b")
footnote = refl

pub bracket_in_a_footnote : read footnote_label (codes "[^a\\]b]:") ≡ Some []
bracket_in_a_footnote = refl

pub backslash_in_a_footnote : read footnote_label (codes "[^a\\b]:") ≡ Some []
backslash_in_a_footnote = refl

pub empty_footnote : read footnote_label (codes "[^]:") ≡ None
empty_footnote = refl

pub space_in_a_footnote : read footnote_label (codes "[^a b]:") ≡ None
space_in_a_footnote = refl

pub no_colon : read footnote_label (codes "[^a]") ≡ None
no_colon = refl

pub no_caret : read footnote_label (codes "[a]:") ≡ None
no_caret = refl

pub raw_element : read raw_start (codes "<pre>") ≡ Some (codes ">")
raw_element = refl

pub raw_element_in_upper_case : read raw_start (codes "<SCRIPT") ≡ Some []
raw_element_in_upper_case = refl

pub raw_element_with_an_attribute : read raw_start (codes "<style a") ≡ Some (codes " a")
raw_element_with_an_attribute = refl

pub longer_name_than_raw : read raw_start (codes "<prefix>") ≡ None
longer_name_than_raw = refl

pub closing_tag_of_raw : read raw_start (codes "</pre>") ≡ None
closing_tag_of_raw = refl

pub slash_after_raw : read raw_start (codes "<pre/>") ≡ None
slash_after_raw = refl

pub doctype : read declaration_start (codes "<!DOCTYPE") ≡ Some (codes "OCTYPE")
doctype = refl

pub one_letter : read declaration_start (codes "<!a") ≡ Some []
one_letter = refl

pub letter_and_space : read declaration_start (codes "<!A b") ≡ Some (codes " b")
letter_and_space = refl

pub hyphen_for_a_letter : read declaration_start (codes "<!-") ≡ None
hyphen_for_a_letter = refl

pub space_for_a_letter : read declaration_start (codes "<! A") ≡ None
space_for_a_letter = refl

pub no_exclamation_mark : read declaration_start (codes "<A") ≡ None
no_exclamation_mark = refl

pub block_element : read basic_start (codes "<div>") ≡ Some (codes ">")
block_element = refl

pub closing_of_a_block_element : read basic_start (codes "</TABLE") ≡ Some []
closing_of_a_block_element = refl

pub empty_block_element : read basic_start (codes "<p/>") ≡ Some (codes "/>")
empty_block_element = refl

pub inline_element : read basic_start (codes "<span>") ≡ None
inline_element = refl

pub colon_after_a_name : read basic_start (codes "<div:a>") ≡ None
colon_after_a_name = refl

pub heading_seven : read basic_start (codes "<h7>") ≡ None
heading_seven = refl

pub any_element : read complete_opening (codes "<a>") ≡ Some []
any_element = refl

pub element_with_an_attribute : read complete_opening (codes "<a b='c'> ") ≡ Some (codes " ")
element_with_an_attribute = refl

pub block_element_in_one_line : read complete_opening (codes "<div>") ≡ Some []
block_element_in_one_line = refl

pub text_after_a_tag : read complete_opening (codes "<a> b") ≡ None
text_after_a_tag = refl

pub raw_in_one_line : read complete_opening (codes "<pre>") ≡ None
raw_in_one_line = refl

pub unclosed_element : read complete_opening (codes "<a") ≡ None
unclosed_element = refl

pub any_closing : read complete_closing (codes "</a>") ≡ Some []
any_closing = refl

pub space_around_a_closing_end : read complete_closing (codes "</b >\t") ≡ Some (codes "\t")
space_around_a_closing_end = refl

pub closing_of_raw : read complete_closing (codes "</pre>") ≡ Some []
closing_of_raw = refl

pub text_after_a_closing : read complete_closing (codes "</a> b") ≡ None
text_after_a_closing = refl

pub attribute_of_a_closing : read complete_closing (codes "</a b>") ≡ None
attribute_of_a_closing = refl

pub space_before_a_slash : read complete_closing (codes "< /a>") ≡ None
space_before_a_slash = refl

pub end_of_raw : read raw_end (codes "</pre>a") ≡ Some (codes "a")
end_of_raw = refl

pub end_of_script : read raw_end (codes "</Script>") ≡ Some []
end_of_script = refl

pub end_of_a_text_area : read raw_end (codes "</textarea>") ≡ Some []
end_of_a_text_area = refl

pub space_in_an_end : read raw_end (codes "</pre >") ≡ None
space_in_an_end = refl

pub end_of_another_element : read raw_end (codes "</a>") ≡ None
end_of_another_element = refl

pub start_of_raw : read raw_end (codes "<pre>") ≡ None
start_of_raw = refl

pub closed_heading : heading_text (codes "a ##") ≡ codes "a"
closed_heading = refl

pub heading_of_signs_alone : heading_text (codes "##") ≡ []
heading_of_signs_alone = refl

pub spaces_around_the_closing_signs : heading_text (codes "a # \t") ≡ codes "a"
spaces_around_the_closing_signs = refl

pub sign_beside_text : heading_text (codes "a#") ≡ codes "a#"
sign_beside_text = refl

pub signs_within_a_heading : heading_text (codes "a # b") ≡ codes "a # b"
signs_within_a_heading = refl

pub escaped_sign : heading_text (codes "a \\#") ≡ codes "a \\#"
escaped_sign = refl

pub language_alone : language (codes "rust \t") ≡ codes "rust"
language_alone = refl

pub language_before_a_meta : language (codes "a b c ") ≡ codes "a"
language_before_a_meta = refl

pub language_with_marks : language (codes "{.a}\tb") ≡ codes "{.a}"
language_with_marks = refl

pub no_language : language [] ≡ []
no_language = refl

pub meta_of_two_words : meta (codes "a \tb c ") ≡ codes "b c"
meta_of_two_words = refl

pub language_without_a_meta : meta (codes "a ") ≡ []
language_without_a_meta = refl

pub meta_with_marks : meta (codes "a b=\"c\"") ≡ codes "b=\"c\""
meta_with_marks = refl

pub info_without_the_end_of_its_line : info_string (codes "a b \t ") ≡ codes "a b"
info_without_the_end_of_its_line = refl

pub white_space_within_an_info : info_string (codes "a  b") ≡ codes "a  b"
white_space_within_an_info = refl

pub info_of_white_space : info_string (codes " \t") ≡ []
info_of_white_space = refl
