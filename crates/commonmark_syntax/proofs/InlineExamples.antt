-- The page of inlines read by computation: for each construct texts that begin with it, and texts that do not.
use Rattle.std.proofs.Common.{◌≡◌, [], None, Some, false, lit<, refl, true}
use Rattle.std.specs.Prelude.{codes}
use Rattle.commonmark_syntax.specs.EmailLiterals.{HasProtocol, IsLocalPart, is_of_resource, is_of_segment, literal_domain}
use Rattle.commonmark_syntax.specs.ExtendedAutolinks.{is_trail, path, trimmed}
use Rattle.commonmark_syntax.specs.Inlines.{backslash_break, backslash_escape, decimal_reference, double_strikethrough_run, email_autolink, emphasis_run, entity_reference, extended_autolink_start, footnote_call, hexadecimal_reference, in_any_case, spaces_break, strikethrough_run, task_mark, uri_autolink}
use Rattle.commonmark_syntax.specs.Reading.{read}
use Rattle.commonmark_syntax.proofs.Sound.{sound}

pub scheme_of_two_letters : read uri_autolink (codes "<ab:>x") ≡ Some (codes "x")
scheme_of_two_letters = refl

pub uri_with_a_query : read uri_autolink (codes "<http://a?b=c&d>") ≡ Some []
uri_with_a_query = refl

pub scheme_with_marks : read uri_autolink (codes "<a.b+c-d:e,f>") ≡ Some []
scheme_with_marks = refl

pub scheme_of_one_letter : read uri_autolink (codes "<a:b>") ≡ None
scheme_of_one_letter = refl

pub space_in_a_uri : read uri_autolink (codes "<http://a b>") ≡ None
space_in_a_uri = refl

pub space_before_a_uri : read uri_autolink (codes "< http://a>") ≡ None
space_before_a_uri = refl

pub no_scheme : read uri_autolink (codes "<a.b.c>") ≡ None
no_scheme = refl

pub one_label : read email_autolink (codes "<a@b>c") ≡ Some (codes "c")
one_label = refl

pub several_labels : read email_autolink (codes "<a.b+c@d-e.f>") ≡ Some []
several_labels = refl

pub marks_before_the_at_sign : read email_autolink (codes "<!#$%&'*+/=?^_`{|}~-@b.c>") ≡ Some []
marks_before_the_at_sign = refl

pub hyphen_before_a_label : read email_autolink (codes "<a@-b>") ≡ None
hyphen_before_a_label = refl

pub hyphen_after_a_label : read email_autolink (codes "<a@b-.c>") ≡ None
hyphen_after_a_label = refl

pub empty_local_part : read email_autolink (codes "<@b>") ≡ None
empty_local_part = refl

pub escaped_mark : read email_autolink (codes "<a\\+@b>") ≡ None
escaped_mark = refl

pub ampersand : read entity_reference (codes "&amp;b") ≡ Some (codes "b")
ampersand = refl

pub digits_in_a_name : read entity_reference (codes "&frac34;") ≡ Some []
digits_in_a_name = refl

pub name_of_one_letter : read entity_reference (codes "&x;") ≡ Some []
name_of_one_letter = refl

pub no_semicolon : read entity_reference (codes "&amp b") ≡ None
no_semicolon = refl

pub empty_name : read entity_reference (codes "&;") ≡ None
empty_name = refl

pub mark_in_a_name : read entity_reference (codes "&a_b;") ≡ None
mark_in_a_name = refl

pub name_of_32_letters : read entity_reference (codes "&aaaaaaaaaaaaaaaaaaaaaaaaaaaaaaaa;") ≡ None
name_of_32_letters = refl

pub number_sign : read decimal_reference (codes "&#35;a") ≡ Some (codes "a")
number_sign = refl

pub number_zero : read decimal_reference (codes "&#0;") ≡ Some []
number_zero = refl

pub seven_digits : read decimal_reference (codes "&#9999999;") ≡ Some []
seven_digits = refl

pub no_digit : read decimal_reference (codes "&#;") ≡ None
no_digit = refl

pub eight_digits : read decimal_reference (codes "&#12345678;") ≡ None
eight_digits = refl

pub letter_in_a_number : read decimal_reference (codes "&#1a;") ≡ None
letter_in_a_number = refl

pub upper_case_x : read hexadecimal_reference (codes "&#X22;a") ≡ Some (codes "a")
upper_case_x = refl

pub lower_case_digits : read hexadecimal_reference (codes "&#xcab;") ≡ Some []
lower_case_digits = refl

pub six_digits : read hexadecimal_reference (codes "&#xABCDEF;") ≡ Some []
six_digits = refl

pub no_hexadecimal_digit : read hexadecimal_reference (codes "&#x;") ≡ None
no_hexadecimal_digit = refl

pub seven_hexadecimal_digits : read hexadecimal_reference (codes "&#x1234567;") ≡ None
seven_hexadecimal_digits = refl

pub letter_g : read hexadecimal_reference (codes "&#xg;") ≡ None
letter_g = refl

pub exclamation_mark : read backslash_escape (codes "\\!a") ≡ Some (codes "a")
exclamation_mark = refl

pub escaped_backslash : read backslash_escape (codes "\\\\") ≡ Some []
escaped_backslash = refl

pub tilde : read backslash_escape (codes "\\~\\") ≡ Some (codes "\\")
tilde = refl

pub escaped_letter : read backslash_escape (codes "\\a") ≡ None
escaped_letter = refl

pub escaped_space : read backslash_escape (codes "\\ ") ≡ None
escaped_space = refl

pub no_backslash : read backslash_escape (codes "!") ≡ None
no_backslash = refl

pub line_after_a_backslash : read backslash_break (codes "\\\na") ≡ Some (codes "a")
line_after_a_backslash = refl

pub text_ends_after_it : read backslash_break (codes "\\\n") ≡ Some []
text_ends_after_it = refl

pub blank_line_after_it : read backslash_break (codes "\\\n\n") ≡ Some (codes "\n")
blank_line_after_it = refl

pub space_before_the_line_ending : read backslash_break (codes "\\ \n") ≡ None
space_before_the_line_ending = refl

pub escaped_backslash_before_the_line_ending : read backslash_break (codes "\\\\\n") ≡ None
escaped_backslash_before_the_line_ending = refl

pub line_ending_alone : read backslash_break (codes "\n") ≡ None
line_ending_alone = refl

pub two_spaces : read spaces_break (codes "  a") ≡ Some (codes "a")
two_spaces = refl

pub three_spaces : read spaces_break (codes "   ") ≡ Some []
three_spaces = refl

pub four_spaces : read spaces_break (codes "    b") ≡ Some (codes "b")
four_spaces = refl

pub one_space : read spaces_break (codes " a") ≡ None
one_space = refl

pub tab_in_place : read spaces_break (codes "\t a") ≡ None
tab_in_place = refl

pub no_space : read spaces_break (codes "a") ≡ None
no_space = refl

pub open_task : read task_mark (codes "[ ] a") ≡ Some (codes " a")
open_task = refl

pub done_task : read task_mark (codes "[x]\ta") ≡ Some (codes "\ta")
done_task = refl

pub mark_before_a_mark : read task_mark (codes "[X] [ ]") ≡ Some (codes " [ ]")
mark_before_a_mark = refl

pub no_space_after_a_mark : read task_mark (codes "[ ]a") ≡ None
no_space_after_a_mark = refl

pub only_space_after_a_mark : read task_mark (codes "[x]  ") ≡ None
only_space_after_a_mark = refl

pub two_spaces_in_a_mark : read task_mark (codes "[  ] a") ≡ None
two_spaces_in_a_mark = refl

pub other_letter : read task_mark (codes "[y] a") ≡ None
other_letter = refl

pub www : read extended_autolink_start (codes "www.a") ≡ Some (codes "a")
www = refl

pub any_case : read extended_autolink_start (codes "WwW.") ≡ Some []
any_case = refl

pub http : read extended_autolink_start (codes "http://a") ≡ Some (codes "a")
http = refl

pub https_in_upper_case : read extended_autolink_start (codes "HTTPS://a") ≡ Some (codes "a")
https_in_upper_case = refl

pub ftp : read extended_autolink_start (codes "ftp://") ≡ Some []
ftp = refl

pub two_letters : read extended_autolink_start (codes "ww.a") ≡ None
two_letters = refl

pub one_slash : read extended_autolink_start (codes "http:/a") ≡ None
one_slash = refl

pub other_scheme : read extended_autolink_start (codes "httpx://a") ≡ None
other_scheme = refl

pub call_of_a_footnote : read footnote_call (codes "[^a]b") ≡ Some (codes "b")
call_of_a_footnote = refl

pub bracket_in_a_call : read footnote_call (codes "[^a\\[b\\]]") ≡ Some []
bracket_in_a_call = refl

pub call_before_a_colon : read footnote_call (codes "[^a^]:") ≡ Some (codes ":")
call_before_a_colon = refl

pub lone_backslash_in_a_call : read footnote_call (codes "[^\\a]") ≡ Some []
lone_backslash_in_a_call = refl

pub empty_call : read footnote_call (codes "[^]") ≡ None
empty_call = refl

pub space_in_a_call : read footnote_call (codes "[^a b]") ≡ None
space_in_a_call = refl

pub line_ending_in_a_call : read footnote_call (codes "[^a\nb]") ≡ None
line_ending_in_a_call = refl

pub bracket_without_a_backslash : read footnote_call (codes "[^a[b]") ≡ None
bracket_without_a_backslash = refl

pub escaped_end_of_a_call : read footnote_call (codes "[^a\\]") ≡ None
escaped_end_of_a_call = refl

pub one_asterisk : read emphasis_run (codes "*a*") ≡ Some (codes "a*")
one_asterisk = refl

pub three_underscores : read emphasis_run (codes "___") ≡ Some []
three_underscores = refl

pub underscores_after_asterisks : read emphasis_run (codes "**_") ≡ Some (codes "_")
underscores_after_asterisks = refl

pub letter_before_asterisks : read emphasis_run (codes "a*") ≡ None
letter_before_asterisks = refl

pub backslash_before_an_asterisk : read emphasis_run (codes "\\*") ≡ None
backslash_before_an_asterisk = refl

pub tilde_is_no_emphasis : read emphasis_run (codes "~a~") ≡ None
tilde_is_no_emphasis = refl

pub one_tilde : read strikethrough_run (codes "~a") ≡ Some (codes "a")
one_tilde = refl

pub two_tildes : read strikethrough_run (codes "~~ ") ≡ Some (codes " ")
two_tildes = refl

pub two_tildes_at_the_end : read double_strikethrough_run (codes "~~") ≡ Some []
two_tildes_at_the_end = refl

pub three_tildes : read strikethrough_run (codes "~~~a") ≡ None
three_tildes = refl

pub no_tilde : read strikethrough_run (codes "a~") ≡ None
no_tilde = refl

pub single_tilde : read double_strikethrough_run (codes "~a") ≡ None
single_tilde = refl

pub three_tildes_in_place_of_two : read double_strikethrough_run (codes "~~~") ≡ None
three_tildes_in_place_of_two = refl

pub one_tilde_at_the_end : read strikethrough_run (codes "~") ≡ Some []
one_tilde_at_the_end = refl

pub backslash_before_a_tilde : read strikethrough_run (codes "\\~a") ≡ None
backslash_before_a_tilde = refl

pub two_tildes_before_a_word : read double_strikethrough_run (codes "~~a~") ≡ Some (codes "a~")
two_tildes_before_a_word = refl

pub two_tildes_before_a_space : read double_strikethrough_run (codes "~~ ~") ≡ Some (codes " ~")
two_tildes_before_a_space = refl

pub two_tildes_apart : read double_strikethrough_run (codes "~ ~") ≡ None
two_tildes_apart = refl

pub path_of_an_autolink : trimmed (path false (codes "/a?b=c d")) ≡ codes "/a?b=c"
path_of_an_autolink = refl

pub parentheses_in_a_path : trimmed (path false (codes "/a_(b)), c")) ≡ codes "/a_(b)"
parentheses_in_a_path = refl

pub bracket_around_a_path : trimmed (path true (codes "/a[b]c](d)")) ≡ codes "/a[b]c"
bracket_around_a_path = refl

pub no_bracket_around_a_path : trimmed (path false (codes "/a]b<c")) ≡ codes "/a]b"
no_bracket_around_a_path = refl

pub marks_at_the_end : trimmed (path false (codes "/a!b?*_~.: c")) ≡ codes "/a!b"
marks_at_the_end = refl

pub reference_at_the_end : trimmed (path false (codes "/a&b9;&c;. d")) ≡ codes "/a"
reference_at_the_end = refl

pub no_reference_at_the_end : trimmed (path false (codes "/a&#98;")) ≡ codes "/a&#98"
no_reference_at_the_end = refl

pub only_a_trail : is_trail (path false (codes "_.)&a;! b")) ≡ true
only_a_trail = refl

pub more_than_a_trail : is_trail (path false (codes "_.&a b")) ≡ false
more_than_a_trail = refl

pub trail_before_a_bracket : is_trail (path true (codes "_](b)")) ≡ true
trail_before_a_bracket = refl

pub domain_of_an_address : read (literal_domain is_of_segment) (codes "a.b-c d") ≡ Some (codes " d")
domain_of_an_address = refl

pub period_after_a_domain : read (literal_domain is_of_segment) (codes "a_b.c.") ≡ Some (codes ".")
period_after_a_domain = refl

pub slash_in_a_domain : read (literal_domain is_of_resource) (codes "a.b/c") ≡ Some []
slash_in_a_domain = refl

pub domain_before_a_slash : read (literal_domain is_of_segment) (codes "a.b/c") ≡ Some (codes "/c")
domain_before_a_slash = refl

pub hyphen_at_the_end_of_a_domain : read (literal_domain is_of_segment) (codes "a.b-") ≡ None
hyphen_at_the_end_of_a_domain = refl

pub domain_without_a_period : read (literal_domain is_of_segment) (codes "ab c.d") ≡ None
domain_without_a_period = refl

pub period_first_in_a_domain : read (literal_domain is_of_segment) (codes ".a.b") ≡ None
period_first_in_a_domain = refl

pub local_part_after_a_space : IsLocalPart (codes "a b+c") (codes "a ")
local_part_after_a_space = record { part = codes "b+c"; whole = refl; some = lit< tt; every = refl; ended = refl; no_slash = refl }

pub protocol_after_a_mark : HasProtocol (codes "mailto:") (codes "(MailTo:") (codes "(")
protocol_after_a_mark = record {
  part = codes "MailTo:";
  whole = refl;
  word = sound (in_any_case (codes "mailto:")) (codes "MailTo:") [] refl;
  ended = refl;
}
