-- The syntax of inlines. Each construct has its name from CommonMark or GFM, and its rule in our words.
use Rattle.std.specs.Prelude.{ℕ, Bool, false, not, ◌&&◌, ◌||◌, nat_le, ◌==◌, List, [], ◌∷◌, codes, length}
use Rattle.std.specs.Char.{to_ascii_lowercase}
use Rattle.std.specs.List.{list_any}
use Rattle.commonmark_syntax.specs.Language.{Syntax, all, at_most, many, nothing, one, some, tested, unless, ◌then◌, optional, ◌or◌}
use Rattle.commonmark_syntax.specs.Blocks.{footnote_text, is_at_most, run}
use Rattle.commonmark_syntax.specs.Syntax.{byte, is_alphanumeric, is_digit, is_from, is_hexadecimal, is_letter, is_one_of, word}

-- A scheme: an ASCII letter, and after it 1 to 31 ASCII letters, digits, plus signs, periods and hyphens.
abbrev pub is_of_scheme : ℕ → Bool
is_of_scheme c = is_alphanumeric c || is_one_of (codes "+.-") c

abbrev pub scheme : Syntax
scheme = one is_letter then one is_of_scheme then at_most 30 (one is_of_scheme)

-- An ASCII control character. The null character does not count, because it is read as U+FFFD.
abbrev pub is_control : ℕ → Bool
is_control c = is_from 1 31 c || (c == 127)

-- A URI autolink: an absolute URI between < and >. That is a scheme, a colon, and any characters except ASCII control
-- characters, spaces, < and >.
abbrev pub is_of_uri : ℕ → Bool
is_of_uri c = not (is_control c || is_one_of (codes " <>") c)

abbrev pub absolute_uri : Syntax
absolute_uri = scheme then byte 58 then many (one is_of_uri)

abbrev pub uri_autolink : Syntax
uri_autolink = byte 60 then absolute_uri then byte 62

-- Whether the first byte of a text is of a class, and whether the last one is.
abbrev pub begins_with : (ℕ → Bool) → List ℕ → Bool
begins_with p [] = false
begins_with p (c ∷ w) = p c

abbrev pub ends_with : (ℕ → Bool) → List ℕ → Bool
ends_with p [] = false
ends_with p (c ∷ []) = p c
ends_with p (c ∷ d ∷ w) = ends_with p (d ∷ w)

-- A label of a domain: at most 63 ASCII letters, digits and hyphens, with a letter or a digit at each end.
abbrev pub is_of_domain_label : ℕ → Bool
is_of_domain_label c = is_alphanumeric c || (c == 45)

abbrev pub is_domain_label : List ℕ → Bool
is_domain_label w = nat_le (length w) 63 && begins_with is_alphanumeric w && ends_with is_alphanumeric w

abbrev pub domain_label : Syntax
domain_label = tested is_domain_label (all is_of_domain_label)

-- An email autolink: an email address between < and >. That is some ASCII letters, digits and marks, an at sign, and
-- labels with periods between them.
abbrev pub is_of_local_part : ℕ → Bool
is_of_local_part c = is_alphanumeric c || is_one_of (codes ".!#$%&'*+/=?^_`{|}~-") c

abbrev pub next_domain_label : Syntax
next_domain_label = byte 46 then domain_label

abbrev pub email_address : Syntax
email_address = some (one is_of_local_part) then byte 64 then domain_label then many next_domain_label

abbrev pub email_autolink : Syntax
email_autolink = byte 60 then email_address then byte 62

-- Character references: & and the name of an entity, 1 to 31 ASCII letters and digits; &# and 1 to 7 digits; or &#, an
-- x or X, and 1 to 6 hexadecimal digits; then a semicolon. Which names exist is not a matter of syntax.
abbrev pub entity_reference : Syntax
entity_reference = byte 38 then one is_alphanumeric then at_most 30 (one is_alphanumeric) then byte 59

abbrev pub decimal_reference : Syntax
decimal_reference = word (codes "&#") then one is_digit then at_most 6 (one is_digit) then byte 59

abbrev pub is_x : ℕ → Bool
is_x c = (c == 88) || (c == 120)

abbrev pub hexadecimal_reference : Syntax
hexadecimal_reference = word (codes "&#") then one is_x then one is_hexadecimal then at_most 5 (one is_hexadecimal) then byte 59

abbrev pub character_reference : Syntax
character_reference = entity_reference or decimal_reference or hexadecimal_reference

-- A backslash escape: a backslash, and an ASCII punctuation character.
abbrev pub is_punctuation : ℕ → Bool
is_punctuation c = is_from 33 47 c || is_from 58 64 c || is_from 91 96 c || is_from 123 126 c

abbrev pub backslash_escape : Syntax
backslash_escape = byte 92 then one is_punctuation

-- A hard line break by a backslash: a backslash, and the line ending.
abbrev pub backslash_break : Syntax
backslash_break = byte 92 then byte 10

-- A hard line break by spaces, read backwards from the line ending: two spaces, and all others that are there.
abbrev pub is_space : ℕ → Bool
is_space c = c == 32

abbrev pub spaces_break : Syntax
spaces_break = byte 32 then byte 32 then all is_space

-- The mark of a task (GFM): white space, an x or an X between square brackets. White space comes after it, and later
-- something that is not white space.
abbrev pub is_gfm_white_space : ℕ → Bool
is_gfm_white_space c = is_from 9 13 c || (c == 32)

abbrev pub is_task_value : ℕ → Bool
is_task_value c = is_gfm_white_space c || is_x c

abbrev pub begins_no_task : List ℕ → Bool
begins_no_task s = not (begins_with is_gfm_white_space s && list_any (λ c. not (is_gfm_white_space c)) s)

abbrev pub task_mark : Syntax
task_mark = byte 91 then one is_task_value then byte 93 then unless begins_no_task nothing

-- The start of an extended autolink (GFM): www., or http://, https:// or ftp://, in letters of either case.
abbrev pub is_in_any_case : ℕ → ℕ → Bool
is_in_any_case small c = to_ascii_lowercase c == small

abbrev pub in_any_case : List ℕ → Syntax
in_any_case [] = nothing
in_any_case (c ∷ cs) = one (is_in_any_case c) then in_any_case cs

abbrev pub extended_scheme : Syntax
extended_scheme = (in_any_case (codes "http") then optional (in_any_case (codes "s"))) or in_any_case (codes "ftp")

abbrev pub extended_autolink_start : Syntax
extended_autolink_start = in_any_case (codes "www.") or (extended_scheme then word (codes "://"))

-- A footnote call (GFM): [^, the text of a label, and ]. The label of a footnote definition may have the same texts
-- (footnote_text in Blocks.antt). Whether a footnote has that label is not a matter of syntax.
abbrev pub footnote_call : Syntax
footnote_call = word (codes "[^") then footnote_text then byte 93

-- A delimiter run: one or more *, or one or more _, and all of them that are there. None of them comes before it:
-- otherwise the run would begin there.
abbrev pub delimiter_run : (marker : ℕ) → Syntax
delimiter_run marker = run 1 marker

abbrev pub emphasis_run : Syntax
emphasis_run = delimiter_run 42 or delimiter_run 95

-- A run that may strike text through (GFM): one or two tildes, or only two where single ones do not count. More tildes
-- are no such run.
abbrev pub strikethrough_run : Syntax
strikethrough_run = tested (is_at_most 2) (delimiter_run 126)

abbrev pub double_strikethrough_run : Syntax
double_strikethrough_run = tested (is_at_most 2) (run 2 126)
