-- The syntax that blocks and inlines share, HTML, and the parts of links. Each construct has its name from CommonMark, and
-- its rule in our words.
use Rattle.std.specs.Prelude.{ℕ, Bool, true, false, not, ◌&&◌, ◌||◌, nat_le, ◌==◌, List, [], ◌∷◌, codes, filter, length}
use Rattle.std.specs.List.{list_any}
use Rattle.commonmark_syntax.specs.Language.{Syntax, nothing, one, many, through, all, tested, unless, ◌then◌, ◌or◌, optional, some}

-- Bytes and classes of bytes.
abbrev pub byte : ℕ → Syntax
byte c = one (λ x. x == c)

-- the bytes of a word, in order
abbrev pub word : List ℕ → Syntax
word [] = nothing
word (c ∷ cs) = byte c then word cs

abbrev pub is_from : ℕ → ℕ → ℕ → Bool
is_from low high c = nat_le low c && nat_le c high

abbrev pub is_one_of : List ℕ → ℕ → Bool
is_one_of [] c = false
is_one_of (x ∷ xs) c = (c == x) || is_one_of xs c

abbrev pub is_digit : ℕ → Bool
is_digit = is_from 48 57

abbrev pub is_letter : ℕ → Bool
is_letter c = is_from 65 90 c || is_from 97 122 c

abbrev pub is_alphanumeric : ℕ → Bool
is_alphanumeric c = is_letter c || is_digit c

abbrev pub is_hexadecimal : ℕ → Bool
is_hexadecimal c = is_digit c || is_from 65 70 c || is_from 97 102 c

-- a space or a tab
abbrev pub is_blank : ℕ → Bool
is_blank c = (c == 32) || (c == 9)

-- White space: spaces, tabs and line endings. A line ending is an LF, because the tokenizer passes texts on in that form.
abbrev pub new_line : Syntax
new_line = byte 10 then many (one is_blank)

-- any number of spaces and tabs, with at most one line ending among them
abbrev pub blanks : Syntax
blanks = many (one is_blank) then optional new_line

-- such white space, but not empty
abbrev pub some_blanks : Syntax
some_blanks = (some (one is_blank) then optional new_line) or new_line

-- A tag name begins with a letter. Letters, digits and hyphens may follow.
abbrev pub is_of_tag_name : ℕ → Bool
is_of_tag_name c = is_letter c || is_digit c || (c == 45)

abbrev pub tag_name : Syntax
tag_name = one is_letter then many (one is_of_tag_name)

-- a tag name that goes as far as it can
abbrev pub whole_tag_name : Syntax
whole_tag_name = one is_letter then all is_of_tag_name

-- An attribute name begins with a letter, an underscore or a colon. Digits, periods and hyphens may follow too.
abbrev pub begins_attribute_name : ℕ → Bool
begins_attribute_name c = is_letter c || (c == 95) || (c == 58)

abbrev pub is_of_attribute_name : ℕ → Bool
is_of_attribute_name c = begins_attribute_name c || is_digit c || (c == 46) || (c == 45)

abbrev pub attribute_name : Syntax
attribute_name = one begins_attribute_name then many (one is_of_attribute_name)

-- An unquoted value is not empty, and contains neither white space nor quotes nor any of =, <, > and `.
abbrev pub is_unquoted : ℕ → Bool
is_unquoted c = not (is_one_of (32 ∷ 9 ∷ 10 ∷ 34 ∷ 39 ∷ 61 ∷ 60 ∷ 62 ∷ 96 ∷ []) c)

abbrev pub unquoted : Syntax
unquoted = some (one is_unquoted)

abbrev pub is_not : ℕ → ℕ → Bool
is_not quote c = not (c == quote)

-- A value in quotes goes up to the next quote of its kind.
abbrev pub quoted : ℕ → Syntax
quoted quote = byte quote then through (quote ∷ [])

abbrev pub attribute_value : Syntax
attribute_value = unquoted or quoted 39 or quoted 34

-- the value of an attribute, after an equals sign
abbrev pub value_specification : Syntax
value_specification = blanks then byte 61 then blanks then attribute_value

-- An attribute comes after white space, and need not have a value.
abbrev pub attribute : Syntax
attribute = some_blanks then attribute_name then optional value_specification

-- An open tag ends with >, or with /> if the element is empty. In <a href=b/> the slash may belong to the value or to the
-- end: the tag ends at the same place.
abbrev pub open_tag_end : Syntax
open_tag_end = blanks then optional (byte 47) then byte 62

-- An open tag is <, a tag name, attributes, and that end.
abbrev pub open_tag : Syntax
open_tag = byte 60 then tag_name then many attribute then open_tag_end

-- A closing tag is </, a tag name, white space, and >.
abbrev pub closing_tag : Syntax
closing_tag = word (codes "</") then tag_name then blanks then byte 62

-- A comment is <!-->, or <!--->, or it goes from <!-- to the next -->. In <!--> a --> both a short comment and a long one
-- begin, and the specification does not say which one counts: the short one does, as in cmark.
abbrev pub begins_short : List ℕ → Bool
begins_short [] = false
begins_short (c ∷ []) = c == 62
begins_short (c ∷ d ∷ u) = (c == 62) || ((c == 45) && (d == 62))

abbrev pub long_comment : Syntax
long_comment = word (codes "<!--") then unless begins_short (through (codes "-->"))

abbrev pub comment : Syntax
comment = word (codes "<!-->") or word (codes "<!--->") or long_comment

-- A processing instruction goes from <? to the next ?>.
abbrev pub processing_instruction : Syntax
processing_instruction = word (codes "<?") then through (codes "?>")

-- A declaration goes from <! and a letter to the next >.
abbrev pub declaration : Syntax
declaration = word (codes "<!") then one is_letter then through (codes ">")

-- A CDATA section goes from <![CDATA[ to the next ]]>.
abbrev pub cdata_section : Syntax
cdata_section = word (codes "<![CDATA[") then through (codes "]]>")

-- An HTML tag: any of these.
abbrev pub html_tag : Syntax
html_tag = open_tag or closing_tag or comment or processing_instruction or declaration or cdata_section

-- In labels, destinations and titles a backslash takes the next character with it, so that an escaped bracket, parenthesis
-- or quote does not count.
abbrev pub is_any : ℕ → Bool
is_any c = true

abbrev pub character : (taken plain : ℕ → Bool) → Syntax
character taken plain = (byte 92 then one taken) or one plain

-- whether only spaces and tabs come before the next line ending, and whether there is a blank line after a line ending
abbrev pub ends_blank : List ℕ → Bool
ends_blank [] = false
ends_blank (c ∷ u) = (c == 10) || (is_blank c && ends_blank u)

abbrev pub has_blank_line : List ℕ → Bool
has_blank_line [] = false
has_blank_line (c ∷ u) = ((c == 10) && ends_blank u) || has_blank_line u

abbrev pub has_no_blank_line : List ℕ → Bool
has_no_blank_line w = not (has_blank_line w)

-- A title is between two double quotes, two single quotes, or parentheses. These marks may occur in it only after a
-- backslash. It may have several lines, but no blank one.
abbrev pub in_double_quotes : ℕ → Bool
in_double_quotes c = not (is_one_of (34 ∷ 92 ∷ []) c)

abbrev pub in_single_quotes : ℕ → Bool
in_single_quotes c = not (is_one_of (39 ∷ 92 ∷ []) c)

abbrev pub in_parentheses : ℕ → Bool
in_parentheses c = not (is_one_of (40 ∷ 41 ∷ 92 ∷ []) c)

abbrev pub title_text : (ℕ → Bool) → Syntax
title_text plain = tested has_no_blank_line (many (character is_any plain))

abbrev pub titled : ℕ → (ℕ → Bool) → ℕ → Syntax
titled opening plain closing = byte opening then title_text plain then byte closing

abbrev pub title : Syntax
title = titled 34 in_double_quotes 34 or titled 39 in_single_quotes 39 or titled 40 in_parentheses 41

-- A link label is between brackets, and contains brackets only after a backslash. It has at most 999 characters, and not
-- only white space.
abbrev pub in_brackets : ℕ → Bool
in_brackets c = not (is_one_of (91 ∷ 93 ∷ 92 ∷ []) c)

abbrev pub is_white_space : ℕ → Bool
is_white_space c = is_blank c || (c == 10)

-- the bytes that begin a character of UTF-8
abbrev pub begins_character : ℕ → Bool
begins_character c = not (is_from 128 191 c)

abbrev pub is_label_text : List ℕ → Bool
is_label_text w = list_any (λ c. not (is_white_space c)) w && nat_le (length (filter begins_character w)) 999

abbrev pub link_label : Syntax
link_label = byte 91 then tested is_label_text (many (character is_any in_brackets)) then byte 93

-- A destination may be between angle brackets. Then it contains no line ending, and angle brackets only after a
-- backslash. The page Parentheses.antt has the destinations without angle brackets.
abbrev pub in_line : ℕ → Bool
in_line c = not (c == 10)

abbrev pub in_angle_brackets : ℕ → Bool
in_angle_brackets c = not (is_one_of (10 ∷ 60 ∷ 62 ∷ 92 ∷ []) c)

abbrev pub angle_destination : Syntax
angle_destination = byte 60 then many (character in_line in_angle_brackets) then byte 62
