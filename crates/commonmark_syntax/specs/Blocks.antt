-- The syntax of the lines that begin and end blocks: those of CommonMark and GFM, and those of math and frontmatter.
-- Each construct has the name that its specification gives it, and its rule in our words. A text here is one line, without
-- its indentation and its line ending. Indentation is counted in columns first: a line with four or more columns is
-- none of these.
use Rattle.std.specs.Prelude.{ℕ, zero, suc, Bool, cond, false, not, ◌||◌, nat_le, ◌==◌, List, [], ◌∷◌, codes, filter, length}
use Rattle.std.specs.List.{list_any}
use Rattle.commonmark_syntax.specs.Language.{Syntax, are_all, nothing, one, many, all, tested, unless, ◌then◌, ◌or◌, optional, some}
use Rattle.commonmark_syntax.specs.Syntax.{begins_character, byte, is_blank, is_digit, is_from, is_one_of, is_white_space, word}

-- A run of a byte: at least this many, and all there are.
abbrev pub run : (least : ℕ) → ℕ → Syntax
run zero c = all (λ x. x == c)
run (suc n) c = byte c then run n c

-- Tests on what comes next; nothing of it is read.
abbrev pub has_more : List ℕ → Bool
has_more w = list_any (λ c. not (is_blank c)) w

abbrev pub begins_more : List ℕ → Bool
begins_more [] = false
begins_more (c ∷ u) = not (is_blank c)

abbrev pub has : ℕ → List ℕ → Bool
has c w = list_any (λ x. x == c) w

-- only spaces and tabs up to the end of the line
abbrev pub blank_to_end : Syntax
blank_to_end = unless has_more nothing

-- a space, a tab, or the end of the line
abbrev pub blank_or_end : Syntax
blank_or_end = unless begins_more nothing

-- no such byte up to the end of the line
abbrev pub none_to_end : ℕ → Syntax
none_to_end c = unless (has c) nothing

-- The underline of a heading: one or more =, or one or more -, with only spaces and tabs after them.
abbrev pub setext_underline : Syntax
setext_underline = (run 1 61 or run 1 45) then blank_to_end

-- The opening sequence of an ATX heading: one to six #, before a space, a tab, or the end of the line.
abbrev pub is_at_most : ℕ → List ℕ → Bool
is_at_most n w = nat_le (length w) n

abbrev pub atx_opening : Syntax
atx_opening = tested (is_at_most 6) (run 1 35) then blank_or_end

-- A fence that opens code: three or more backticks, with no backtick in the rest of the line, or three or more tildes.
abbrev pub code_fence : Syntax
code_fence = (run 3 96 then none_to_end 96) or run 3 126

-- A fence that opens math: two or more dollar signs, with none in the rest of the line.
abbrev pub math_fence : Syntax
math_fence = run 2 36 then none_to_end 36

-- The fence that closes either: at least as many of the same sign as opened it, with only spaces and tabs after them.
abbrev pub closing_fence : (sign opened : ℕ) → Syntax
closing_fence sign opened = run opened sign then blank_to_end

-- A fence of frontmatter, which is not indented: three signs, with only spaces and tabs after them.
abbrev pub frontmatter_fence : ℕ → Syntax
frontmatter_fence sign = word (sign ∷ sign ∷ sign ∷ []) then blank_to_end

-- The marker of an item of a bullet list: a *, a + or a -.
abbrev pub is_bullet : ℕ → Bool
is_bullet c = is_one_of (42 ∷ 43 ∷ 45 ∷ []) c

-- The marker of an item of an ordered list: one to nine digits, and a . or a ).
abbrev pub is_delimiter : ℕ → Bool
is_delimiter c = (c == 46) || (c == 41)

abbrev pub ordered_list_marker : Syntax
ordered_list_marker = tested (is_at_most 9) (some (one is_digit)) then one is_delimiter

-- The marker of any item, before a space, a tab, or the end of the line.
abbrev pub list_marker : Syntax
list_marker = (one is_bullet or ordered_list_marker) then blank_or_end

-- The marker of an item that may interrupt a paragraph: its number is 1, if it has one, and its line has more.
abbrev pub marker_of_one : Syntax
marker_of_one = tested (is_at_most 9) (many (byte 48) then byte 49) then one is_delimiter

abbrev pub is_blank_line : List ℕ → Bool
is_blank_line w = not (has_more w)

abbrev pub interrupting_list_marker : Syntax
interrupting_list_marker = (one is_bullet or marker_of_one) then blank_or_end then unless is_blank_line nothing

-- The marker of a block quote: a >. A space after it belongs to it, and is counted in columns.
abbrev pub block_quote_marker : Syntax
block_quote_marker = byte 62

-- A thematic break: three or more of one sign, which is *, - or _, with spaces and tabs between them and after them.
abbrev pub spaced : ℕ → Syntax
spaced sign = byte sign then many (one is_blank)

abbrev pub break_of : ℕ → Syntax
break_of sign = spaced sign then spaced sign then some (spaced sign)

abbrev pub thematic_break : Syntax
thematic_break = break_of 42 or break_of 45 or break_of 95

-- a text of spaces, tabs and at most one kind of these signs: it may be the end of a thematic break
abbrev pub is_break_sign : ℕ → Bool
is_break_sign c = is_one_of (42 ∷ 45 ∷ 95 ∷ []) c

abbrev pub is_blank_or : ℕ → ℕ → Bool
is_blank_or sign c = is_blank c || (c == sign)

abbrev pub has_one_sign : List ℕ → Bool
has_one_sign w = are_all (is_blank_or 42) w || (are_all (is_blank_or 45) w || are_all (is_blank_or 95) w)

-- The text of an ATX heading, from its first byte that is neither a space nor a tab: without the spaces and tabs at its
-- end, and without a closing sequence. That is any number of #, after a space, a tab, or nothing.
abbrev pub with_byte : (ℕ → Bool) → ℕ → List ℕ → List ℕ
with_byte p c [] = cond (p c) [] (c ∷ [])
with_byte p c (d ∷ v) = c ∷ d ∷ v

-- a text without the bytes of a class at its end
abbrev pub without_last : (ℕ → Bool) → List ℕ → List ℕ
without_last p [] = []
without_last p (c ∷ u) = with_byte p c (without_last p u)

abbrev pub ends_solid : List ℕ → Bool
ends_solid [] = false
ends_solid (c ∷ []) = not (is_blank c)
ends_solid (c ∷ d ∷ u) = ends_solid (d ∷ u)

abbrev pub is_sign : ℕ → Bool
is_sign c = c == 35

abbrev pub unclosed : (text before_signs : List ℕ) → List ℕ
unclosed text before_signs = cond (ends_solid before_signs) text (without_last is_blank before_signs)

abbrev pub heading_text : List ℕ → List ℕ
heading_text w = unclosed (without_last is_blank w) (without_last is_sign (without_last is_blank w))

-- The delimiter row of a table: cells separated by bars, with an optional bar before the first cell and after the last. A
-- cell is one or more hyphens, with an optional colon on each side, and with spaces and tabs around that. A row of
-- hyphens alone does not count: it is an underline.
abbrev pub delimiter : Syntax
delimiter = optional (byte 58) then some (byte 45) then optional (byte 58)

abbrev pub delimiter_cell : Syntax
delimiter_cell = many (one is_blank) then delimiter then many (one is_blank)

abbrev pub next_delimiter_cell : Syntax
next_delimiter_cell = byte 124 then delimiter_cell

abbrev pub last_bar : Syntax
last_bar = optional (byte 124 then many (one is_blank))

abbrev pub delimiter_cells : Syntax
delimiter_cells = optional (byte 124) then delimiter_cell then many next_delimiter_cell then last_bar

abbrev pub has_bar_or_colon : List ℕ → Bool
has_bar_or_colon w = list_any (λ c. (c == 58) || (c == 124)) w

abbrev pub delimiter_row : Syntax
delimiter_row = tested has_bar_or_colon delimiter_cells

-- The text of the label of a footnote (GFM): at least one character and at most 999, none of them white space. A
-- backslash escapes a bracket or a backslash, and stands for itself before anything else.
abbrev pub is_taken : ℕ → Bool
is_taken c = is_one_of (91 ∷ 93 ∷ 92 ∷ []) c

abbrev pub begins_taken : List ℕ → Bool
begins_taken [] = false
begins_taken (c ∷ u) = is_taken c

abbrev pub in_footnote : ℕ → Bool
in_footnote c = not (is_taken c || is_white_space c)

abbrev pub lone_backslash : Syntax
lone_backslash = byte 92 then unless begins_taken nothing

abbrev pub footnote_character : Syntax
footnote_character = (byte 92 then one is_taken) or lone_backslash or one in_footnote

abbrev pub is_footnote_text : List ℕ → Bool
is_footnote_text w = is_from 1 999 (length (filter begins_character w))

abbrev pub footnote_text : Syntax
footnote_text = tested is_footnote_text (many footnote_character)

-- The label of a footnote definition, with its markers: [^, such a text, and ]:. A footnote call ends with the bracket
-- (footnote_call in Inlines.antt).
abbrev pub footnote_label : Syntax
footnote_label = word (codes "[^") then footnote_text then word (codes "]:")
