-- The syntax of CommonMark's HTML blocks. A block begins with the first of seven conditions that holds. It ends in the line
-- that has the end for that condition, or before a blank line.
use Rattle.std.specs.Prelude.{ℕ, Bool, false, not, cond, ◌&&◌, ◌||◌, ◌≡◌, ◌<◌, ◌==◌, List, [], ◌∷◌, ◌++◌, codes, drop}
use Rattle.std.specs.List.{list_any}
use Rattle.std.specs.Str.{str_eq_ignore_ascii_case}
use Rattle.commonmark_syntax.specs.Blocks.{blank_to_end}
use Rattle.commonmark_syntax.specs.Language.{IsAt, IsNotAt, Syntax, nothing, one, tested, unless, ◌then◌, ◌or◌, optional}
use Rattle.commonmark_syntax.specs.Syntax.{byte, closing_tag, is_blank, is_letter, is_of_tag_name, open_tag, whole_tag_name, word}
use Rattle.commonmark_syntax.specs.declared.html_block.Kind.{Kind}
use Rattle.commonmark_syntax.specs.declared.html_block.Kind.TheVariants as html

-- A name is in a list, regardless of the case of its letters.
abbrev pub is_among : List (List ℕ) → List ℕ → Bool
is_among names w = list_any (λ name. str_eq_ignore_ascii_case name w) names

-- the elements that may contain blank lines
abbrev pub raw_names : List (List ℕ)
raw_names = codes "pre" ∷ codes "script" ∷ codes "style" ∷ codes "textarea" ∷ []

-- the block elements
abbrev pub basic_names : List (List ℕ)
basic_names =
    codes "address" ∷ codes "article" ∷ codes "aside" ∷ codes "base" ∷ codes "basefont" ∷ codes "blockquote" ∷
    codes "body" ∷ codes "caption" ∷ codes "center" ∷ codes "col" ∷ codes "colgroup" ∷ codes "dd" ∷
    codes "details" ∷ codes "dialog" ∷ codes "dir" ∷ codes "div" ∷ codes "dl" ∷ codes "dt" ∷ codes "fieldset" ∷
    codes "figcaption" ∷ codes "figure" ∷ codes "footer" ∷ codes "form" ∷ codes "frame" ∷ codes "frameset" ∷
    codes "h1" ∷ codes "h2" ∷ codes "h3" ∷ codes "h4" ∷ codes "h5" ∷ codes "h6" ∷ codes "head" ∷
    codes "header" ∷ codes "hr" ∷ codes "html" ∷ codes "iframe" ∷ codes "legend" ∷ codes "li" ∷ codes "link" ∷
    codes "main" ∷ codes "menu" ∷ codes "menuitem" ∷ codes "nav" ∷ codes "noframes" ∷ codes "ol" ∷
    codes "optgroup" ∷ codes "option" ∷ codes "p" ∷ codes "param" ∷ codes "search" ∷ codes "section" ∷
    codes "summary" ∷ codes "table" ∷ codes "tbody" ∷ codes "td" ∷ codes "tfoot" ∷ codes "th" ∷ codes "thead" ∷
    codes "title" ∷ codes "tr" ∷ codes "track" ∷ codes "ul" ∷ []

abbrev pub name_among : List (List ℕ) → Syntax
name_among names = tested (is_among names) whole_tag_name

-- Condition 1: <, the name of an element that may contain blank lines, and then a space, a tab, > or the end of the line.
abbrev pub goes_on : List ℕ → Bool
goes_on [] = false
goes_on (c ∷ u) = not (is_blank c || (c == 62))

abbrev pub raw_start : Syntax
raw_start = byte 60 then name_among raw_names then unless goes_on nothing

-- Conditions 2 to 5: the starts of a comment, a processing instruction, a declaration and a CDATA section.
abbrev pub declaration_start : Syntax
declaration_start = word (codes "<!") then one is_letter

-- Condition 6: < or </, the name of a block element, and then a space, a tab, > or />, or the end of the line.
abbrev pub goes_on_in_tag : List ℕ → Bool
goes_on_in_tag [] = false
goes_on_in_tag (c ∷ []) = not (is_blank c || (c == 62))
goes_on_in_tag (c ∷ d ∷ u) = not (is_blank c || ((c == 62) || ((c == 47) && (d == 62))))

abbrev pub basic_start : Syntax
basic_start = byte 60 then optional (byte 47) then name_among basic_names then unless goes_on_in_tag nothing

-- Condition 7: an open tag, unless it has a name of condition 1, or a closing tag, alone on its line.
abbrev pub front : (ℕ → Bool) → List ℕ → List ℕ
front p [] = []
front p (c ∷ u) = cond (p c) (c ∷ front p u) []

abbrev pub has_raw_name : List ℕ → Bool
has_raw_name s = is_among raw_names (front is_of_tag_name (drop 1 s))

abbrev pub complete_opening : Syntax
complete_opening = unless has_raw_name open_tag then blank_to_end

abbrev pub complete_closing : Syntax
complete_closing = closing_tag then blank_to_end

abbrev pub html_start : Kind → Syntax
html_start html.Raw = raw_start
html_start html.Comment = word (codes "<!--")
html_start html.Instruction = word (codes "<?")
html_start html.Declaration = declaration_start
html_start html.Cdata = word (codes "<![CDATA[")
html_start html.Basic = basic_start
html_start html.Complete = complete_opening or complete_closing

abbrev pub condition : Kind → ℕ
condition html.Raw = 1
condition html.Comment = 2
condition html.Instruction = 3
condition html.Declaration = 4
condition html.Cdata = 5
condition html.Basic = 6
condition html.Complete = 7

-- A condition holds for a line, and no earlier condition does.
abbrev pub HoldsFirst : Kind → List ℕ → Type 0
HoldsFirst kind s = IsAt (html_start kind) s × ((other : Kind) → condition other < condition kind → IsNotAt (html_start other) s)

-- A text of a syntax is somewhere in this text.
abbrev pub IsIn : Syntax → List ℕ → Type 0
IsIn a s = (before rest : List ℕ) × (s ≡ before ++ rest) × IsAt a rest

-- the closing tag of any element that may contain blank lines
abbrev pub raw_end : Syntax
raw_end = word (codes "</") then name_among raw_names then byte 62

-- A line has the end of a block. The last two kinds end only at a blank line.
abbrev pub HasEnd : Kind → List ℕ → Type 0
HasEnd html.Raw s = IsIn raw_end s
HasEnd html.Comment s = IsIn (word (codes "-->")) s
HasEnd html.Instruction s = IsIn (word (codes "?>")) s
HasEnd html.Declaration s = IsIn (word (codes ">")) s
HasEnd html.Cdata s = IsIn (word (codes "]]>")) s
HasEnd html.Basic s = ⊥
HasEnd html.Complete s = ⊥
