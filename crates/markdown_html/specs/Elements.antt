-- The pieces of a page: tags, attributes, and the texts between them.
use Rattle.std.specs.Prelude.{ℕ, zero, suc, ◌-◌, ◌^◌, Bool, true, false, not, ◌||◌, List, [], ◌∷◌, ◌++◌, Option, Some, None, codes, if◌then◌else◌, ◌==◌, nat_le, min, unwrap_or}
use Rattle.std.specs.Fmt.{decimal}
use Rattle.std.specs.List.{list_any}
use Rattle.html_text.specs.Escapes.{escaped}
use Rattle.html_text.specs.Filter.{filtered}
use Rattle.html_text.specs.Safe.{is_space}
use Rattle.html_text.specs.Urls.{encoded, is_safe_link, is_safe_source}
use Rattle.markdown_events.specs.declared.infer.AlignKind.{AlignKind}
use Rattle.markdown_events.specs.declared.infer.AlignKind.TheVariants as align
use Rattle.markdown_kinds.specs.declared.ReferenceKind.{ReferenceKind}
use Rattle.markdown_kinds.specs.declared.ReferenceKind.TheVariants.{Shortcut, Collapsed, Full}
use Rattle.markdown_html.specs.declared.source.Raw.{Raw}
use Rattle.markdown_html.specs.declared.source.Raw.TheVariants.{Omit, Escape, Filter, Pass}

-- an attribute
unfoldable pub attribute : List ℕ → List ℕ → List ℕ
attribute name value = codes " " ++ name ++ codes "=\"" ++ escaped value ++ codes "\""

-- the attribute of a title, if there is one
unfoldable pub title_attribute : Option (List ℕ) → List ℕ
title_attribute None = []
title_attribute (Some title) = attribute (codes "title") title

-- whether addresses may have any scheme: if raw HTML passes
abbrev pub passes : Raw → Bool
passes Filter = true
passes Pass = true
passes _ = false

-- an address that is allowed, encoded; nothing in place of any other address
unfoldable pub link_url : Raw → List ℕ → List ℕ
link_url raw url = if passes raw || is_safe_link (encoded url) then encoded url else []

unfoldable pub image_url : Raw → List ℕ → List ℕ
image_url raw url = if passes raw || is_safe_source (encoded url) then encoded url else []

-- the start of a link
unfoldable pub link_start : Raw → List ℕ → Option (List ℕ) → List ℕ
link_start raw url title = codes "<a" ++ attribute (codes "href") (link_url raw url) ++ title_attribute title ++ codes ">"

-- an image
unfoldable pub image_tag : Raw → (alt url : List ℕ) → Option (List ℕ) → List ℕ
image_tag raw alt url title = codes "<img" ++ attribute (codes "src") (image_url raw url) ++ attribute (codes "alt") alt ++ title_attribute title ++ codes " />"

-- the end of a reference that nothing defines, as a document has it
unfoldable pub reference_end : ReferenceKind → (identifier : List ℕ) → (label : Option (List ℕ)) → List ℕ
reference_end Shortcut identifier label = codes "]"
reference_end Collapsed identifier label = codes "][]"
reference_end Full identifier label = codes "][" ++ unwrap_or label identifier ++ codes "]"

-- the name of the element for a heading of this depth
unfoldable pub heading_name : ℕ → List ℕ
heading_name depth =
    if nat_le depth 1 then codes "h1"
    else (if depth == 2 then codes "h2"
    else (if depth == 3 then codes "h3"
    else (if depth == 4 then codes "h4"
    else (if depth == 5 then codes "h5"
    else codes "h6"))))

-- a number, at most the largest 64-bit number
unfoldable pub numeral : ℕ → List ℕ
numeral n = decimal (min n (2 ^ 64 - 1))

-- the attribute for the number that a list starts with, if it is not 1
unfoldable pub start_attribute : Option ℕ → List ℕ
start_attribute None = []
start_attribute (Some start) = if start == 1 then [] else attribute (codes "start") (numeral start)

-- the class of a list that has tasks
unfoldable pub tasks_attribute : (has_tasks : Bool) → List ℕ
tasks_attribute true = attribute (codes "class") (codes "contains-task-list")
tasks_attribute false = []

-- the start of a list
unfoldable pub list_start : (ordered has_tasks : Bool) → Option ℕ → List ℕ
list_start true has_tasks start = codes "<ol" ++ start_attribute start ++ tasks_attribute has_tasks ++ codes ">\n"
list_start false has_tasks start = codes "<ul" ++ tasks_attribute has_tasks ++ codes ">\n"

-- the end of a list
unfoldable pub list_end : Bool → List ℕ
list_end true = codes "</ol>\n"
list_end false = codes "</ul>\n"

-- the start of an item that is a task
unfoldable pub task_start : List ℕ
task_start = codes "<li" ++ attribute (codes "class") (codes "task-list-item") ++ codes ">"

-- the check box of a task, and a blank between it and the text after it
unfoldable pub check_box : (checked before_text : Bool) → List ℕ
check_box true true = codes "<input type=\"checkbox\" checked=\"\" disabled=\"\" /> "
check_box true false = codes "<input type=\"checkbox\" checked=\"\" disabled=\"\" />"
check_box false true = codes "<input type=\"checkbox\" disabled=\"\" /> "
check_box false false = codes "<input type=\"checkbox\" disabled=\"\" />"

-- a text that can be one class
abbrev pub is_class : List ℕ → Bool
is_class [] = false
is_class (b ∷ text) = not (list_any is_space (b ∷ text))

-- the class of a block of code, if its language can be a class
unfoldable pub language_attribute : Option (List ℕ) → List ℕ
language_attribute None = []
language_attribute (Some language) = if is_class language then attribute (codes "class") (codes "language-" ++ language) else []

-- the lines of a block of code
unfoldable pub code_lines : List ℕ → List ℕ
code_lines [] = []
code_lines (b ∷ value) = escaped (b ∷ value) ++ codes "\n"

-- a block of code
unfoldable pub code_block : Option (List ℕ) → List ℕ → List ℕ
code_block language value = codes "<pre><code" ++ language_attribute language ++ codes ">" ++ code_lines value ++ codes "</code></pre>\n"

-- a block of math
unfoldable pub math_block : List ℕ → List ℕ
math_block value = codes "<pre><code" ++ attribute (codes "class") (codes "language-math math-display") ++ codes ">" ++ escaped value ++ codes "</code></pre>\n"

-- math and code within a text
unfoldable pub math_text : List ℕ → List ℕ
math_text value = codes "<code" ++ attribute (codes "class") (codes "language-math math-inline") ++ codes ">" ++ escaped value ++ codes "</code>"

unfoldable pub code_text : List ℕ → List ℕ
code_text value = codes "<code>" ++ escaped value ++ codes "</code>"

-- the raw HTML of a document
unfoldable pub raw_html : Raw → List ℕ → List ℕ
raw_html Omit value = []
raw_html Escape value = escaped value
raw_html Filter value = filtered value
raw_html Pass value = value

-- the alignment of a cell, from its column
unfoldable pub align_attribute : AlignKind → List ℕ
align_attribute align.Left = codes " align=\"left\""
align_attribute align.Right = codes " align=\"right\""
align_attribute align.Center = codes " align=\"center\""
align_attribute align.None = []

-- the start of a cell in the first of these columns; nothing if no column is left
unfoldable pub cell_start : List ℕ → Option (List AlignKind) → List ℕ
cell_start name None = codes "<" ++ name ++ codes ">"
cell_start name (Some []) = []
cell_start name (Some (first ∷ _)) = codes "<" ++ name ++ align_attribute first ++ codes ">"

-- the end of such a cell
unfoldable pub cell_end : List ℕ → Option (List AlignKind) → List ℕ
cell_end name (Some []) = []
cell_end name _ = codes "</" ++ name ++ codes ">\n"

-- an empty cell, and one in each of these columns
unfoldable pub empty_cell : List ℕ → AlignKind → List ℕ
empty_cell name align = (codes "<" ++ name ++ align_attribute align ++ codes ">") ++ (codes "</" ++ name ++ codes ">\n")

abbrev pub empty_cells : List ℕ → List AlignKind → List ℕ
empty_cells name [] = []
empty_cells name (first ∷ rest) = empty_cell name first ++ empty_cells name rest

-- an arrow that points back (U+21A9)
unfoldable pub arrow : List ℕ
arrow = 226 ∷ 134 ∷ 169 ∷ []

-- the number of a call or of a back reference, if it is not the first
unfoldable pub repeat_text : ℕ → List ℕ
repeat_text count = if count == 1 then [] else codes "-" ++ numeral count

-- that number as people see it
unfoldable pub repeat_mark : ℕ → List ℕ
repeat_mark count = if count == 1 then [] else codes "<sup>" ++ numeral count ++ codes "</sup>"

-- the label of a back reference from a footnote to one of its calls
unfoldable pub back_label : (number count : ℕ) → List ℕ
back_label number count = codes "Back to reference " ++ numeral number ++ repeat_text count

module _ (prefix : List ℕ) where
  -- the id of a footnote, and that of one of its calls
  abbrev pub note_id : List ℕ → List ℕ
  note_id identifier = prefix ++ codes "fn-" ++ encoded identifier

  abbrev pub call_id : List ℕ → ℕ → List ℕ
  call_id identifier count = prefix ++ codes "fnref-" ++ encoded identifier ++ repeat_text count

  -- the id of the heading of the footnotes
  abbrev pub label_id : List ℕ
  label_id = prefix ++ codes "footnote-label"

  -- the heading of the footnotes
  unfoldable pub section_heading : List ℕ
  section_heading = codes "<h2" ++ attribute (codes "class") (codes "sr-only") ++ attribute (codes "id") label_id ++ codes ">Footnotes" ++ codes "</h2>\n<ol>\n"

  -- the start of the section of the footnotes, and that of a footnote
  unfoldable pub section_start : List ℕ
  section_start = codes "<section" ++ attribute (codes "data-footnotes") [] ++ attribute (codes "class") (codes "footnotes") ++ codes ">" ++ section_heading

  unfoldable pub note_start : (identifier : List ℕ) → List ℕ
  note_start identifier = codes "<li" ++ attribute (codes "id") (note_id identifier) ++ codes ">\n"

  -- a footnote call
  unfoldable pub call_links : (identifier : List ℕ) → (count : ℕ) → List ℕ
  call_links identifier count = attribute (codes "href") (codes "#" ++ note_id identifier) ++ attribute (codes "id") (call_id identifier count)

  unfoldable pub call_attributes : (identifier : List ℕ) → (count : ℕ) → List ℕ
  call_attributes identifier count = call_links identifier count ++ attribute (codes "data-footnote-ref") [] ++ attribute (codes "aria-describedby") label_id

  unfoldable pub call_text : (identifier : List ℕ) → (number count : ℕ) → List ℕ
  call_text identifier number count = codes "<sup><a" ++ call_attributes identifier count ++ codes ">" ++ numeral number ++ codes "</a></sup>"

  -- a footnote call within a link: its number, which the back reference leads to
  unfoldable pub linked_call_text : (identifier : List ℕ) → (number count : ℕ) → List ℕ
  linked_call_text identifier number count = codes "<sup" ++ attribute (codes "id") (call_id identifier count) ++ codes ">" ++ numeral number ++ codes "</sup>"

  -- a back reference from a footnote to one of its calls
  unfoldable pub back_attributes : (identifier : List ℕ) → (number count : ℕ) → List ℕ
  back_attributes identifier number count =
      attribute (codes "href") (codes "#" ++ call_id identifier count) ++ attribute (codes "data-footnote-backref") []
      ++ attribute (codes "aria-label") (back_label number count) ++ attribute (codes "class") (codes "data-footnote-backref")

  unfoldable pub back_reference : (identifier : List ℕ) → (number count : ℕ) → List ℕ
  back_reference identifier number count = codes "<a" ++ back_attributes identifier number count ++ codes ">" ++ arrow ++ repeat_mark count ++ codes "</a>"

  -- the back references to all calls from the first to this one, with a space before each
  abbrev pub back_references : (identifier : List ℕ) → (number count : ℕ) → List ℕ
  back_references identifier number zero = []
  back_references identifier number (suc count) = back_references identifier number count ++ codes " " ++ back_reference identifier number (suc count)
