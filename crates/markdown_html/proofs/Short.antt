-- How many bytes the pieces of a page have at most.
use Rattle.std.proofs.Common.{◌≡◌, ℕ, ◌+◌, ◌-◌, ◌*◌, ◌^◌, ◌≤◌, zero, suc, Bool, true, false, ◌&&◌, min, List, [], ◌∷◌, ◌++◌, length, Option, None, Some, if◌then◌else◌, codes, arith, ◌==◌, nat_le}
use Rattle.std.proofs.lemmas.Bool.{cond_both, eqb-true, leb-false, leb-true}
use Rattle.std.proofs.lemmas.Fmt.{length-decimal-le}
use Rattle.std.proofs.lemmas.Grind.{flat_map-append}
use Rattle.std.proofs.lemmas.List.{length-append}
use Rattle.std.proofs.Math.Nat.{suc-mul}
use Rattle.html_text.specs.Escapes.{escape, escaped}
use Rattle.html_text.specs.Filter.{filtered, filtered_byte, is_filtered}
use Rattle.html_text.specs.Urls.{encoded, is_url_byte, percent, upper_digit}
use Rattle.markdown_events.specs.declared.infer.AlignKind.{AlignKind}
use Rattle.markdown_events.specs.declared.infer.AlignKind.TheVariants as align
use Rattle.markdown_kinds.specs.declared.ReferenceKind.{ReferenceKind}
use Rattle.markdown_kinds.specs.declared.ReferenceKind.TheVariants.{Shortcut, Collapsed, Full}
use Rattle.markdown_html.specs.declared.source.Raw.{Raw}
use Rattle.markdown_html.specs.declared.source.Raw.TheVariants.{Omit, Escape, Filter, Pass}
use Rattle.markdown_html.specs.Elements.{align_attribute, arrow, attribute, back_attributes, back_label, back_reference, back_references, call_attributes, call_id, call_links, call_text, cell_end, cell_start, check_box, code_block, code_lines, code_text, empty_cell, empty_cells, heading_name, image_tag, image_url, is_class, label_id, language_attribute, link_start, link_url, linked_call_text, list_end, list_start, math_block, math_text, note_id, note_start, numeral, raw_html, reference_end, repeat_mark, repeat_text, section_heading, section_start, start_attribute, task_start, tasks_attribute, title_attribute}
use Rattle.markdown_html.specs.Texts.{length_of}

-- a text has at most so many bytes
pub record Short (text : List ℕ) (most : ℕ) : Type 0 where
  pub is : length text ≤ most

pub both : {a b : List ℕ} {m n : ℕ} → Short a m → Short b n → Short (a ++ b) (m + n)
both {a} {b} p q = record { is = rw (length-append a b) (omega (arith, p.is, q.is)) }

pub loosely : {text : List ℕ} {m n : ℕ} → Short text m → m ≤ n → Short text n
loosely p fits = record { is = omega (arith, p.is, fits) }

pub whole : (text : List ℕ) → Short text (length text)
whole text = record { is = omega arith }

pub either : (test : Bool) {a b : List ℕ} {n : ℕ} → Short a n → Short b n → Short (if test then a else b) n
either true p q = p
either false p q = q

-- escaped, a byte has at most six bytes, and most have one
escape_short : (b : ℕ) → Short (escape b) 6
unfolding escape
escape_short b =
    either (b == 38) (record { is = omega arith })
    (either (b == 60) (record { is = omega arith })
    (either (b == 62) (record { is = omega arith })
    (either (b == 34) (record { is = omega arith })
    (record { is = omega arith }))))

escape_one : (b : ℕ) → (b ≡ 38 → ⊥) → (b ≡ 60 → ⊥) → (b ≡ 62 → ⊥) → (b ≡ 34 → ⊥) → Short (escape b) 1
unfolding escape
escape_one b first second third fourth =
    cond_both (b == 38) _ _ (λ t. Short t 1) (λ e. absurd (first (eqb-true b 38 e)))
    (λ _. cond_both (b == 60) _ _ (λ t. Short t 1) (λ e. absurd (second (eqb-true b 60 e)))
    (λ _. cond_both (b == 62) _ _ (λ t. Short t 1) (λ e. absurd (third (eqb-true b 62 e)))
    (λ _. cond_both (b == 34) _ _ (λ t. Short t 1) (λ e. absurd (fourth (eqb-true b 34 e)))
    (λ _. record { is = omega arith }))))

pub escaped_short : (text : List ℕ) → Short (escaped text) (6 * length text)
escaped_short [] = record { is = omega arith }
escaped_short (b ∷ text) = loosely (both (escape_short b) (escaped_short text)) (omega arith)

-- and so has a byte of an address, encoded and escaped
digit_short : (d : ℕ) → Short (escape (upper_digit d)) 1
digit_short d =
    cond_both (nat_le d 9) (48 + d) (55 + d) (λ b. Short (escape b) 1)
    (λ e. let low = leb-true d 9 e in escape_one (48 + d) (λ p. omega (arith, p, low)) (λ p. omega (arith, p, low)) (λ p. omega (arith, p, low)) (λ p. omega (arith, p, low)))
    (λ e. let high = leb-false d 9 e in escape_one (55 + d) (λ p. omega (arith, p, high)) (λ p. omega (arith, p, high)) (λ p. omega (arith, p, high)) (λ p. omega (arith, p, high)))

percent_short : (b : ℕ) → Short (escaped (percent b)) 6
unfolding percent
percent_short b =
    cond_both (is_url_byte b) _ _ (λ t. Short (escaped t) 6)
    (λ _. loosely (both (escape_short b) (whole [])) (omega arith))
    (λ _. loosely (both (escape_one 37 (λ p. omega (arith, p)) (λ p. omega (arith, p)) (λ p. omega (arith, p)) (λ p. omega (arith, p))) (both (digit_short _) (both (digit_short _) (whole [])))) (omega arith))

escaped_both : (a b : List ℕ) {m n : ℕ} → Short (escaped a) m → Short (escaped b) n → Short (escaped (a ++ b)) (m + n)
escaped_both a b p q = rw (flat_map-append escape a b) (both p q)

pub encoded_short : (url : List ℕ) → Short (escaped (encoded url)) (6 * length url)
encoded_short [] = record { is = omega arith }
encoded_short (b ∷ url) = loosely (escaped_both (percent b) (encoded url) (percent_short b) (encoded_short url)) (omega arith)

-- attributes
attribute_short : (name value : List ℕ) {n : ℕ} → Short (escaped value) n → Short (attribute name value) (4 + length name + n)
unfolding attribute
attribute_short name value {n} p = loosely (both (both (both (both (whole (codes " ")) (whole name)) (whole (codes "=\""))) p) (whole (codes "\""))) (omega arith)

plain_attribute : (name value : List ℕ) → Short (attribute name value) (4 + length name + 6 * length value)
plain_attribute name value = attribute_short name value (escaped_short value)

title_short : (title : Option (List ℕ)) → Short (title_attribute title) (9 + 6 * length_of title)
unfolding title_attribute
title_short None = record { is = omega arith }
title_short (Some title) = loosely (plain_attribute (codes "title") title) (omega arith)

-- links and images
link_url_short : (raw : Raw) (url : List ℕ) → Short (escaped (link_url raw url)) (6 * length url)
unfolding link_url
link_url_short raw url = cond_both _ (encoded url) [] (λ t. Short (escaped t) (6 * length url)) (λ _. encoded_short url) (λ _. record { is = omega arith })

image_url_short : (raw : Raw) (url : List ℕ) → Short (escaped (image_url raw url)) (6 * length url)
unfolding image_url
image_url_short raw url = cond_both _ (encoded url) [] (λ t. Short (escaped t) (6 * length url)) (λ _. encoded_short url) (λ _. record { is = omega arith })

pub link_start_short : (raw : Raw) (url : List ℕ) (title : Option (List ℕ)) → Short (link_start raw url title) (30 + 6 * (length url + length_of title))
unfolding link_start
link_start_short raw url title = loosely (both (both (both (whole (codes "<a")) (attribute_short (codes "href") (link_url raw url) (link_url_short raw url))) (title_short title)) (whole (codes ">"))) (omega arith)

pub image_tag_short : (raw : Raw) (alt url : List ℕ) (title : Option (List ℕ)) → Short (image_tag raw alt url title) (40 + 6 * (length alt + (length url + length_of title)))
unfolding image_tag
image_tag_short raw alt url title = loosely (both (both (both (both (whole (codes "<img")) (attribute_short (codes "src") (image_url raw url) (image_url_short raw url))) (plain_attribute (codes "alt") alt)) (title_short title)) (whole (codes " />"))) (omega arith)

pub reference_end_short : (kind : ReferenceKind) (identifier : List ℕ) (label : Option (List ℕ)) → Short (escaped (reference_end kind identifier label)) (18 + 6 * (length identifier + length_of label))
unfolding reference_end
reference_end_short Shortcut identifier label = loosely (escaped_short (codes "]")) (omega arith)
reference_end_short Collapsed identifier label = loosely (escaped_short (codes "][]")) (omega arith)
reference_end_short Full identifier None = loosely (escaped_both (codes "][" ++ identifier) (codes "]") (escaped_both (codes "][") identifier (escaped_short (codes "][")) (escaped_short identifier)) (escaped_short (codes "]"))) (omega arith)
reference_end_short Full identifier (Some label) = loosely (escaped_both (codes "][" ++ label) (codes "]") (escaped_both (codes "][") label (escaped_short (codes "][")) (escaped_short label)) (escaped_short (codes "]"))) (omega arith)

-- headings and lists
pub heading_name_short : (depth : ℕ) → Short (heading_name depth) 2
unfolding heading_name
heading_name_short depth =
    either (nat_le depth 1) (whole (codes "h1"))
    (either (depth == 2) (whole (codes "h2"))
    (either (depth == 3) (whole (codes "h3"))
    (either (depth == 4) (whole (codes "h4"))
    (either (depth == 5) (whole (codes "h5"))
    (whole (codes "h6"))))))

numeral_short : (n : ℕ) → Short (numeral n) 20
unfolding numeral
numeral_short n = record { is = length-decimal-le 20 (min n (2 ^ 64 - 1)) (omega arith) (omega arith) (omega arith) }

escaped_numeral_short : (n : ℕ) → Short (escaped (numeral n)) 120
escaped_numeral_short n = loosely (escaped_short (numeral n)) (let p = (numeral_short n).is in omega (arith, p))

start_short : (start : Option ℕ) → Short (start_attribute start) 140
unfolding start_attribute
start_short None = record { is = omega arith }
start_short (Some start) = either (start == 1) (record { is = omega arith }) (loosely (attribute_short (codes "start") (numeral start) (escaped_numeral_short start)) (omega arith))

tasks_short : (has_tasks : Bool) → Short (tasks_attribute has_tasks) 120
unfolding tasks_attribute
tasks_short true = loosely (plain_attribute (codes "class") (codes "contains-task-list")) (omega arith)
tasks_short false = record { is = omega arith }

pub list_start_short : (ordered has_tasks : Bool) (start : Option ℕ) → Short (list_start ordered has_tasks start) 270
unfolding list_start
list_start_short true has_tasks start = loosely (both (both (both (whole (codes "<ol")) (start_short start)) (tasks_short has_tasks)) (whole (codes ">\n"))) (omega arith)
list_start_short false has_tasks start = loosely (both (both (whole (codes "<ul")) (tasks_short has_tasks)) (whole (codes ">\n"))) (omega arith)

pub list_end_short : (ordered : Bool) → Short (list_end ordered) 6
unfolding list_end
list_end_short true = whole (codes "</ol>\n")
list_end_short false = whole (codes "</ul>\n")

pub task_start_short : Short task_start 110
unfolding task_start
task_start_short = loosely (both (both (whole (codes "<li")) (plain_attribute (codes "class") (codes "task-list-item"))) (whole (codes ">"))) (omega arith)

pub check_box_short : (checked before_text : Bool) → Short (check_box checked before_text) 60
unfolding check_box
check_box_short true true = record { is = omega arith }
check_box_short true false = record { is = omega arith }
check_box_short false true = record { is = omega arith }
check_box_short false false = record { is = omega arith }

-- code, math and raw HTML
language_short : (language : Option (List ℕ)) → Short (language_attribute language) (70 + 6 * length_of language)
unfolding language_attribute
language_short None = record { is = omega arith }
language_short (Some language) = either (is_class language) (loosely (attribute_short (codes "class") (codes "language-" ++ language) (escaped_both (codes "language-") language (escaped_short (codes "language-")) (escaped_short language))) (omega arith)) (record { is = omega arith })

code_lines_short : (value : List ℕ) → Short (code_lines value) (1 + 6 * length value)
unfolding code_lines
code_lines_short [] = record { is = omega arith }
code_lines_short (b ∷ value) = loosely (both (escaped_short (b ∷ value)) (whole (codes "\n"))) (omega arith)

pub code_block_short : (language : Option (List ℕ)) (value : List ℕ) → Short (code_block language value) (100 + 6 * (length value + length_of language))
unfolding code_block
code_block_short language value = loosely (both (both (both (both (whole (codes "<pre><code")) (language_short language)) (whole (codes ">"))) (code_lines_short value)) (whole (codes "</code></pre>\n"))) (omega arith)

pub math_block_short : (value : List ℕ) → Short (math_block value) (200 + 6 * length value)
unfolding math_block
math_block_short value = loosely (both (both (both (both (whole (codes "<pre><code")) (plain_attribute (codes "class") (codes "language-math math-display"))) (whole (codes ">"))) (escaped_short value)) (whole (codes "</code></pre>\n"))) (omega arith)

pub math_text_short : (value : List ℕ) → Short (math_text value) (200 + 6 * length value)
unfolding math_text
math_text_short value = loosely (both (both (both (both (whole (codes "<code")) (plain_attribute (codes "class") (codes "language-math math-inline"))) (whole (codes ">"))) (escaped_short value)) (whole (codes "</code>"))) (omega arith)

pub code_text_short : (value : List ℕ) → Short (code_text value) (20 + 6 * length value)
unfolding code_text
code_text_short value = loosely (both (both (whole (codes "<code>")) (escaped_short value)) (whole (codes "</code>"))) (omega arith)

filtered_byte_short : (b : ℕ) (text : List ℕ) → Short (filtered_byte b text) 6
unfolding filtered_byte
filtered_byte_short b text = cond_both (b == 60 && is_filtered text) (codes "&lt;") (b ∷ []) (λ t. Short t 6) (λ _. record { is = omega arith }) (λ _. record { is = omega arith })

filtered_short : (value : List ℕ) → Short (filtered value) (6 * length value)
filtered_short [] = record { is = omega arith }
filtered_short (b ∷ value) = loosely (both (filtered_byte_short b value) (filtered_short value)) (omega arith)

pub raw_html_short : (raw : Raw) (value : List ℕ) → Short (raw_html raw value) (6 * length value)
unfolding raw_html
raw_html_short Omit value = record { is = omega arith }
raw_html_short Escape value = escaped_short value
raw_html_short Filter value = filtered_short value
raw_html_short Pass value = record { is = omega arith }

-- cells
align_short : (align : AlignKind) → Short (align_attribute align) 15
unfolding align_attribute
align_short align.Left = record { is = omega arith }
align_short align.Right = record { is = omega arith }
align_short align.Center = record { is = omega arith }
align_short align.None = record { is = omega arith }

pub cell_start_short : (name : List ℕ) (columns : Option (List AlignKind)) → Short (cell_start name columns) (20 + length name)
unfolding cell_start
cell_start_short name None = loosely (both (both (whole (codes "<")) (whole name)) (whole (codes ">"))) (omega arith)
cell_start_short name (Some []) = record { is = omega arith }
cell_start_short name (Some (first ∷ _)) = loosely (both (both (both (whole (codes "<")) (whole name)) (align_short first)) (whole (codes ">"))) (omega arith)

pub cell_end_short : (name : List ℕ) (columns : Option (List AlignKind)) → Short (cell_end name columns) (10 + length name)
unfolding cell_end
cell_end_short name None = loosely (both (both (whole (codes "</")) (whole name)) (whole (codes ">\n"))) (omega arith)
cell_end_short name (Some []) = record { is = omega arith }
cell_end_short name (Some (first ∷ _)) = loosely (both (both (whole (codes "</")) (whole name)) (whole (codes ">\n"))) (omega arith)

empty_cell_short : (name : List ℕ) (align : AlignKind) → length name ≤ 2 → Short (empty_cell name align) 30
unfolding empty_cell
empty_cell_short name align two = loosely (both (both (both (both (whole (codes "<")) (whole name)) (align_short align)) (whole (codes ">"))) (both (both (whole (codes "</")) (whole name)) (whole (codes ">\n")))) (omega (arith, two))

pub empty_cells_short : (name : List ℕ) (columns : List AlignKind) → length name ≤ 2 → Short (empty_cells name columns) (30 * length columns)
empty_cells_short name [] two = record { is = omega arith }
empty_cells_short name (first ∷ rest) two = loosely (both (empty_cell_short name first two) (empty_cells_short name rest two)) (omega arith)

-- footnotes, their calls and the back references
repeat_text_short : (count : ℕ) → Short (escaped (repeat_text count)) 126
unfolding repeat_text
repeat_text_short count = cond_both (count == 1) _ _ (λ t. Short (escaped t) 126) (λ _. record { is = omega arith }) (λ _. loosely (escaped_both (codes "-") (numeral count) (escaped_short (codes "-")) (escaped_numeral_short count)) (omega arith))

repeat_mark_short : (count : ℕ) → Short (repeat_mark count) 31
unfolding repeat_mark
repeat_mark_short count = either (count == 1) (record { is = omega arith }) (loosely (both (whole (codes "<sup>")) (both (numeral_short count) (whole (codes "</sup>")))) (omega arith))

back_label_short : (number count : ℕ) → Short (escaped (back_label number count)) 360
unfolding back_label
back_label_short number count = loosely (escaped_both (codes "Back to reference " ++ numeral number) (repeat_text count) (escaped_both (codes "Back to reference ") (numeral number) (escaped_short (codes "Back to reference ")) (escaped_numeral_short number)) (repeat_text_short count)) (omega arith)

module _ (prefix : List ℕ) where
  -- the bytes of what an id takes, escaped, without the number of a call
  abbrev pub id_size : List ℕ → ℕ
  id_size identifier = 6 * length prefix + 6 * length identifier

  note_id_short : (identifier : List ℕ) → Short (escaped (note_id prefix identifier)) (20 + id_size identifier)
  note_id_short identifier = loosely (escaped_both (prefix ++ codes "fn-") (encoded identifier) (escaped_both prefix (codes "fn-") (escaped_short prefix) (escaped_short (codes "fn-"))) (encoded_short identifier)) (omega arith)

  call_id_short : (identifier : List ℕ) (count : ℕ) → Short (escaped (call_id prefix identifier count)) (170 + id_size identifier)
  call_id_short identifier count = loosely (escaped_both (prefix ++ codes "fnref-" ++ encoded identifier) (repeat_text count) (escaped_both (prefix ++ codes "fnref-") (encoded identifier) (escaped_both prefix (codes "fnref-") (escaped_short prefix) (escaped_short (codes "fnref-"))) (encoded_short identifier)) (repeat_text_short count)) (omega arith)

  label_id_short : Short (escaped (label_id prefix)) (90 + 6 * length prefix)
  label_id_short = loosely (escaped_both prefix (codes "footnote-label") (escaped_short prefix) (escaped_short (codes "footnote-label"))) (omega arith)

  heading_short : Short (section_heading prefix) (250 + 6 * length prefix)
  unfolding section_heading
  heading_short = loosely (both (both (both (both (whole (codes "<h2")) (plain_attribute (codes "class") (codes "sr-only"))) (attribute_short (codes "id") (label_id prefix) label_id_short)) (whole (codes ">Footnotes"))) (whole (codes "</h2>\n<ol>\n"))) (omega arith)

  pub section_start_short : Short (section_start prefix) (400 + 6 * length prefix)
  unfolding section_start
  section_start_short = loosely (both (both (both (both (whole (codes "<section")) (plain_attribute (codes "data-footnotes") [])) (plain_attribute (codes "class") (codes "footnotes"))) (whole (codes ">"))) heading_short) (omega arith)

  pub note_start_short : (identifier : List ℕ) → Short (note_start prefix identifier) (40 + id_size identifier)
  unfolding note_start
  note_start_short identifier = loosely (both (both (whole (codes "<li")) (attribute_short (codes "id") (note_id prefix identifier) (note_id_short identifier))) (whole (codes ">\n"))) (omega arith)

  href_short : (id : List ℕ) {n : ℕ} → Short (escaped id) n → Short (attribute (codes "href") (codes "#" ++ id)) (20 + n)
  href_short id p = loosely (attribute_short (codes "href") (codes "#" ++ id) (escaped_both (codes "#") id (escaped_short (codes "#")) p)) (omega arith)

  call_links_short : (identifier : List ℕ) (count : ℕ) → Short (call_links prefix identifier count) (230 + 2 * id_size identifier)
  unfolding call_links
  call_links_short identifier count = loosely (both (href_short (note_id prefix identifier) (note_id_short identifier)) (attribute_short (codes "id") (call_id prefix identifier count) (call_id_short identifier count))) (omega arith)

  call_attributes_short : (identifier : List ℕ) (count : ℕ) → Short (call_attributes prefix identifier count) (390 + 3 * id_size identifier)
  unfolding call_attributes
  call_attributes_short identifier count = loosely (both (both (call_links_short identifier count) (plain_attribute (codes "data-footnote-ref") [])) (attribute_short (codes "aria-describedby") (label_id prefix) label_id_short)) (omega arith)

  pub call_text_short : (identifier : List ℕ) (number count : ℕ) → Short (call_text prefix identifier number count) (450 + 3 * id_size identifier)
  unfolding call_text
  call_text_short identifier number count = loosely (both (both (both (both (whole (codes "<sup><a")) (call_attributes_short identifier count)) (whole (codes ">"))) (numeral_short number)) (whole (codes "</a></sup>"))) (omega arith)

  pub linked_call_text_short : (identifier : List ℕ) (number count : ℕ) → Short (linked_call_text prefix identifier number count) (450 + 3 * id_size identifier)
  unfolding linked_call_text
  linked_call_text_short identifier number count = loosely (both (both (both (both (whole (codes "<sup")) (attribute_short (codes "id") (call_id prefix identifier count) (call_id_short identifier count))) (whole (codes ">"))) (numeral_short number)) (whole (codes "</sup>"))) (omega arith)

  back_attributes_short : (identifier : List ℕ) (number count : ℕ) → Short (back_attributes prefix identifier number count) (770 + id_size identifier)
  unfolding back_attributes
  back_attributes_short identifier number count = loosely (both (both (both (href_short (call_id prefix identifier count) (call_id_short identifier count)) (plain_attribute (codes "data-footnote-backref") [])) (attribute_short (codes "aria-label") (back_label number count) (back_label_short number count))) (plain_attribute (codes "class") (codes "data-footnote-backref"))) (omega arith)

  -- a back reference, with the space before it
  abbrev pub back_size : List ℕ → ℕ
  back_size identifier = 820 + id_size identifier

  back_reference_short : (identifier : List ℕ) (number count : ℕ) → Short (back_reference prefix identifier number count) (819 + id_size identifier)
  unfolding back_reference arrow
  back_reference_short identifier number count = loosely (both (both (both (both (both (whole (codes "<a")) (back_attributes_short identifier number count)) (whole (codes ">"))) (whole arrow)) (repeat_mark_short count)) (whole (codes "</a>"))) (omega arith)

  one_more : (count : ℕ) (identifier : List ℕ) → suc count * back_size identifier ≡ count * back_size identifier + back_size identifier
  one_more count identifier = suc-mul count (back_size identifier)

  pub back_references_short : (identifier : List ℕ) (number count : ℕ) → Short (back_references prefix identifier number count) (count * back_size identifier)
  back_references_short identifier number zero = record { is = omega arith }
  back_references_short identifier number (suc count) = loosely (both (both (back_references_short identifier number count) (whole (codes " "))) (back_reference_short identifier number (suc count))) (rw (one_more count identifier) (omega arith))
