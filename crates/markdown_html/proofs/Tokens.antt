-- What the tokenizer reads in a page.
use Rattle.std.proofs.Common.{◌≡◌, ℕ, ◌-◌, ◌^◌, ◌==◌, ◌||◌, zero, suc, not, Bool, true, false, nat_le, min, List, [], ◌∷◌, ◌++◌, Option, None, Some, codes, refl, sym, ap, ◌∙◌, arith, append_assoc}
use Rattle.std.proofs.lemmas.Bool.{cond_both, false≢true, not-true}
use Rattle.std.specs.List.{list_any}
use Rattle.html_text.specs.Safe.{Allowed, State, after_value, content, has_link, in_value, is_in, is_space, may_be, start_tag, takes_blocks}
use Rattle.html_text.specs.Urls.{encoded, is_safe_link, is_safe_source}
use Rattle.html_text.proofs.Reading.{Reads, begins-append, both, digits_are, fixed, number_reads, text_reads, value_ends, value_reads}
use Rattle.markdown_events.specs.declared.infer.AlignKind.{AlignKind}
use Rattle.markdown_events.specs.declared.infer.AlignKind.TheVariants as align
use Rattle.markdown_html.specs.declared.source.Raw.{Raw}
use Rattle.markdown_html.specs.declared.source.Raw.TheVariants.{Omit, Escape, Filter, Pass}
use Rattle.markdown_html.specs.Elements.{align_attribute, arrow, attribute, back_attributes, back_label, back_reference, back_references, call_attributes, call_id, call_links, call_text, cell_end, cell_start, check_box, code_block, code_lines, code_text, empty_cell, empty_cells, heading_name, image_tag, image_url, is_class, label_id, language_attribute, link_start, link_url, linked_call_text, list_end, list_start, math_block, math_text, note_id, note_start, numeral, passes, raw_html, repeat_mark, repeat_text, section_heading, section_start, start_attribute, task_start, tasks_attribute, title_attribute}

-- a link may begin where these elements are open, or a block, or an item
abbrev pub Linkless : List (List ℕ) → Type 0
Linkless up = not (has_link up) ≡ true

abbrev pub TakesBlocks : List (List ℕ) → Type 0
TakesBlocks up = takes_blocks up ≡ true

abbrev pub InList : List (List ℕ) → Type 0
InList up = is_in (codes "ol" ∷ codes "ul" ∷ []) up ≡ true

module _ (raw : Raw) (prefix : List ℕ) where
  -- what the page may have
  abbrev pub may : Allowed
  may = record { id_prefix = prefix; any_url = passes raw }

  abbrev pub Read : State → List ℕ → State → Type 0
  Read from piece to = Reads may from piece to

  -- numbers
  numeral_reads : (up : List (List ℕ)) (n : ℕ) → Read (content up) (numeral n) (content up)
  unfolding numeral
  numeral_reads up n = number_reads may up (min n (2 ^ 64 - 1)) (omega arith)

  -- attributes
  module _ (up : List (List ℕ)) (name attr : List ℕ) where
    attribute_reads : (s : State) (value : List ℕ) → Read s (codes " " ++ attr ++ codes "=\"") (in_value up name attr []) → may_be may attr value ≡ true → Read s (attribute attr value) (after_value up name)
    unfolding attribute
    attribute_reads s value front fits = both may (both may front (value_reads may up name attr value)) (value_ends may up name attr value fits)

  title_reads : (up : List (List ℕ)) (name : List ℕ) (title : Option (List ℕ)) → ((value : List ℕ) → Read (after_value up name) (attribute (codes "title") value) (after_value up name)) → Read (after_value up name) (title_attribute title) (after_value up name)
  unfolding title_attribute
  title_reads up name None reads = fixed may (after_value up name) []
  title_reads up name (Some title) reads = reads title

  -- headings
  heading_cases : (P : List ℕ → Type 0) (depth : ℕ) → P (codes "h1") → P (codes "h2") → P (codes "h3") → P (codes "h4") → P (codes "h5") → P (codes "h6") → P (heading_name depth)
  unfolding heading_name
  heading_cases P depth one two three four five six =
      cond_both (nat_le depth 1) _ _ P (λ _. one) (λ _.
      cond_both (depth == 2) _ _ P (λ _. two) (λ _.
      cond_both (depth == 3) _ _ P (λ _. three) (λ _.
      cond_both (depth == 4) _ _ P (λ _. four) (λ _.
      cond_both (depth == 5) _ _ P (λ _. five) (λ _. six)))))

  pub heading_reads : (up : List (List ℕ)) (depth : ℕ) → TakesBlocks up → Read (content up) (codes "<" ++ heading_name depth ++ codes ">") (content (heading_name depth ∷ up))
  heading_reads up depth may_begin = heading_cases (λ n. Read (content up) (codes "<" ++ n ++ codes ">") (content (n ∷ up))) depth (record { is = rw may_begin refl }) (record { is = rw may_begin refl }) (record { is = rw may_begin refl }) (record { is = rw may_begin refl }) (record { is = rw may_begin refl }) (record { is = rw may_begin refl })

  pub heading_linkless : (up : List (List ℕ)) (depth : ℕ) → Linkless up → Linkless (heading_name depth ∷ up)
  heading_linkless up depth linkless = heading_cases (λ n. Linkless (n ∷ up)) depth linkless linkless linkless linkless linkless linkless

  pub heading_ends : (up : List (List ℕ)) (depth : ℕ) → Read (content (heading_name depth ∷ up)) (codes "</" ++ heading_name depth ++ codes ">\n") (content up)
  heading_ends up depth = heading_cases (λ n. Read (content (n ∷ up)) (codes "</" ++ n ++ codes ">\n") (content up)) depth (fixed may _ _) (fixed may _ _) (fixed may _ _) (fixed may _ _) (fixed may _ _) (fixed may _ _)

  -- lists
  numeral_fits : (n : ℕ) → may_be may (codes "start") (numeral n) ≡ true
  unfolding numeral
  numeral_fits n = digits_are (min n (2 ^ 64 - 1)) (omega arith)

  module _ (up : List (List ℕ)) (may_begin : TakesBlocks up) where
    ol_plain : Read (start_tag up (codes "ol")) (codes ">\n") (content (codes "ol" ∷ up))
    ol_plain = record { is = rw may_begin refl }

    ol_start : Read (start_tag up (codes "ol")) (codes " " ++ codes "start" ++ codes "=\"") (in_value up (codes "ol") (codes "start") [])
    ol_start = record { is = rw may_begin refl }

    ol_class : Read (start_tag up (codes "ol")) (codes " " ++ codes "class" ++ codes "=\"") (in_value up (codes "ol") (codes "class") [])
    ol_class = record { is = rw may_begin refl }

    ul_plain : Read (start_tag up (codes "ul")) (codes ">\n") (content (codes "ul" ∷ up))
    ul_plain = record { is = rw may_begin refl }

    ul_class : Read (start_tag up (codes "ul")) (codes " " ++ codes "class" ++ codes "=\"") (in_value up (codes "ul") (codes "class") [])
    ul_class = record { is = rw may_begin refl }

    -- the end of a tag that may have the class of tasks
    ol_with : (s : State) (x : List ℕ) (has_tasks : Bool) → Read (start_tag up (codes "ol")) x s → Read s (codes " " ++ codes "class" ++ codes "=\"") (in_value up (codes "ol") (codes "class") []) → Read s (codes ">\n") (content (codes "ol" ∷ up)) → Read (content up) (codes "<ol" ++ x ++ tasks_attribute has_tasks ++ codes ">\n") (content (codes "ol" ∷ up))
    unfolding tasks_attribute
    ol_with s x true p class plain = both may (both may (both may (fixed may (content up) (codes "<ol")) p) (attribute_reads up (codes "ol") (codes "class") s (codes "contains-task-list") class refl)) (fixed may (after_value up (codes "ol")) (codes ">\n"))
    ol_with s x false p class plain = both may (both may (both may (fixed may (content up) (codes "<ol")) p) (fixed may s [])) plain

    ol_reads : (has_tasks : Bool) (start : Option ℕ) → Read (content up) (codes "<ol" ++ start_attribute start ++ tasks_attribute has_tasks ++ codes ">\n") (content (codes "ol" ∷ up))
    unfolding start_attribute
    ol_reads has_tasks None = ol_with (start_tag up (codes "ol")) [] has_tasks (fixed may (start_tag up (codes "ol")) []) ol_class ol_plain
    ol_reads has_tasks (Some start) =
        cond_both (start == 1) _ _ (λ x. Read (content up) (codes "<ol" ++ x ++ tasks_attribute has_tasks ++ codes ">\n") (content (codes "ol" ∷ up)))
        (λ _. ol_with (start_tag up (codes "ol")) [] has_tasks (fixed may (start_tag up (codes "ol")) []) ol_class ol_plain)
        (λ _. ol_with (after_value up (codes "ol")) (attribute (codes "start") (numeral start)) has_tasks (attribute_reads up (codes "ol") (codes "start") (start_tag up (codes "ol")) (numeral start) ol_start (numeral_fits start)) (fixed may _ _) (fixed may (after_value up (codes "ol")) (codes ">\n")))

    ul_reads : (has_tasks : Bool) → Read (content up) (codes "<ul" ++ tasks_attribute has_tasks ++ codes ">\n") (content (codes "ul" ∷ up))
    unfolding tasks_attribute
    ul_reads true = both may (both may (fixed may (content up) (codes "<ul")) (attribute_reads up (codes "ul") (codes "class") (start_tag up (codes "ul")) (codes "contains-task-list") ul_class refl)) (fixed may (after_value up (codes "ul")) (codes ">\n"))
    ul_reads false = both may (both may (fixed may (content up) (codes "<ul")) (fixed may (start_tag up (codes "ul")) [])) ul_plain

  -- the element of a list
  abbrev pub list_name : Bool → List ℕ
  list_name true = codes "ol"
  list_name false = codes "ul"

  pub list_linkless : (up : List (List ℕ)) (ordered : Bool) → Linkless up → Linkless (list_name ordered ∷ up)
  list_linkless up true linkless = linkless
  list_linkless up false linkless = linkless

  pub list_takes_blocks : (up : List (List ℕ)) (ordered : Bool) → TakesBlocks up → TakesBlocks (list_name ordered ∷ up)
  list_takes_blocks up true takes = takes
  list_takes_blocks up false takes = takes

  pub list_is_in : (up : List (List ℕ)) (ordered : Bool) → InList (list_name ordered ∷ up)
  list_is_in up true = refl
  list_is_in up false = refl

  pub list_reads : (up : List (List ℕ)) (ordered has_tasks : Bool) (start : Option ℕ) → TakesBlocks up → Read (content up) (list_start ordered has_tasks start) (content (list_name ordered ∷ up))
  unfolding list_start
  list_reads up true has_tasks start may_begin = ol_reads up may_begin has_tasks start
  list_reads up false has_tasks start may_begin = ul_reads up may_begin has_tasks

  pub list_ends : (up : List (List ℕ)) (ordered : Bool) → Read (content (list_name ordered ∷ up)) (list_end ordered) (content up)
  unfolding list_end
  list_ends up true = fixed may (content (codes "ol" ∷ up)) (codes "</ol>\n")
  list_ends up false = fixed may (content (codes "ul" ∷ up)) (codes "</ul>\n")

  -- tasks
  pub check_box_reads : (up : List (List ℕ)) (checked before_text : Bool) → Read (content up) (check_box checked before_text) (content up)
  unfolding check_box
  check_box_reads up true true = fixed may (content up) (codes "<input type=\"checkbox\" checked=\"\" disabled=\"\" /> ")
  check_box_reads up true false = fixed may (content up) (codes "<input type=\"checkbox\" checked=\"\" disabled=\"\" />")
  check_box_reads up false true = fixed may (content up) (codes "<input type=\"checkbox\" disabled=\"\" /> ")
  check_box_reads up false false = fixed may (content up) (codes "<input type=\"checkbox\" disabled=\"\" />")

  task_class : (up : List (List ℕ)) → InList up → Read (start_tag up (codes "li")) (codes " " ++ codes "class" ++ codes "=\"") (in_value up (codes "li") (codes "class") [])
  task_class up listed = record { is = rw listed refl }

  pub task_reads : (up : List (List ℕ)) → InList up → Read (content up) task_start (content (codes "li" ∷ up))
  unfolding task_start
  task_reads up listed =
      both may (both may (fixed may (content up) (codes "<li")) (attribute_reads up (codes "li") (codes "class") (start_tag up (codes "li")) (codes "task-list-item") (task_class up listed) refl))
      (fixed may (after_value up (codes "li")) (codes ">"))

  -- code and math
  lines_read : (up : List (List ℕ)) (value : List ℕ) → Read (content up) (code_lines value) (content up)
  unfolding code_lines
  lines_read up [] = fixed may (content up) []
  lines_read up (b ∷ value) = both may (text_reads may up (b ∷ value)) (fixed may (content up) (codes "\n"))

  pre_reads : (up : List (List ℕ)) → TakesBlocks up → Read (content up) (codes "<pre><code") (start_tag (codes "pre" ∷ up) (codes "code"))
  pre_reads up may_begin = record { is = rw may_begin refl }

  code_with : (up : List (List ℕ)) (value : List ℕ) {m : State} {x : List ℕ} → TakesBlocks up → Read (start_tag (codes "pre" ∷ up) (codes "code")) x m → Read m (codes ">") (content (codes "code" ∷ codes "pre" ∷ up)) → Read (content up) (codes "<pre><code" ++ x ++ codes ">" ++ code_lines value ++ codes "</code></pre>\n") (content up)
  code_with up value may_begin p q =
      both may (both may (both may (both may (pre_reads up may_begin) p) q) (lines_read (codes "code" ∷ codes "pre" ∷ up) value)) (fixed may (content (codes "code" ∷ codes "pre" ∷ up)) (codes "</code></pre>\n"))

  class_fits : (language : List ℕ) → is_class language ≡ true → may_be may (codes "class") (codes "language-" ++ language) ≡ true
  class_fits [] is = refl
  class_fits (b ∷ text) is = rw (not-true (list_any is_space (b ∷ text)) is) refl

  class_reads : (up : List (List ℕ)) (value : List ℕ) → may_be may (codes "class") value ≡ true → Read (start_tag up (codes "code")) (attribute (codes "class") value) (after_value up (codes "code"))
  class_reads up value fits = attribute_reads up (codes "code") (codes "class") (start_tag up (codes "code")) value (fixed may _ _) fits

  pub code_reads : (up : List (List ℕ)) (lang : Option (List ℕ)) (value : List ℕ) → TakesBlocks up → Read (content up) (code_block lang value) (content up)
  unfolding code_block language_attribute
  code_reads up None value may_begin = code_with up value may_begin (fixed may (start_tag (codes "pre" ∷ up) (codes "code")) []) (fixed may _ _)
  code_reads up (Some language) value may_begin =
      cond_both (is_class language) _ _ (λ x. Read (content up) (codes "<pre><code" ++ x ++ codes ">" ++ code_lines value ++ codes "</code></pre>\n") (content up))
      (λ is. code_with up value may_begin (class_reads (codes "pre" ∷ up) (codes "language-" ++ language) (class_fits language is)) (fixed may (after_value (codes "pre" ∷ up) (codes "code")) (codes ">")))
      (λ _. code_with up value may_begin (fixed may (start_tag (codes "pre" ∷ up) (codes "code")) []) (fixed may _ _))

  pub math_reads : (up : List (List ℕ)) (value : List ℕ) → TakesBlocks up → Read (content up) (math_block value) (content up)
  unfolding math_block
  math_reads up value may_begin =
      both may (both may (both may (both may (pre_reads up may_begin) (class_reads (codes "pre" ∷ up) (codes "language-math math-display") refl)) (fixed may (after_value (codes "pre" ∷ up) (codes "code")) (codes ">")))
      (text_reads may (codes "code" ∷ codes "pre" ∷ up) value)) (fixed may (content (codes "code" ∷ codes "pre" ∷ up)) (codes "</code></pre>\n"))

  pub math_text_reads : (up : List (List ℕ)) (value : List ℕ) → Read (content up) (math_text value) (content up)
  unfolding math_text
  math_text_reads up value =
      both may (both may (both may (both may (fixed may (content up) (codes "<code")) (class_reads up (codes "language-math math-inline") refl)) (fixed may (after_value up (codes "code")) (codes ">")))
      (text_reads may (codes "code" ∷ up) value)) (fixed may (content (codes "code" ∷ up)) (codes "</code>"))

  pub code_text_reads : (up : List (List ℕ)) (value : List ℕ) → Read (content up) (code_text value) (content up)
  unfolding code_text
  code_text_reads up value = both may (both may (fixed may (content up) (codes "<code>")) (text_reads may (codes "code" ∷ up) value)) (fixed may (content (codes "code" ∷ up)) (codes "</code>"))

  -- links and images
  or_true : (b : Bool) → (b || true) ≡ true
  or_true true = refl
  or_true false = refl

  link_fits : (url : List ℕ) → may_be may (codes "href") (link_url raw url) ≡ true
  unfolding link_url is_safe_link
  link_fits url = cond_both (passes raw || is_safe_link (encoded url)) (encoded url) [] (λ u. (passes raw || is_safe_link u) ≡ true) (λ e. e) (λ _. or_true (passes raw))

  image_fits : (url : List ℕ) → may_be may (codes "src") (image_url raw url) ≡ true
  unfolding image_url is_safe_source
  image_fits url = cond_both (passes raw || is_safe_source (encoded url)) (encoded url) [] (λ u. (passes raw || is_safe_source u) ≡ true) (λ e. e) (λ _. or_true (passes raw))

  pub link_reads : (up : List (List ℕ)) (url : List ℕ) (title : Option (List ℕ)) → Linkless up → Read (content up) (link_start raw url title) (content (codes "a" ∷ up))
  unfolding link_start
  link_reads up url title linkless =
      both may (both may (both may (fixed may (content up) (codes "<a"))
      (attribute_reads up (codes "a") (codes "href") (start_tag up (codes "a")) (link_url raw url) (record { is = rw linkless refl }) (link_fits url)))
      (title_reads up (codes "a") title (λ value. attribute_reads up (codes "a") (codes "title") (after_value up (codes "a")) value (fixed may _ _) refl)))
      (fixed may (after_value up (codes "a")) (codes ">"))

  pub image_reads : (up : List (List ℕ)) (alt url : List ℕ) (title : Option (List ℕ)) → Read (content up) (image_tag raw alt url title) (content up)
  unfolding image_tag
  image_reads up alt url title =
      both may (both may (both may (both may (fixed may (content up) (codes "<img"))
      (attribute_reads up (codes "img") (codes "src") (start_tag up (codes "img")) (image_url raw url) (fixed may _ _) (image_fits url)))
      (attribute_reads up (codes "img") (codes "alt") (after_value up (codes "img")) alt (fixed may _ _) refl))
      (title_reads up (codes "img") title (λ value. attribute_reads up (codes "img") (codes "title") (after_value up (codes "img")) value (fixed may _ _) refl)))
      (fixed may (after_value up (codes "img")) (codes " />"))

  -- raw HTML that does not pass
  pub raw_reads : (up : List (List ℕ)) (how : Raw) (value : List ℕ) → passes how ≡ false → Read (content up) (raw_html how value) (content up)
  unfolding raw_html
  raw_reads up Omit value closed = fixed may (content up) []
  raw_reads up Escape value closed = text_reads may up value
  raw_reads up Filter value closed = absurd (false≢true (sym closed))
  raw_reads up Pass value closed = absurd (false≢true (sym closed))

  -- tables: the cells of a kind
  module _ (up : List (List ℕ)) (name : List ℕ)
      (starts : (kind : AlignKind) → Read (content up) (codes "<" ++ name ++ align_attribute kind ++ codes ">") (content (name ∷ up)))
      (plain : Read (content up) (codes "<" ++ name ++ codes ">") (content (name ∷ up)))
      (ends : Read (content (name ∷ up)) (codes "</" ++ name ++ codes ">\n") (content up)) where
    -- the elements that are open in a cell
    abbrev pub in_cell : Option (List AlignKind) → List (List ℕ)
    in_cell (Some []) = up
    in_cell _ = name ∷ up

    pub cell_reads : (columns : Option (List AlignKind)) → Read (content up) (cell_start name columns) (content (in_cell columns))
    unfolding cell_start
    cell_reads None = plain
    cell_reads (Some []) = fixed may (content up) []
    cell_reads (Some (first ∷ rest)) = starts first

    pub cell_ends : (columns : Option (List AlignKind)) → Read (content (in_cell columns)) (cell_end name columns) (content up)
    unfolding cell_end
    cell_ends None = ends
    cell_ends (Some []) = fixed may (content up) []
    cell_ends (Some (first ∷ rest)) = ends

    empty_reads : (kind : AlignKind) → Read (content up) (empty_cell name kind) (content up)
    unfolding empty_cell
    empty_reads kind = both may (starts kind) ends

    pub empty_cells_read : (columns : List AlignKind) → Read (content up) (empty_cells name columns) (content up)
    empty_cells_read [] = fixed may (content up) []
    empty_cells_read (first ∷ rest) = both may (empty_reads first) (empty_cells_read rest)

  -- in a row
  pub th_starts : (up : List (List ℕ)) (kind : AlignKind) → Read (content (codes "tr" ∷ up)) (codes "<" ++ codes "th" ++ align_attribute kind ++ codes ">") (content (codes "th" ∷ codes "tr" ∷ up))
  unfolding align_attribute
  th_starts up align.Left = fixed may (content (codes "tr" ∷ up)) (codes "<th align=\"left\">")
  th_starts up align.Right = fixed may (content (codes "tr" ∷ up)) (codes "<th align=\"right\">")
  th_starts up align.Center = fixed may (content (codes "tr" ∷ up)) (codes "<th align=\"center\">")
  th_starts up align.None = fixed may (content (codes "tr" ∷ up)) (codes "<th>")

  pub td_starts : (up : List (List ℕ)) (kind : AlignKind) → Read (content (codes "tr" ∷ up)) (codes "<" ++ codes "td" ++ align_attribute kind ++ codes ">") (content (codes "td" ∷ codes "tr" ∷ up))
  unfolding align_attribute
  td_starts up align.Left = fixed may (content (codes "tr" ∷ up)) (codes "<td align=\"left\">")
  td_starts up align.Right = fixed may (content (codes "tr" ∷ up)) (codes "<td align=\"right\">")
  td_starts up align.Center = fixed may (content (codes "tr" ∷ up)) (codes "<td align=\"center\">")
  td_starts up align.None = fixed may (content (codes "tr" ∷ up)) (codes "<td>")

  -- footnotes
  id_fits : (text : List ℕ) → may_be may (codes "id") (prefix ++ text) ≡ true
  id_fits text = begins-append prefix text

  note_fits : (identifier : List ℕ) → may_be may (codes "id") (note_id prefix identifier) ≡ true
  note_fits identifier = ap (λ (t : List ℕ). may_be may (codes "id") t) (append_assoc prefix (codes "fn-") (encoded identifier)) ∙ id_fits (codes "fn-" ++ encoded identifier)

  call_fits : (identifier : List ℕ) (count : ℕ) → may_be may (codes "id") (call_id prefix identifier count) ≡ true
  call_fits identifier count =
      ap (λ (t : List ℕ). may_be may (codes "id") t) (ap (λ (t : List ℕ). t ++ repeat_text count) (append_assoc prefix (codes "fnref-") (encoded identifier)) ∙ append_assoc prefix (codes "fnref-" ++ encoded identifier) (repeat_text count))
      ∙ id_fits ((codes "fnref-" ++ encoded identifier) ++ repeat_text count)

  -- an address on the same page has no scheme
  here_fits : (id : List ℕ) → may_be may (codes "href") (codes "#" ++ id) ≡ true
  unfolding is_safe_link
  here_fits id = or_true (passes raw)

  pub section_reads : Read (content []) (section_start prefix) (content (codes "ol" ∷ codes "section" ∷ []))
  unfolding section_start section_heading
  section_reads =
      let up : List (List ℕ) = [] in
      let inside = codes "section" ∷ up in
      both may (both may (both may (both may (fixed may (content up) (codes "<section"))
      (attribute_reads up (codes "section") (codes "data-footnotes") (start_tag up (codes "section")) [] (fixed may _ _) refl))
      (attribute_reads up (codes "section") (codes "class") (after_value up (codes "section")) (codes "footnotes") (fixed may _ _) refl))
      (fixed may (after_value up (codes "section")) (codes ">")))
      (both may (both may (both may (both may (fixed may (content inside) (codes "<h2"))
      (attribute_reads inside (codes "h2") (codes "class") (start_tag inside (codes "h2")) (codes "sr-only") (fixed may _ _) refl))
      (attribute_reads inside (codes "h2") (codes "id") (after_value inside (codes "h2")) (label_id prefix) (fixed may _ _) (id_fits (codes "footnote-label"))))
      (fixed may (after_value inside (codes "h2")) (codes ">Footnotes")))
      (fixed may (content (codes "h2" ∷ inside)) (codes "</h2>\n<ol>\n")))

  pub note_reads : (up : List (List ℕ)) (identifier : List ℕ) → InList up → Read (content up) (note_start prefix identifier) (content (codes "li" ∷ up))
  unfolding note_start
  note_reads up identifier listed =
      both may (both may (fixed may (content up) (codes "<li")) (attribute_reads up (codes "li") (codes "id") (start_tag up (codes "li")) (note_id prefix identifier) (record { is = rw listed refl }) (note_fits identifier)))
      (fixed may (after_value up (codes "li")) (codes ">\n"))

  links_read : (up : List (List ℕ)) (identifier : List ℕ) (count : ℕ) → Linkless up → Read (start_tag up (codes "a")) (call_links prefix identifier count) (after_value up (codes "a"))
  unfolding call_links
  links_read up identifier count linkless =
      both may (attribute_reads up (codes "a") (codes "href") (start_tag up (codes "a")) (codes "#" ++ note_id prefix identifier) (record { is = rw linkless refl }) (here_fits (note_id prefix identifier)))
      (attribute_reads up (codes "a") (codes "id") (after_value up (codes "a")) (call_id prefix identifier count) (fixed may _ _) (call_fits identifier count))

  call_attributes_read : (up : List (List ℕ)) (identifier : List ℕ) (count : ℕ) → Linkless up → Read (start_tag up (codes "a")) (call_attributes prefix identifier count) (after_value up (codes "a"))
  unfolding call_attributes
  call_attributes_read up identifier count linkless =
      both may (both may (links_read up identifier count linkless)
      (attribute_reads up (codes "a") (codes "data-footnote-ref") (after_value up (codes "a")) [] (fixed may _ _) refl))
      (attribute_reads up (codes "a") (codes "aria-describedby") (after_value up (codes "a")) (label_id prefix) (fixed may _ _) (id_fits (codes "footnote-label")))

  pub call_reads : (up : List (List ℕ)) (identifier : List ℕ) (number count : ℕ) → Linkless up → Read (content up) (call_text prefix identifier number count) (content up)
  unfolding call_text
  call_reads up identifier number count linkless =
      let inside = codes "sup" ∷ up in
      both may (both may (both may (both may (fixed may (content up) (codes "<sup><a")) (call_attributes_read inside identifier count linkless)) (fixed may (after_value inside (codes "a")) (codes ">")))
      (numeral_reads (codes "a" ∷ inside) number)) (fixed may (content (codes "a" ∷ inside)) (codes "</a></sup>"))

  pub linked_call_reads : (up : List (List ℕ)) (identifier : List ℕ) (number count : ℕ) → Read (content up) (linked_call_text prefix identifier number count) (content up)
  unfolding linked_call_text
  linked_call_reads up identifier number count =
      both may (both may (both may (both may (fixed may (content up) (codes "<sup"))
      (attribute_reads up (codes "sup") (codes "id") (start_tag up (codes "sup")) (call_id prefix identifier count) (fixed may _ _) (call_fits identifier count)))
      (fixed may (after_value up (codes "sup")) (codes ">")))
      (numeral_reads (codes "sup" ∷ up) number)) (fixed may (content (codes "sup" ∷ up)) (codes "</sup>"))

  mark_reads : (up : List (List ℕ)) (count : ℕ) → Read (content up) (repeat_mark count) (content up)
  unfolding repeat_mark
  mark_reads up count =
      cond_both (count == 1) _ _ (λ x. Read (content up) x (content up))
      (λ _. fixed may (content up) [])
      (λ _. both may (both may (fixed may (content up) (codes "<sup>")) (numeral_reads (codes "sup" ∷ up) count)) (fixed may (content (codes "sup" ∷ up)) (codes "</sup>")))

  arrow_reads : (up : List (List ℕ)) → Read (content up) arrow (content up)
  unfolding arrow
  arrow_reads up = fixed may (content up) (226 ∷ 134 ∷ 169 ∷ [])

  back_attributes_read : (up : List (List ℕ)) (identifier : List ℕ) (number count : ℕ) → Linkless up → Read (start_tag up (codes "a")) (back_attributes prefix identifier number count) (after_value up (codes "a"))
  unfolding back_attributes
  back_attributes_read up identifier number count linkless =
      both may (both may (both may
      (attribute_reads up (codes "a") (codes "href") (start_tag up (codes "a")) (codes "#" ++ call_id prefix identifier count) (record { is = rw linkless refl }) (here_fits (call_id prefix identifier count)))
      (attribute_reads up (codes "a") (codes "data-footnote-backref") (after_value up (codes "a")) [] (fixed may _ _) refl))
      (attribute_reads up (codes "a") (codes "aria-label") (after_value up (codes "a")) (back_label number count) (fixed may _ _) refl))
      (attribute_reads up (codes "a") (codes "class") (after_value up (codes "a")) (codes "data-footnote-backref") (fixed may _ _) refl)

  back_reads : (up : List (List ℕ)) (identifier : List ℕ) (number count : ℕ) → Linkless up → Read (content up) (back_reference prefix identifier number count) (content up)
  unfolding back_reference
  back_reads up identifier number count linkless =
      both may (both may (both may (both may (both may (fixed may (content up) (codes "<a")) (back_attributes_read up identifier number count linkless)) (fixed may (after_value up (codes "a")) (codes ">")))
      (arrow_reads (codes "a" ∷ up))) (mark_reads (codes "a" ∷ up) count)) (fixed may (content (codes "a" ∷ up)) (codes "</a>"))

  pub backs_read : (up : List (List ℕ)) (identifier : List ℕ) (number count : ℕ) → Linkless up → Read (content up) (back_references prefix identifier number count) (content up)
  backs_read up identifier number zero linkless = fixed may (content up) []
  backs_read up identifier number (suc count) linkless = both may (both may (backs_read up identifier number count linkless) (fixed may (content up) (codes " "))) (back_reads up identifier number (suc count) linkless)
