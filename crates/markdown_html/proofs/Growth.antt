-- How much a page grows: each node adds as much as its texts and its kind allow.
use Rattle.std.proofs.Common.{◌≡◌, ℕ, ◌+◌, ◌*◌, ◌≤◌, ◌||◌, Bool, true, false, List, [], ◌++◌, length, Option, None, Some, if◌then◌else◌, codes, arith, refl, unwrap_or, drop, nat_le}
use Rattle.std.proofs.lemmas.Bool.{cond_both, leb-true, not-false}
use Rattle.std.proofs.lemmas.List.{length-append}
use Rattle.html_text.specs.Escapes.{escaped}
use Rattle.markdown_events.specs.declared.infer.AlignKind.{AlignKind}
use Rattle.markdown_kinds.specs.declared.ReferenceKind.{ReferenceKind}
use Rattle.markdown_nodes.specs.Tree.{Label, Tree, Trees, root, paragraph, blockquote, emphasis, strong, delete, table_row, table_cell, thematic_break, «break», text, html as raw_node, inline_code, inline_math, yaml, toml, heading, list, list_item, table, code, math, link, image, link_reference, image_reference, footnote_reference, footnote_definition, definition}
use Rattle.mdast_util.specs.Definitions.{definition_in}
use Rattle.markdown_html.specs.declared.place.Kind.{Kind}
use Rattle.markdown_html.specs.declared.place.Kind.TheVariants.{Flow, Tight, FirstRow, SecondRow, LaterRow, Note, Tail, Task}
use Rattle.markdown_html.specs.Bounds.{most_of}
use Rattle.markdown_html.specs.Elements.{call_text, empty_cells, image_tag, link_start, linked_call_text, reference_end}
use Rattle.markdown_html.specs.Html.{Source, any_task, begins_with_paragraph, begins_with_text, cell_cost, cell_name, closed, count, definition_cost, entered, first_box, footnote_end, footnote_in, footnote_start, has_nodes, left, link_back, link_front, listed_closed, listed_opened, missing_cells, opened, paragraph_end, paragraph_start, phrase_closed, phrase_opened, raw_lines, reference_cost, reference_identifier_of, row_end, settled, table_end, title_of, url_of}
use Rattle.markdown_html.specs.Page.{Call, Page, affords, block, copy, fresh_line, is_fresh, on_new_line, put, say, with_call}
use Rattle.markdown_html.specs.Places.{Place, checked_of}
use Rattle.markdown_html.specs.Texts.{label_texts, length_of}
use Rattle.markdown_html.proofs.PlaceKinds.{by_kind}
use Rattle.markdown_html.proofs.Short.{Short, both, call_text_short, cell_end_short, cell_start_short, check_box_short, code_block_short, code_text_short, either, empty_cells_short, escaped_short, heading_name_short, id_size, image_tag_short, link_start_short, linked_call_text_short, list_end_short, list_start_short, loosely, math_block_short, math_text_short, raw_html_short, reference_end_short, task_start_short, whole}

-- calls that come from others by one call after the other
pub data Grows : List Call → List Call → Type 0 where
  same : {calls : List Call} → Grows calls calls
  called : {from to : List Call} (identifier : List ℕ) → Grows from to → Grows from (with_call identifier to)

pub grows_on : {from between to : List Call} → Grows from between → Grows between to → Grows from to
grows_on p same = p
grows_on p (called identifier q) = called identifier (grows_on p q)

-- the size of a page: its bytes, what it may still copy, and what its calls will add
abbrev pub size : (owed : List Call → ℕ) → Page → ℕ
size owed page = length page.text + (6 * page.budget + owed page.calls)

-- a page grows to another one by at most so much
pub record Goes (before after : List Call → ℕ) (from to : Page) (most : ℕ) : Type 0 where
  pub grows : Grows from.calls to.calls
  pub fits : size after to ≤ size before from + most

pub stays : (w : List Call → ℕ) (page : Page) → Goes w w page page 0
stays w page = record { grows = same; fits = omega arith }

pub goes_on : {u v w : List Call → ℕ} {p q r : Page} {m n : ℕ} → Goes u v p q m → Goes v w q r n → Goes u w p r (m + n)
goes_on first second = record { grows = grows_on first.grows second.grows; fits = omega (arith, first.fits, second.fits) }

pub within : {u v : List Call → ℕ} {p q : Page} {m n : ℕ} → Goes u v p q m → m ≤ n → Goes u v p q n
within goes fits = record { grows = goes.grows; fits = omega (arith, goes.fits, fits) }

-- a page with a text in place of its own
pub puts : (w : List Call → ℕ) (page : Page) (written : List ℕ) (n : ℕ) → length written ≤ length page.text + n → Goes w w page (put page written) n
puts w page written n fits = record { grows = same; fits = omega (arith, fits) }

pub added : (before piece : List ℕ) {n : ℕ} → Short piece n → length (before ++ piece) ≤ length before + n
added before piece p = rw (length-append before piece) (omega (arith, p.is))

pub says : (w : List Call → ℕ) (page : Page) {piece : List ℕ} {n : ℕ} → Short piece n → Goes w w page (say page piece) n
says w page {piece} {n} p = puts w page (page.text ++ piece) n (added page.text piece p)

fresh : (written : List ℕ) → length (fresh_line written) ≤ length written + 1
unfolding fresh_line
fresh written = cond_both (is_fresh written) written (written ++ codes "\n") (λ t. length t ≤ length written + 1) (λ _. omega arith) (λ _. added written (codes "\n") (whole (codes "\n")))

pub freshens : (w : List Call → ℕ) (page : Page) → Goes w w page (on_new_line page) 1
freshens w page = puts w page (fresh_line page.text) 1 (fresh page.text)

pub blocks : (w : List Call → ℕ) (page : Page) {piece : List ℕ} {n : ℕ} → Short piece n → Goes w w page (block page piece) (1 + n)
blocks w page p = goes_on (freshens w page) (says w (on_new_line page) p)

-- a text that copies something
copies : (w : List Call → ℕ) (page : Page) (piece : List ℕ) (cost n : ℕ) → Short piece (n + 6 * cost) → cost ≤ page.budget → Goes w w page (copy page piece cost) n
copies w page piece cost n p affordable =
    let longer = added page.text piece p in
    record { grows = same; fits = omega (arith, longer, affordable) }

affordable : (page : Page) (cost : ℕ) → affords page cost ≡ true → cost ≤ page.budget
affordable page cost is = leb-true cost page.budget is

-- what a label adds before its children and after them
abbrev pub texts_before : (prefix : List ℕ) → Label → ℕ
texts_before prefix (link_reference _ _ _) = 0
texts_before prefix (footnote_reference identifier label) = 30 * label_texts (footnote_reference identifier label) + (30 * length prefix + 1100)
texts_before prefix label = 6 * label_texts label

abbrev pub texts_after : Label → ℕ
texts_after (link_reference kind identifier label) = 6 * label_texts (link_reference kind identifier label)
texts_after label = 0

-- a node that copies something is on a page that affords it, unless it is bare
abbrev pub Affordable : Source → (bare : Bool) → Label → Page → Type 0
Affordable it bare label page = bare ≡ false → reference_cost it (reference_identifier_of label) ≤ page.budget

pub settled_affordable : (it : Source) (at : Place) (label : Label) (page : Page) → Affordable it (settled it at label page).is_bare label page
settled_affordable it at label page is = affordable page (reference_cost it (reference_identifier_of label)) (not-false (affords page (reference_cost it (reference_identifier_of label))) is)

abbrev pub Ordinary : Kind → Type 0
Ordinary (Note _) = ⊥
Ordinary (Tail _) = ⊥
Ordinary _ = Unit {0}

-- what one call more adds to what is owed
abbrev pub call_most : (prefix identifier : List ℕ) → ℕ
call_most prefix identifier = 860 + 2 * id_size prefix identifier

module _ (it : Source) (w : List Call → ℕ) (fair : (identifier : List ℕ) (calls : List Call) → w (with_call identifier calls) ≤ w calls + call_most it.id_prefix identifier) where
  abbrev Gains : Page → Page → ℕ → Type 0
  Gains from to most = Goes w w from to most

  call_short : (linked : Bool) (identifier : List ℕ) (number times : ℕ) → Short (if linked then linked_call_text it.id_prefix identifier number times else call_text it.id_prefix identifier number times) (450 + 3 * id_size it.id_prefix identifier)
  call_short true identifier number times = linked_call_text_short it.id_prefix identifier number times
  call_short false identifier number times = call_text_short it.id_prefix identifier number times

  undefined_short : (label : Option (List ℕ)) (identifier : List ℕ) → Short (codes "[^" ++ escaped (unwrap_or label identifier) ++ codes "]") (3 + 6 * (length identifier + length_of label))
  undefined_short None identifier = loosely (both (both (whole (codes "[^")) (escaped_short identifier)) (whole (codes "]"))) (omega arith)
  undefined_short (Some label) identifier = loosely (both (both (whole (codes "[^")) (escaped_short label)) (whole (codes "]"))) (omega arith)

  calls_gain : (linked : Bool) (found : Option Tree) (identifier : List ℕ) (label : Option (List ℕ)) (number times : ℕ) (page : Page) → Gains page (elim found [ None ↦ say page (codes "[^" ++ escaped (unwrap_or label identifier) ++ codes "]") | Some _ ↦ record page { text = page.text ++ (if linked then linked_call_text it.id_prefix identifier number times else call_text it.id_prefix identifier number times); calls = with_call identifier page.calls } ]) (30 * (length identifier + length_of label) + (30 * length it.id_prefix + 1350))
  calls_gain linked None identifier label number times page = within (says w page (undefined_short label identifier)) (omega arith)
  calls_gain linked (Some _) identifier label number times page =
      let longer = added page.text _ (call_short linked identifier number times) in
      let more_owed = fair identifier page.calls in
      record { grows = called identifier same; fits = omega (arith, longer, more_owed) }

  front_short : (linked : Bool) (url : List ℕ) (title : Option (List ℕ)) → Short (link_front it linked url title) (30 + 6 * (length url + length_of title))
  front_short true url title = record { is = omega arith }
  front_short false url title = link_start_short it.raw url title

  reference_gains : (linked bare : Bool) (found : Option Tree) (page : Page) → (bare ≡ false → (elim found [ None ↦ 0 | Some tree ↦ definition_cost tree.label ]) ≤ page.budget) → Gains page (elim found [ None ↦ say page (codes "[") | Some tree ↦ if linked || bare then page else copy page (link_start it.raw (url_of tree.label) (title_of tree.label)) (definition_cost tree.label) ]) 30
  reference_gains linked bare None page fits = within (says w page (whole (codes "["))) (omega arith)
  reference_gains true bare (Some tree) page fits = within (stays w page) (omega arith)
  reference_gains false true (Some tree) page fits = within (stays w page) (omega arith)
  reference_gains false false (Some tree) page fits = copies w page (link_start it.raw (url_of tree.label) (title_of tree.label)) (definition_cost tree.label) 30 (link_start_short it.raw (url_of tree.label) (title_of tree.label)) (fits refl)

  image_gains : (bare : Bool) (found : Option Tree) (alt : List ℕ) (kind : ReferenceKind) (identifier : List ℕ) (label : Option (List ℕ)) (page : Page) → (bare ≡ false → (elim found [ None ↦ 0 | Some tree ↦ definition_cost tree.label ]) ≤ page.budget) → Gains page (elim found [ None ↦ say page (codes "![" ++ escaped alt ++ escaped (reference_end kind identifier label)) | Some tree ↦ if bare then say page (escaped alt) else copy page (image_tag it.raw alt (url_of tree.label) (title_of tree.label)) (definition_cost tree.label) ]) (6 * (length alt + (length identifier + length_of label)) + 40)
  image_gains bare None alt kind identifier label page fits = within (says w page (both (both (whole (codes "![")) (escaped_short alt)) (reference_end_short kind identifier label))) (omega arith)
  image_gains true (Some tree) alt kind identifier label page fits = within (says w page (escaped_short alt)) (omega arith)
  image_gains false (Some tree) alt kind identifier label page fits =
      let url = url_of tree.label in
      let title = title_of tree.label in
      within (copies w page (image_tag it.raw alt url title) (definition_cost tree.label) (6 * length alt + 40) (loosely (image_tag_short it.raw alt url title) (omega arith)) (fits refl)) (omega arith)

  -- a node in a text, before its children
  phrase_opens : (linked bare : Bool) (label : Label) (page : Page) → Affordable it bare label page → Gains page (phrase_opened it linked bare label page) (texts_before it.id_prefix label + 250)
  phrase_opens linked bare emphasis page fits = within (says w page (whole (codes "<em>"))) (omega arith)
  phrase_opens linked bare strong page fits = within (says w page (whole (codes "<strong>"))) (omega arith)
  phrase_opens linked bare delete page fits = within (says w page (whole (codes "<del>"))) (omega arith)
  phrase_opens linked bare «break» page fits = within (says w page (whole (codes "<br />\n"))) (omega arith)
  phrase_opens linked bare (text value) page fits = within (says w page (escaped_short value)) (omega arith)
  phrase_opens linked bare (raw_node value) page fits = within (says w page (raw_html_short it.raw value)) (omega arith)
  phrase_opens linked bare (inline_code value) page fits = within (says w page (code_text_short value)) (omega arith)
  phrase_opens linked bare (inline_math value) page fits = within (says w page (math_text_short value)) (omega arith)
  phrase_opens linked bare (code value lang meta) page fits = within (says w page (code_text_short value)) (omega arith)
  phrase_opens linked bare (math value meta) page fits = within (says w page (math_text_short value)) (omega arith)
  phrase_opens linked bare (link url title) page fits = within (says w page (front_short linked url title)) (omega arith)
  phrase_opens linked bare (image alt url title) page fits = within (says w page (image_tag_short it.raw alt url title)) (omega arith)
  phrase_opens linked bare (link_reference kind identifier label) page fits = within (reference_gains linked bare (definition_in it.tree identifier) page fits) (omega arith)
  phrase_opens linked bare (image_reference alt kind identifier label) page fits = within (image_gains bare (definition_in it.tree identifier) alt kind identifier label page fits) (omega arith)
  phrase_opens linked bare (footnote_reference identifier label) page fits = within (calls_gain linked (footnote_in it.tree identifier) identifier label _ _ page) (omega arith)
  phrase_opens linked bare root page fits = within (stays w page) (omega arith)
  phrase_opens linked bare paragraph page fits = within (stays w page) (omega arith)
  phrase_opens linked bare blockquote page fits = within (stays w page) (omega arith)
  phrase_opens linked bare table_row page fits = within (stays w page) (omega arith)
  phrase_opens linked bare table_cell page fits = within (stays w page) (omega arith)
  phrase_opens linked bare thematic_break page fits = within (stays w page) (omega arith)
  phrase_opens linked bare (yaml value) page fits = within (stays w page) (omega arith)
  phrase_opens linked bare (toml value) page fits = within (stays w page) (omega arith)
  phrase_opens linked bare (heading depth) page fits = within (stays w page) (omega arith)
  phrase_opens linked bare (list ordered start spread) page fits = within (stays w page) (omega arith)
  phrase_opens linked bare (list_item spread checked) page fits = within (stays w page) (omega arith)
  phrase_opens linked bare (table align) page fits = within (stays w page) (omega arith)
  phrase_opens linked bare (footnote_definition identifier label) page fits = within (stays w page) (omega arith)
  phrase_opens linked bare (definition url title identifier label) page fits = within (stays w page) (omega arith)

  back_short : (linked : Bool) → Short (link_back linked) 4
  back_short true = record { is = omega arith }
  back_short false = whole (codes "</a>")

  reference_end_gains : (linked : Bool) (found : Option Tree) (kind : ReferenceKind) (identifier : List ℕ) (label : Option (List ℕ)) → Short (elim found [ None ↦ escaped (reference_end kind identifier label) | Some _ ↦ link_back linked ]) (18 + 6 * (length identifier + length_of label))
  reference_end_gains linked None kind identifier label = reference_end_short kind identifier label
  reference_end_gains linked (Some _) kind identifier label = loosely (back_short linked) (omega arith)

  -- and after them
  phrase_closes : (linked bare : Bool) (label : Label) (page : Page) → Gains page (phrase_closed it linked bare label page) (texts_after label + 30)
  phrase_closes linked bare emphasis page = within (says w page (whole (codes "</em>"))) (omega arith)
  phrase_closes linked bare strong page = within (says w page (whole (codes "</strong>"))) (omega arith)
  phrase_closes linked bare delete page = within (says w page (whole (codes "</del>"))) (omega arith)
  phrase_closes linked bare (link url title) page = within (says w page (back_short linked)) (omega arith)
  phrase_closes linked bare (link_reference kind identifier label) page = within (says w page (reference_end_gains (linked || bare) (definition_in it.tree identifier) kind identifier label)) (omega arith)
  phrase_closes linked bare _ page = within (stays w page) (omega arith)

  -- a node among blocks: a footnote is not written where it is defined
  abbrev pub NotNote : Kind → Type 0
  NotNote (Note _) = ⊥
  NotNote _ = Unit {0}

  pub paragraph_opens : (kind : Kind) (children : Trees) (page : Page) → Gains page (put page (paragraph_start kind children page.text)) 70
  paragraph_opens kind children page =
      let other : Gains page (block page (codes "<p>")) 70 = within (blocks w page (whole (codes "<p>"))) (omega arith) in
      by_kind (λ k. Gains page (put page (paragraph_start k children page.text)) 70) other other other (within (stays w page) (omega arith)) other other other other other other other other (λ _. other) (λ _. other)
      (λ c. within (blocks w page (both (whole (codes "<p>")) (check_box_short c (has_nodes children)))) (omega arith)) kind

  footnote_opens : (kind : Kind) (page : Page) → NotNote kind → Gains page (footnote_start it kind page) 0
  footnote_opens kind page ok = by_kind (λ k. NotNote k → Gains page (footnote_start it k page) 0) (λ _. stays w page) (λ _. stays w page) (λ _. stays w page) (λ _. stays w page) (λ _. stays w page) (λ _. stays w page) (λ _. stays w page) (λ _. stays w page) (λ _. stays w page) (λ _. stays w page) (λ _. stays w page) (λ _. stays w page) (λ _. λ none. absurd none) (λ _. λ _. stays w page) (λ _. λ _. stays w page) kind ok

  raw_gains : (value : List ℕ) (page : Page) → Gains page (put page (raw_lines it.raw value page.text)) (6 * length value + 2)
  raw_gains value page = within (goes_on (goes_on (freshens w page) (says w (on_new_line page) (raw_html_short it.raw value))) (freshens w (say (on_new_line page) _))) (omega arith)

  pub opens : (bare : Bool) (kind : Kind) (label : Label) (children : Trees) (page : Page) → NotNote kind → Affordable it bare label page → Gains page (opened it bare kind label children page) (texts_before it.id_prefix label + 280)
  opens bare kind paragraph children page ok fits = within (paragraph_opens kind children page) (omega arith)
  opens bare kind blockquote children page ok fits = within (blocks w page (whole (codes "<blockquote>\n"))) (omega arith)
  opens bare kind thematic_break children page ok fits = within (blocks w page (whole (codes "<hr />\n"))) (omega arith)
  opens bare kind (raw_node value) children page ok fits = within (raw_gains value page) (omega arith)
  opens bare kind (heading depth) children page ok fits = within (blocks w page (both (both (whole (codes "<")) (heading_name_short depth)) (whole (codes ">")))) (omega arith)
  opens bare kind (list ordered start spread) children page ok fits = within (blocks w page (list_start_short ordered (any_task children) start)) (omega arith)
  opens bare kind (table align) children page ok fits = within (blocks w page (whole (codes "<table>\n"))) (omega arith)
  opens bare kind (code value lang meta) children page ok fits = within (blocks w page (code_block_short lang value)) (omega arith)
  opens bare kind (math value meta) children page ok fits = within (blocks w page (math_block_short value)) (omega arith)
  opens bare kind (footnote_definition identifier label) children page ok fits = within (footnote_opens kind page ok) (omega arith)
  opens bare kind label children page ok fits = within (phrase_opens false bare label page fits) (omega arith)

  table_end_short : (children : Trees) → Short (table_end children) 18
  table_end_short children = either (nat_le 2 (count children)) (whole (codes "</tbody>\n</table>\n")) (loosely (whole (codes "</table>\n")) (omega arith))

  abbrev pub ParagraphEnds : Kind → Label → Page → Type 0
  ParagraphEnds kind paragraph page = Gains page (paragraph_end it kind page) 5
  ParagraphEnds kind label page = Unit {0}

  footnote_closes : (kind : Kind) (children : Trees) (page : Page) → NotNote kind → Gains page (footnote_end it kind children page) 0
  footnote_closes kind children page ok = by_kind (λ k. NotNote k → Gains page (footnote_end it k children page) 0) (λ _. stays w page) (λ _. stays w page) (λ _. stays w page) (λ _. stays w page) (λ _. stays w page) (λ _. stays w page) (λ _. stays w page) (λ _. stays w page) (λ _. stays w page) (λ _. stays w page) (λ _. stays w page) (λ _. stays w page) (λ _. λ none. absurd none) (λ _. λ _. stays w page) (λ _. λ _. stays w page) kind ok

  pub closes : (bare : Bool) (kind : Kind) (label : Label) (children : Trees) (page : Page) → NotNote kind → ParagraphEnds kind label page → Gains page (closed it bare kind label children page) (texts_after label + 60)
  closes bare kind paragraph children page ok ends = within ends (omega arith)
  closes bare kind blockquote children page ok ends = within (blocks w page (whole (codes "</blockquote>\n"))) (omega arith)
  closes bare kind (heading depth) children page ok ends = within (says w page (both (both (whole (codes "</")) (heading_name_short depth)) (whole (codes ">\n")))) (omega arith)
  closes bare kind (list ordered start spread) children page ok ends = within (says w page (list_end_short ordered)) (omega arith)
  closes bare kind (table align) children page ok ends = within (says w page (table_end_short children)) (omega arith)
  closes bare kind (footnote_definition identifier label) children page ok ends = within (footnote_closes kind children page ok) (omega arith)
  closes bare kind label children page ok ends = within (phrase_closes false bare label page) (omega arith)

  paragraph_closes : (kind : Kind) (page : Page) → Ordinary kind → Gains page (paragraph_end it kind page) 5
  paragraph_closes kind page ordinary =
      let other : Gains page (say page (codes "</p>\n")) 5 = says w page (whole (codes "</p>\n")) in
      by_kind (λ k. Ordinary k → Gains page (paragraph_end it k page) 5) (λ _. other) (λ _. other) (λ _. other) (λ _. within (stays w page) (omega arith)) (λ _. other) (λ _. other) (λ _. other) (λ _. other) (λ _. other) (λ _. other) (λ _. other) (λ _. other) (λ _. λ none. absurd none) (λ _. λ none. absurd none) (λ _. λ _. other) kind ordinary

  paragraph_ends : (kind : Kind) (label : Label) (page : Page) → Ordinary kind → ParagraphEnds kind label page
  paragraph_ends kind paragraph page ordinary = paragraph_closes kind page ordinary
  paragraph_ends kind _ page ordinary = tt

  -- a node in a list
  first_box_short : (tight checked : Bool) (children : Trees) → Short (first_box tight checked children) 70
  first_box_short true checked children = loosely (check_box_short checked (begins_with_text children)) (omega arith)
  first_box_short false checked children = either (begins_with_paragraph children) (record { is = omega arith }) (loosely (both (both (whole (codes "\n<p>")) (check_box_short checked false)) (whole (codes "</p>\n"))) (omega arith))

  listed_opens : (bare tight : Bool) (checked : Option Bool) (label : Label) (children : Trees) (page : Page) → Affordable it bare label page → Gains page (listed_opened it bare tight checked label children page) (texts_before it.id_prefix label + 300)
  listed_opens bare true None label children page fits = within (goes_on (blocks w page (whole (codes "<li>"))) (opens bare Tight label children (block page (codes "<li>")) tt fits)) (omega arith)
  listed_opens bare false None label children page fits = within (goes_on (blocks w page (whole (codes "<li>"))) (opens bare Flow label children (block page (codes "<li>")) tt fits)) (omega arith)
  listed_opens bare tight (Some checked) label children page fits = within (blocks w page (both task_start_short (first_box_short tight checked children))) (omega arith)

  listed_closes : (bare tight : Bool) (checked : Option Bool) (label : Label) (children : Trees) (page : Page) → Gains page (listed_closed it bare tight checked label children page) (texts_after label + 100)
  listed_closes bare true None label children page = within (goes_on (closes bare Tight label children page tt (paragraph_ends Tight label page tt)) (says w (closed it bare Tight label children page) (whole (codes "</li>\n")))) (omega arith)
  listed_closes bare false None label children page = within (goes_on (closes bare Flow label children page tt (paragraph_ends Flow label page tt)) (says w (closed it bare Flow label children page) (whole (codes "</li>\n")))) (omega arith)
  listed_closes bare tight (Some checked) label children page = within (says w page (whole (codes "</li>\n"))) (omega arith)

  -- a row
  name_short : (kind : Kind) → length (cell_name kind) ≤ 2
  name_short kind = by_kind (λ k. length (cell_name k) ≤ 2) (omega arith) (omega arith) (omega arith) (omega arith) (omega arith) (omega arith) (omega arith) (omega arith) (omega arith) (omega arith) (omega arith) (omega arith) (λ _. omega arith) (λ _. omega arith) (λ _. omega arith) kind

  missing_gain : (name : List ℕ) (columns : List AlignKind) (page : Page) → length name ≤ 2 → Gains page (missing_cells name columns page) 0
  missing_gain name columns page two =
      let cost = length columns * cell_cost in
      cond_both (affords page cost) (copy page (empty_cells name columns) cost) page (λ p. Gains page p 0)
      (λ e. copies w page (empty_cells name columns) cost 0 (loosely (empty_cells_short name columns two) (omega arith)) (affordable page cost e))
      (λ _. stays w page)

  row_gains : (at : Place) (cells : Trees) (page : Page) → Gains page (row_end at cells page) 6
  row_gains at cells page =
      let columns = drop (count cells) (unwrap_or at.columns []) in
      within (goes_on (missing_gain (cell_name at.kind) columns page (name_short at.kind)) (says w (missing_cells (cell_name at.kind) columns page) (whole (codes "</tr>\n")))) (omega arith)

  -- a node in any ordinary place
  pub enters : (at : Place) (label : Label) (children : Trees) (page : Page) → Ordinary at.kind → Affordable it at.is_bare label page → Gains page (entered it at label children page) (texts_before it.id_prefix label + 300)
  enters at label children page ordinary fits =
      let bare = at.is_bare in
      let columns = at.columns in
      let Claim : Kind → Type 0 = λ k. Ordinary k → Gains page (entered it (record { kind = k; columns = columns; is_bare = bare }) label children page) (texts_before it.id_prefix label + 300) in
      by_kind Claim
      (λ _. within (phrase_opens false bare label page fits) (omega arith))
      (λ _. within (phrase_opens true bare label page fits) (omega arith))
      (λ _. within (opens bare Flow label children page tt fits) (omega arith))
      (λ _. within (opens bare Tight label children page tt fits) (omega arith))
      (λ _. listed_opens bare false (checked_of label) label children page fits)
      (λ _. listed_opens bare true (checked_of label) label children page fits)
      (λ _. within (stays w page) (omega arith))
      (λ _. within (says w page (whole (codes "<thead>\n<tr>\n"))) (omega arith))
      (λ _. within (says w page (whole (codes "<tbody>\n<tr>\n"))) (omega arith))
      (λ _. within (says w page (whole (codes "<tr>\n"))) (omega arith))
      (λ _. within (says w page (cell_start_short (codes "th") columns)) (omega arith))
      (λ _. within (says w page (cell_start_short (codes "td") columns)) (omega arith))
      (λ _. λ none. absurd none)
      (λ _. λ none. absurd none)
      (λ c. λ _. within (opens bare (Task c) label children page tt fits) (omega arith))
      at.kind ordinary

  pub leaves : (at : Place) (label : Label) (children : Trees) (page : Page) → Ordinary at.kind → Gains page (left it at label children page) (texts_after label + 100)
  leaves at label children page ordinary =
      let bare = at.is_bare in
      let columns = at.columns in
      let Claim : Kind → Type 0 = λ k. Ordinary k → Gains page (left it (record { kind = k; columns = columns; is_bare = bare }) label children page) (texts_after label + 100) in
      let row : (k : Kind) → Gains page (row_end (record { kind = k; columns = columns; is_bare = bare }) children page) 6 = λ k. row_gains (record { kind = k; columns = columns; is_bare = bare }) children page in
      by_kind Claim
      (λ _. within (phrase_closes false bare label page) (omega arith))
      (λ _. within (phrase_closes true bare label page) (omega arith))
      (λ _. within (closes bare Flow label children page tt (paragraph_ends Flow label page tt)) (omega arith))
      (λ _. within (closes bare Tight label children page tt (paragraph_ends Tight label page tt)) (omega arith))
      (λ _. listed_closes bare false (checked_of label) label children page)
      (λ _. listed_closes bare true (checked_of label) label children page)
      (λ _. within (stays w page) (omega arith))
      (λ _. within (goes_on (row FirstRow) (says w (row_end (record { kind = FirstRow; columns = columns; is_bare = bare }) children page) (whole (codes "</thead>\n")))) (omega arith))
      (λ _. within (row SecondRow) (omega arith))
      (λ _. within (row LaterRow) (omega arith))
      (λ _. within (says w page (cell_end_short (codes "th") columns)) (omega arith))
      (λ _. within (says w page (cell_end_short (codes "td") columns)) (omega arith))
      (λ _. λ none. absurd none)
      (λ _. λ none. absurd none)
      (λ c. λ _. within (closes bare (Task c) label children page tt (paragraph_ends (Task c) label page tt)) (omega arith))
      at.kind ordinary

  pub node_most : (label : Label) → texts_before it.id_prefix label + texts_after label + 400 ≤ most_of it.id_prefix label
  node_most (link_reference kind identifier label) = omega arith
  node_most (footnote_reference identifier label) = omega arith
  node_most _ = omega arith
