-- A tree as HTML: the elements that mdast-util-to-hast makes, on lines as in the examples of CommonMark.
use Rattle.std.specs.Prelude.{ℕ, ◌+◌, ◌-◌, ◌*◌, ◌^◌, zero, suc, ◌&&◌, ◌||◌, Bool, List, [], ◌∷◌, ◌++◌, Option, Some, None, codes, if◌then◌else◌, drop, is_some, length, nat_le, not, slice_get, unwrap_or, true, false}
use Rattle.std.specs.List.{find}
use Rattle.std.specs.Option.{option_eq}
use Rattle.std.specs.Str.{bytes_eq}
use Rattle.html_text.specs.Escapes.{escaped}
use Rattle.html_text.specs.Safe.{Allowed}
use Rattle.markdown_events.specs.declared.infer.AlignKind.{AlignKind}
use Rattle.markdown_kinds.specs.declared.ReferenceKind.{ReferenceKind}
use Rattle.markdown_nodes.specs.Tree.{Label, Tree, Trees, nothing, node, paragraph, blockquote, emphasis, strong, delete, thematic_break, «break», text, html as raw, inline_code, inline_math, heading, list, table, code, math, link, image, link_reference, image_reference, footnote_reference, footnote_definition, definition}
use Rattle.mdast_check.specs.References.{footnote_identifier_of}
use Rattle.markdown_nodes.specs.Walk.{walk}
use Rattle.mdast_util.specs.Definitions.{definition_in}
use Rattle.markdown_html.specs.declared.place.Kind.{Kind}
use Rattle.markdown_html.specs.declared.place.Kind.TheVariants.{Text, Linked, Flow, Tight, LooseItem, TightItem, Hidden, FirstRow, SecondRow, LaterRow, HeaderCell, Cell, Note, Tail, Task}
use Rattle.markdown_html.specs.declared.html.RawHtml.{RawHtml}
use Rattle.markdown_html.specs.declared.html.RawHtml.TheVariants as raw_htmls
use Rattle.markdown_html.specs.declared.source.Raw.{Raw}
use Rattle.markdown_html.specs.declared.source.Raw.TheVariants as raws
use Rattle.markdown_html.specs.Elements.{back_references, call_text, cell_end, cell_start, check_box, code_block, code_text, empty_cells, heading_name, image_tag, link_start, linked_call_text, list_end, list_start, math_block, math_text, note_start, passes, task_start, raw_html, reference_end, section_start}
use Rattle.markdown_html.specs.Page.{Page, affords, blank, block, copy, count_of, fresh_line, more, number_of, on_new_line, put, say, with_call}
use Rattle.markdown_html.specs.Places.{Place, after, checked_of, followed, inside, listed_kind, place}
use Rattle.markdown_html.specs.Texts.{budget_of, length_of}

-- how raw HTML that does not pass is treated
abbrev pub raw_of : RawHtml → Raw
raw_of raw_htmls.Omit = raws.Omit
raw_of raw_htmls.Escape = raws.Escape

-- the input: a whole tree, how raw HTML in it is treated, and the prefix of each id
pub record Source : Type 0 where
  pub raw : Raw
  pub id_prefix : List ℕ
  pub tree : Tree

-- whether a node is the footnote definition with this identifier
abbrev pub is_footnote : List ℕ → Tree → Bool
is_footnote identifier tree = option_eq bytes_eq (footnote_identifier_of tree.label) (Some identifier)

-- the first footnote definition in a tree with this identifier
abbrev pub footnote_in : Tree → List ℕ → Option Tree
footnote_in tree identifier = find (is_footnote identifier) (walk tree)

-- the largest number of footnotes that a page has
unfoldable pub most_notes : ℕ
most_notes = 2 ^ 64 - 1

-- the address in the definition of a link or an image, and the title there
abbrev pub url_of : Label → List ℕ
url_of (definition url _ _ _) = url
url_of _ = []

abbrev pub title_of : Label → Option (List ℕ)
title_of (definition _ title _ _) = title
title_of _ = None

-- the bytes that a reference copies from its definition: the address and the title as they stand there
abbrev pub definition_cost : Label → ℕ
definition_cost label = length (url_of label) + length_of (title_of label)

-- the identifier of the definition that a link or an image refers to
abbrev pub reference_identifier_of : Label → Option (List ℕ)
reference_identifier_of (link_reference _ identifier _) = Some identifier
reference_identifier_of (image_reference _ _ identifier _) = Some identifier
reference_identifier_of _ = None

-- whether a node is a paragraph, and whether the last of some nodes is one
abbrev pub is_paragraph : Label → Bool
is_paragraph paragraph = true
is_paragraph _ = false

abbrev pub ends_with_paragraph : Trees → Bool
ends_with_paragraph nothing = false
ends_with_paragraph (node label _ _ nothing) = is_paragraph label
ends_with_paragraph (node _ _ _ (node label children here rest)) = ends_with_paragraph (node label children here rest)

-- the number of nodes
abbrev pub count : Trees → ℕ
count nothing = 0
count (node _ _ _ rest) = count rest + 1

-- the end of a table with these children
abbrev pub table_end : Trees → List ℕ
table_end children = if nat_le 2 (count children) then codes "</tbody>\n</table>\n" else codes "</table>\n"

-- the name of the cells of a row
abbrev pub cell_name : Kind → List ℕ
cell_name FirstRow = codes "th"
cell_name _ = codes "td"

-- the bytes that an empty cell counts for; its alignment is not counted
abbrev pub cell_cost : ℕ
cell_cost = 10

-- an empty cell in each of these columns, if the page affords them all
abbrev pub missing_cells : List ℕ → List AlignKind → Page → Page
missing_cells name columns page =
    if affords page (length columns * cell_cost) then copy page (empty_cells name columns) (length columns * cell_cost)
    else page

-- the end of a row with these cells, and before it the cells in the columns that are left
abbrev pub row_end : Place → Trees → Page → Page
row_end at cells page = say (missing_cells (cell_name at.kind) (drop (count cells) (unwrap_or at.columns [])) page) (codes "</tr>\n")

-- whether there is any node
abbrev pub has_nodes : Trees → Bool
has_nodes nodes = nat_le 1 (count nodes)

-- whether the first of some nodes is a paragraph, and whether it is one that is not empty
abbrev pub begins_with_paragraph : Trees → Bool
begins_with_paragraph nothing = false
begins_with_paragraph (node label _ _ _) = is_paragraph label

abbrev pub begins_with_text : Trees → Bool
begins_with_text nothing = false
begins_with_text (node label children _ _) = is_paragraph label && has_nodes children

-- whether any of some nodes is a task
abbrev pub is_task : Label → Bool
is_task label = is_some (checked_of label)

abbrev pub any_task : Trees → Bool
any_task nothing = false
any_task (node label _ _ rest) = is_task label || any_task rest

-- the start of a paragraph with these children
abbrev pub paragraph_start : Kind → Trees → List ℕ → List ℕ
paragraph_start Tight children written = written
paragraph_start (Task checked) children written = fresh_line written ++ (codes "<p>" ++ check_box checked (has_nodes children))
paragraph_start _ children written = fresh_line written ++ codes "<p>"

-- the check box before the children of a task; where the first is the paragraph of a loose task, it has the box itself
abbrev pub first_box : (tight checked : Bool) → Trees → List ℕ
first_box true checked children = check_box checked (begins_with_text children)
first_box false checked children = if begins_with_paragraph children then [] else codes "\n<p>" ++ check_box checked false ++ codes "</p>\n"

-- raw HTML among blocks, on lines of its own
abbrev pub raw_lines : Raw → List ℕ → List ℕ → List ℕ
raw_lines how value written = fresh_line (fresh_line written ++ raw_html how value)

-- whether a node is not raw HTML; whether there is none in some nodes, and none in a tree
abbrev pub is_no_html : Label → Bool
is_no_html (raw _) = false
is_no_html _ = true

abbrev pub is_free : Trees → Bool
is_free nothing = true
is_free (node label children _ rest) = is_no_html label && (is_free children && is_free rest)

abbrev pub is_free_tree : Tree → Bool
is_free_tree tree = is_no_html tree.label && is_free tree.children

-- the end of a link; one within a link has none
abbrev pub link_back : (linked : Bool) → List ℕ
link_back linked = if linked then [] else codes "</a>"

-- the limits of the page: each id has the prefix, and any address is allowed if raw HTML passes
abbrev pub allowed_of : Source → Allowed
allowed_of it = record { id_prefix = it.id_prefix; any_url = passes it.raw }

module _ (it : Source) where
  -- a footnote call, or its text if nothing defines the footnote
  abbrev pub call_page : (linked : Bool) → List ℕ → Option (List ℕ) → Page → Page
  call_page linked identifier label page = elim (footnote_in it.tree identifier) [
    | None ↦ say page (codes "[^" ++ escaped (unwrap_or label identifier) ++ codes "]")
    | Some _ ↦
        let number = number_of identifier page.calls in
        let count = more (count_of identifier page.calls) in
        record page {
          text = page.text ++ (if linked then linked_call_text it.id_prefix identifier number count else call_text it.id_prefix identifier number count);
          calls = with_call identifier page.calls;
        }
  ]

  -- the start of a link; one within a link has none
  abbrev pub link_front : (linked : Bool) → (url : List ℕ) → (title : Option (List ℕ)) → List ℕ
  link_front linked url title = if linked then [] else link_start it.raw url title

  -- what the definition with an identifier costs a reference
  abbrev pub reference_cost : Option (List ℕ) → ℕ
  reference_cost None = 0
  reference_cost (Some identifier) = elim (definition_in it.tree identifier) [ None ↦ 0 | Some found ↦ definition_cost found.label ]

  -- the place of a node on a page so far: a reference is bare there if the page does not afford its definition
  abbrev pub settled : Place → Label → Page → Place
  settled at label page = record at { is_bare = not (affords page (reference_cost (reference_identifier_of label))) }

  -- the start and the end of a link by reference, or its text if nothing defines it
  abbrev pub link_reference_start : (linked : Bool) → List ℕ → Page → Page
  link_reference_start linked identifier page = elim (definition_in it.tree identifier) [
    | None ↦ say page (codes "[")
    | Some found ↦ if linked then page else copy page (link_start it.raw (url_of found.label) (title_of found.label)) (definition_cost found.label)
  ]

  abbrev pub link_reference_end : (linked : Bool) → ReferenceKind → List ℕ → Option (List ℕ) → List ℕ
  link_reference_end linked kind identifier label = elim (definition_in it.tree identifier) [
    | None ↦ escaped (reference_end kind identifier label)
    | Some _ ↦ link_back linked
  ]

  -- an image by reference, or its text if it is bare or nothing defines it
  abbrev pub image_reference_page : (bare : Bool) → (alt : List ℕ) → ReferenceKind → List ℕ → Option (List ℕ) → Page → Page
  image_reference_page bare alt kind identifier label page = elim (definition_in it.tree identifier) [
    | None ↦ say page (codes "![" ++ escaped alt ++ escaped (reference_end kind identifier label))
    | Some found ↦
        if bare then say page (escaped alt)
        else copy page (image_tag it.raw alt (url_of found.label) (title_of found.label)) (definition_cost found.label)
  ]

  -- the start of a footnote, in the place where it is written
  abbrev pub footnote_start : Kind → Page → Page
  footnote_start (Note number) page = say page (elim (slice_get page.calls number) [
    | None ↦ codes "<li>\n"
    | Some call ↦ note_start it.id_prefix call.identifier
  ])
  footnote_start _ page = page

  -- the back references from the footnote with this number, counted from 0, to its calls
  abbrev pub back_page : ℕ → Page → Page
  back_page number page = elim (slice_get page.calls number) [
    | None ↦ page
    | Some call ↦ say page (back_references it.id_prefix call.identifier (number + 1) call.count)
  ]

  -- the end of a footnote, in the place where it is written
  abbrev pub footnote_end : Kind → Trees → Page → Page
  footnote_end (Note number) children page =
      say (if ends_with_paragraph children then page else say (back_page number (on_new_line page)) (codes "\n")) (codes "</li>\n")
  footnote_end _ children page = page

  -- the end of a paragraph
  abbrev pub paragraph_end : Kind → Page → Page
  paragraph_end Tight page = page
  paragraph_end (Tail number) page = say (back_page number page) (codes "</p>\n")
  paragraph_end _ page = say page (codes "</p>\n")

  -- a page with what comes before the children of a node in a text; a block has no element there, and neither has a bare
  -- link by reference
  abbrev pub phrase_opened : (linked bare : Bool) → Label → Page → Page
  phrase_opened linked bare emphasis page = say page (codes "<em>")
  phrase_opened linked bare strong page = say page (codes "<strong>")
  phrase_opened linked bare delete page = say page (codes "<del>")
  phrase_opened linked bare «break» page = say page (codes "<br />\n")
  phrase_opened linked bare (text value) page = say page (escaped value)
  phrase_opened linked bare (raw value) page = say page (raw_html it.raw value)
  phrase_opened linked bare (inline_code value) page = say page (code_text value)
  phrase_opened linked bare (inline_math value) page = say page (math_text value)
  phrase_opened linked bare (code value _ _) page = say page (code_text value)
  phrase_opened linked bare (math value _) page = say page (math_text value)
  phrase_opened linked bare (link url title) page = say page (link_front linked url title)
  phrase_opened linked bare (image alt url title) page = say page (image_tag it.raw alt url title)
  phrase_opened linked bare (link_reference _ identifier _) page = link_reference_start (linked || bare) identifier page
  phrase_opened linked bare (image_reference alt reference_kind identifier label) page = image_reference_page bare alt reference_kind identifier label page
  phrase_opened linked bare (footnote_reference identifier label) page = call_page linked identifier label page
  phrase_opened linked bare _ page = page

  -- a page with what comes after the children of a node in a text
  abbrev pub phrase_closed : (linked bare : Bool) → Label → Page → Page
  phrase_closed linked bare emphasis page = say page (codes "</em>")
  phrase_closed linked bare strong page = say page (codes "</strong>")
  phrase_closed linked bare delete page = say page (codes "</del>")
  phrase_closed linked bare (link _ _) page = say page (link_back linked)
  phrase_closed linked bare (link_reference kind identifier label) page = say page (link_reference_end (linked || bare) kind identifier label)
  phrase_closed linked bare _ page = page

  -- these pages for a node among blocks; items, rows and cells have their elements from their places
  abbrev pub opened : (bare : Bool) → Kind → Label → Trees → Page → Page
  opened bare kind paragraph children page = put page (paragraph_start kind children page.text)
  opened bare kind blockquote children page = block page (codes "<blockquote>\n")
  opened bare kind thematic_break children page = block page (codes "<hr />\n")
  opened bare kind (raw value) children page = put page (raw_lines it.raw value page.text)
  opened bare kind (heading depth) children page = block page (codes "<" ++ heading_name depth ++ codes ">")
  opened bare kind (list ordered start _) children page = block page (list_start ordered (any_task children) start)
  opened bare kind (table _) children page = block page (codes "<table>\n")
  opened bare kind (code value lang _) children page = block page (code_block lang value)
  opened bare kind (math value _) children page = block page (math_block value)
  opened bare kind (footnote_definition _ _) children page = footnote_start kind page
  opened bare kind label children page = phrase_opened false bare label page

  abbrev pub closed : (bare : Bool) → Kind → Label → Trees → Page → Page
  closed bare kind paragraph children page = paragraph_end kind page
  closed bare kind blockquote children page = block page (codes "</blockquote>\n")
  closed bare kind (heading depth) children page = say page (codes "</" ++ heading_name depth ++ codes ">\n")
  closed bare kind (list ordered _ _) children page = say page (list_end ordered)
  closed bare kind (table _) children page = say page (table_end children)
  closed bare kind (footnote_definition _ _) children page = footnote_end kind children page
  closed bare kind label children page = phrase_closed false bare label page

  -- these pages for a node in a list, by its check mark if it is a task: each is in an item
  abbrev pub listed_opened : (bare tight : Bool) → Option Bool → Label → Trees → Page → Page
  listed_opened bare tight None label children page = opened bare (listed_kind tight) label children (block page (codes "<li>"))
  listed_opened bare tight (Some checked) label children page = block page (task_start ++ first_box tight checked children)

  abbrev pub listed_closed : (bare tight : Bool) → Option Bool → Label → Trees → Page → Page
  listed_closed bare tight None label children page = say (closed bare (listed_kind tight) label children page) (codes "</li>\n")
  listed_closed bare tight (Some _) label children page = say page (codes "</li>\n")

  -- these pages for a node in any place: each child of a list is in an item, each child of a table is a row, and each child
  -- of a row is a cell
  abbrev pub entered : Place → Label → Trees → Page → Page
  entered at label children page = elim at.kind [
    | Hidden ↦ page
    | FirstRow ↦ say page (codes "<thead>\n<tr>\n")
    | SecondRow ↦ say page (codes "<tbody>\n<tr>\n")
    | LaterRow ↦ say page (codes "<tr>\n")
    | HeaderCell ↦ say page (cell_start (codes "th") at.columns)
    | Cell ↦ say page (cell_start (codes "td") at.columns)
    | Text ↦ phrase_opened false at.is_bare label page
    | Linked ↦ phrase_opened true at.is_bare label page
    | LooseItem ↦ listed_opened at.is_bare false (checked_of label) label children page
    | TightItem ↦ listed_opened at.is_bare true (checked_of label) label children page
    | kind ↦ opened at.is_bare kind label children page
  ]

  abbrev pub left : Place → Label → Trees → Page → Page
  left at label children page = elim at.kind [
    | Hidden ↦ page
    | FirstRow ↦ say (row_end at children page) (codes "</thead>\n")
    | SecondRow ↦ row_end at children page
    | LaterRow ↦ row_end at children page
    | HeaderCell ↦ say page (cell_end (codes "th") at.columns)
    | Cell ↦ say page (cell_end (codes "td") at.columns)
    | Text ↦ phrase_closed false at.is_bare label page
    | Linked ↦ phrase_closed true at.is_bare label page
    | LooseItem ↦ listed_closed at.is_bare false (checked_of label) label children page
    | TightItem ↦ listed_closed at.is_bare true (checked_of label) label children page
    | kind ↦ closed at.is_bare kind label children page
  ]

  -- nodes in order
  abbrev pub nodes_page : Place → Trees → Page → Page
  nodes_page at nothing page = page
  nodes_page at (node label children _ rest) page =
      let here = settled (followed at rest) label page in
      nodes_page (after at) rest (left here label children (nodes_page (inside here label children) children (entered here label children page)))

  -- a node with everything in it
  abbrev pub tree_page : Place → Tree → Page → Page
  tree_page at tree page =
      let here = settled at tree.label page in
      left here tree.label tree.children (nodes_page (inside here tree.label tree.children) tree.children (entered here tree.label tree.children page))

  -- the footnotes that are called, from a number on, counted from 0, and at most `most` of them;
  -- one that is first called in another footnote comes after it
  abbrev pub notes_page : (most number : ℕ) → Page → Page
  notes_page zero number page = page
  notes_page (suc most) number page = elim (slice_get page.calls number) [
    | None ↦ page
    | Some call ↦ elim (footnote_in it.tree call.identifier) [
      | None ↦ page
      | Some note ↦ notes_page most (number + 1) (tree_page (place (Note number)) note page)
    ]
  ]

  -- the section of the footnotes, if any is called
  abbrev pub section_page : Page → Page
  section_page page = elim page.calls [
    | [] ↦ page
    | _ ∷ _ ↦
        say (notes_page most_notes 0 (say (on_new_line page) (section_start it.id_prefix))) (codes "</ol>\n</section>\n")
  ]

  -- a whole tree
  abbrev pub html : List ℕ
  html = (section_page (tree_page (place Flow) it.tree (blank (budget_of it.tree)))).text

-- the page of a tree whose raw HTML does not pass, from how that is treated and the prefix of each id
abbrev pub safe_html : RawHtml → (id_prefix : List ℕ) → Tree → List ℕ
safe_html raw_html id_prefix tree = html (record { raw = raw_of raw_html; id_prefix = id_prefix; tree = tree })

-- such a page with the defaults of mdast-util-to-hast
abbrev pub default_html : Tree → List ℕ
default_html tree = safe_html raw_htmls.Omit (codes "user-content-") tree

-- how raw HTML that passes is treated, with GFM's filter of tags and without
abbrev pub raw_passing : (tag_filter : Bool) → Raw
raw_passing tag_filter = if tag_filter then raws.Filter else raws.Pass

-- the page of a tree whose raw HTML passes
abbrev pub unsafe_html : (tag_filter : Bool) → (id_prefix : List ℕ) → Tree → List ℕ
unsafe_html tag_filter id_prefix tree = html (record { raw = raw_passing tag_filter; id_prefix = id_prefix; tree = tree })
