-- A page whose raw HTML does not pass is safe.
use Rattle.std.proofs.Common.{◌≡◌, ℕ, ◌+◌, ◌*◌, ◌||◌, ◌&&◌, zero, suc, not, cond, Bool, true, false, nat_le, List, [], ◌∷◌, ◌++◌, Option, None, Some, if◌then◌else◌, codes, drop, length, arith, refl, sym, ap, subst, ◌∙◌, slice_get, unwrap_or}
use Rattle.std.proofs.lemmas.Bool.{and_from, and_parts, cond_both, false≢true, le-leb}
use Rattle.html_text.specs.Escapes.{escaped}
use Rattle.html_text.specs.Safe.{IsSafe, State, content, has_link, run}
use Rattle.html_text.proofs.Reading.{Reads, both, fixed, text_reads}
use Rattle.markdown_events.specs.declared.infer.AlignKind.{AlignKind}
use Rattle.markdown_kinds.specs.declared.ReferenceKind.{ReferenceKind}
use Rattle.markdown_nodes.specs.Tree.{Label, Tree, Trees, nothing, node, root, paragraph, blockquote, emphasis, strong, delete, table_row, table_cell, thematic_break, «break», text, html as raw_node, inline_code, inline_math, yaml, toml, heading, list, list_item, table, code, math, link, image, link_reference, image_reference, footnote_reference, footnote_definition, definition}
use Rattle.std.specs.List.{find}
use Rattle.std.proofs.lemmas.Option.{none-some}
use Rattle.markdown_nodes.specs.Walk.{walk, walks}
use Rattle.mdast_util.specs.Definitions.{definition_in}
use Rattle.markdown_html.specs.declared.place.Kind.{Kind}
use Rattle.markdown_html.specs.declared.place.Kind.TheVariants.{Text, Linked, Flow, Tight, LooseItem, TightItem, Hidden, FirstRow, SecondRow, LaterRow, HeaderCell, Cell, Note, Tail, Task}
use Rattle.markdown_html.specs.Elements.{back_references, call_text, cell_end, cell_start, empty_cells, heading_name, image_tag, link_start, linked_call_text, note_start, passes, raw_html, reference_end, section_start, task_start}
use Rattle.markdown_html.specs.Html.{Source, allowed_of, back_page, any_task, begins_with_paragraph, begins_with_text, cell_cost, cell_name, closed, count, definition_cost, ends_with_paragraph, entered, first_box, footnote_end, footnote_in, footnote_start, has_nodes, html, is_footnote, is_free, is_free_tree, is_no_html, left, link_back, link_front, listed_closed, listed_opened, missing_cells, most_notes, nodes_page, notes_page, opened, paragraph_end, paragraph_start, phrase_closed, phrase_opened, row_end, settled, table_end, title_of, tree_page, url_of}
use Rattle.markdown_html.specs.Page.{Call, Page, affords, blank, block, copy, fresh_line, is_fresh, on_new_line, put, say}
use Rattle.markdown_html.specs.Places.{Place, after, any_spread, below, checked_of, followed, in_cell as cell_place, in_footnote, in_item, in_list, in_listed, in_text, inside, place, unended}
use Rattle.markdown_html.specs.Texts.{budget_of}
use Rattle.markdown_html.proofs.PlaceKinds.{by_kind}
use Rattle.markdown_html.proofs.Tokens.{InList, Linkless, TakesBlocks, backs_read, call_reads, cell_ends, cell_reads, check_box_reads, code_reads, code_text_reads, empty_cells_read, heading_ends, heading_linkless, heading_reads, image_reads, in_cell, link_reads, linked_call_reads, list_ends, list_is_in, list_linkless, list_name, list_reads, list_takes_blocks, math_reads, math_text_reads, note_reads, raw_reads, section_reads, task_reads, td_starts, th_starts}

-- what is open around a place, from what is open around the table or the row that it is in
abbrev base : Kind → List (List ℕ) → List (List ℕ)
base FirstRow up = codes "table" ∷ up
base SecondRow up = codes "table" ∷ up
base LaterRow up = codes "tbody" ∷ codes "table" ∷ up
base HeaderCell up = codes "tr" ∷ up
base Cell up = codes "tr" ∷ up
base _ up = up

-- what may begin in a place, by what is open around it
abbrev MayLink : (linked : Bool) → List (List ℕ) → Type 0
MayLink linked up = (linked || not (has_link up)) ≡ true

abbrev Blocks : List (List ℕ) → Type 0
Blocks up = Linkless up × TakesBlocks up

abbrev Fits : Kind → List (List ℕ) → Type 0
Fits Text up = MayLink false up
Fits Linked up = MayLink true up
Fits Flow up = Blocks up
Fits Tight up = Blocks up
Fits LooseItem up = InList up × Blocks up
Fits TightItem up = InList up × Blocks up
Fits Hidden up = Unit {0}
Fits FirstRow up = Linkless up
Fits SecondRow up = Linkless up
Fits LaterRow up = Linkless up
Fits HeaderCell up = Linkless up
Fits Cell up = Linkless up
Fits (Note _) up = InList up × Blocks up
Fits (Tail _) up = Blocks up
Fits (Task _) up = Blocks up

-- the kind of place of the next sibling, and of what follows some nodes
abbrev next : Kind → Kind
next FirstRow = SecondRow
next SecondRow = LaterRow
next (Task _) = Flow
next kind = kind

abbrev ends : Kind → Trees → Kind
ends kind nothing = kind
ends kind (node _ _ _ rest) = ends (next kind) rest

after_kind : (kind : Kind) (columns : Option (List AlignKind)) (bare : Bool) → (after (record { kind = kind; columns = columns; is_bare = bare })).kind ≡ next kind
after_kind kind columns bare = by_kind (λ k. (after (record { kind = k; columns = columns; is_bare = bare })).kind ≡ next k) refl refl refl refl refl refl refl refl refl refl refl refl (λ n. refl) (λ n. refl) (λ c. refl) kind

next_fits : (kind : Kind) (up : List (List ℕ)) → Fits kind up → Fits (next kind) up
next_fits kind up = by_kind (λ k. Fits k up → Fits (next k) up) (λ f. f) (λ f. f) (λ f. f) (λ f. f) (λ f. f) (λ f. f) (λ f. f) (λ f. f) (λ f. f) (λ f. f) (λ f. f) (λ f. f) (λ _ f. f) (λ _ f. f) (λ _ f. f) kind

-- a kind of place whose nodes leave open what was open
record Steady (kind : Kind) : Type 0 where
  pub next_is : next kind ≡ kind
  pub base_is : (up : List (List ℕ)) → base kind up ≡ up

ends_same : (kind : Kind) (nodes : Trees) → next kind ≡ kind → ends kind nodes ≡ kind
ends_same kind nothing is = refl
ends_same kind (node _ _ _ rest) is = ap (λ (k : Kind). ends k rest) is ∙ ends_same kind rest is

-- two facts of one, where the first half of it may be enough
first_part : (held a b : Bool) → (held || (a && b)) ≡ true → (held || a) ≡ true
first_part true a b fine = refl
first_part false a b fine = (and_parts a b fine).0

second_part : (held a b : Bool) → (held || (a && b)) ≡ true → (held || b) ≡ true
second_part true a b fine = refl
second_part false a b fine = (and_parts a b fine).1

both_fine : (held a b : Bool) → (held || a) ≡ true → (held || b) ≡ true → (held || (a && b)) ≡ true
both_fine true a b first second = refl
both_fine false a b first second = and_from a b first second

some_is : (first tree : Tree) → Some first ≡ Some tree → first ≡ tree
some_is first tree is = ap (λ (o : Option Tree). elim o [ None ↦ first | Some t ↦ t ]) is

module _ (it : Source) where
  -- raw HTML is held back, or there is none
  abbrev Fine : Bool → Type 0
  Fine free = (not (passes it.raw) || free) ≡ true

  abbrev Read : State → List ℕ → State → Type 0
  Read from piece to = Reads (allowed_of it) from piece to

  -- a page, on which these elements are open
  abbrev At : Page → List (List ℕ) → Type 0
  At page up = Read (content []) page.text (content up)

  same : (s : State) → Read s [] s
  same s = fixed (allowed_of it) s []

  says : (page : Page) {up inner : List (List ℕ)} {piece : List ℕ} → At page up → Read (content up) piece (content inner) → At (say page piece) inner
  says page p q = both (allowed_of it) p q

  fresh : {written : List ℕ} {up : List (List ℕ)} → Read (content []) written (content up) → Read (content []) (fresh_line written) (content up)
  unfolding fresh_line
  fresh {written} {up} p = cond_both (is_fresh written) written (written ++ codes "\n") (λ t. Read (content []) t (content up)) (λ _. p) (λ _. both (allowed_of it) p (fixed (allowed_of it) (content up) (codes "\n")))

  blocks : (page : Page) {up inner : List (List ℕ)} {piece : List ℕ} → At page up → Read (content up) piece (content inner) → At (block page piece) inner
  blocks page p q = both (allowed_of it) (fresh p) q

  reads : (s : State) (piece : List ℕ) → Read s piece (run (allowed_of it) s piece)
  reads s piece = fixed (allowed_of it) s piece

  -- the elements that are open in a node, by what it stands in
  abbrev in_paragraph : Kind → List (List ℕ) → List (List ℕ)
  in_paragraph Tight up = up
  in_paragraph _ up = codes "p" ∷ up

  abbrev in_note : Kind → List (List ℕ) → List (List ℕ)
  in_note (Note _) up = codes "li" ∷ up
  in_note _ up = up

  abbrev in_link : (linked : Bool) → List (List ℕ) → List (List ℕ)
  in_link true up = up
  in_link false up = codes "a" ∷ up

  abbrev in_reference : (linked : Bool) → Option Tree → List (List ℕ) → List (List ℕ)
  in_reference linked None up = up
  in_reference linked (Some _) up = in_link linked up

  abbrev phrase_in : (linked bare : Bool) → Label → List (List ℕ) → List (List ℕ)
  phrase_in linked bare emphasis up = codes "em" ∷ up
  phrase_in linked bare strong up = codes "strong" ∷ up
  phrase_in linked bare delete up = codes "del" ∷ up
  phrase_in linked bare (link _ _) up = in_link linked up
  phrase_in linked bare (link_reference _ identifier _) up = in_reference (linked || bare) (definition_in it.tree identifier) up
  phrase_in linked bare _ up = up

  abbrev open_in : (bare : Bool) → Kind → Label → List (List ℕ) → List (List ℕ)
  open_in bare kind paragraph up = in_paragraph kind up
  open_in bare kind blockquote up = codes "blockquote" ∷ up
  open_in bare kind (heading depth) up = heading_name depth ∷ up
  open_in bare kind (list ordered _ _) up = list_name it.raw it.id_prefix ordered ∷ up
  open_in bare kind (table _) up = codes "table" ∷ up
  open_in bare kind (footnote_definition _ _) up = in_note kind up
  open_in bare kind label up = phrase_in false bare label up

  -- a footnote may begin in a place
  abbrev MayNote : Kind → List (List ℕ) → Type 0
  MayNote (Note _) up = InList up
  MayNote _ up = Unit {0}

  paragraph_begins : (up : List (List ℕ)) → TakesBlocks up → Read (content up) (codes "<p>") (content (codes "p" ∷ up))
  paragraph_begins up takes = record { is = rw takes refl }

  paragraph_opens : (kind : Kind) (children : Trees) (page : Page) (up : List (List ℕ)) → TakesBlocks up → At page up → At (put page (paragraph_start kind children page.text)) (in_paragraph kind up)
  paragraph_opens kind children page up takes p =
      let begin = paragraph_begins up takes in
      let other : Read (content []) (fresh_line page.text ++ codes "<p>") (content (codes "p" ∷ up)) = both (allowed_of it) (fresh p) begin in
      by_kind (λ k. At (put page (paragraph_start k children page.text)) (in_paragraph k up)) other other other p other other other other other other other other (λ _. other) (λ _. other)
      (λ c. both (allowed_of it) (fresh p) (both (allowed_of it) begin (check_box_reads it.raw it.id_prefix (codes "p" ∷ up) c (has_nodes children)))) kind

  held_back : (passing : Bool) → (not passing || false) ≡ true → passing ≡ false
  held_back true fine = absurd (false≢true fine)
  held_back false fine = refl

  raw_texts : (value : List ℕ) (up : List (List ℕ)) → Fine false → Read (content up) (raw_html it.raw value) (content up)
  raw_texts value up fine = raw_reads it.raw it.id_prefix up it.raw value (held_back (passes it.raw) fine)

  calls_read : (linked : Bool) (identifier : List ℕ) (number times : ℕ) (up : List (List ℕ)) → MayLink linked up → Read (content up) (if linked then linked_call_text it.id_prefix identifier number times else call_text it.id_prefix identifier number times) (content up)
  calls_read true identifier number times up may = linked_call_reads it.raw it.id_prefix up identifier number times
  calls_read false identifier number times up may = call_reads it.raw it.id_prefix up identifier number times may

  call_pages : (linked : Bool) (found : Option Tree) (identifier : List ℕ) (label : Option (List ℕ)) (number times : ℕ) (calls : List Call) (page : Page) (up : List (List ℕ)) → MayLink linked up → At page up → At (elim found [ None ↦ say page (codes "[^" ++ escaped (unwrap_or label identifier) ++ codes "]") | Some _ ↦ record page { text = page.text ++ (if linked then linked_call_text it.id_prefix identifier number times else call_text it.id_prefix identifier number times); calls = calls } ]) up
  call_pages linked None identifier label number times calls page up may p = says page p (both (allowed_of it) (both (allowed_of it) (reads (content up) (codes "[^")) (text_reads (allowed_of it) up (unwrap_or label identifier))) (reads (content up) (codes "]")))
  call_pages linked (Some _) identifier label number times calls page up may p = both (allowed_of it) p (calls_read linked identifier number times up may)

  link_opens : (linked : Bool) (url : List ℕ) (title : Option (List ℕ)) (up : List (List ℕ)) → MayLink linked up → Read (content up) (link_front it linked url title) (content (in_link linked up))
  link_opens true url title up may = same (content up)
  link_opens false url title up may = link_reads it.raw it.id_prefix up url title may

  link_closes : (linked : Bool) (up : List (List ℕ)) → Read (content (in_link linked up)) (link_back linked) (content up)
  link_closes true up = same (content up)
  link_closes false up = reads (content (codes "a" ∷ up)) (codes "</a>")

  may_more : (linked bare : Bool) (up : List (List ℕ)) → MayLink linked up → MayLink (linked || bare) up
  may_more true bare up may = refl
  may_more false true up may = refl
  may_more false false up may = may

  reference_opens : (linked : Bool) (found : Option Tree) (page : Page) (up : List (List ℕ)) → MayLink linked up → At page up → At (elim found [ None ↦ say page (codes "[") | Some tree ↦ if linked then page else copy page (link_start it.raw (url_of tree.label) (title_of tree.label)) (definition_cost tree.label) ]) (in_reference linked found up)
  reference_opens linked None page up may p = says page p (reads (content up) (codes "["))
  reference_opens true (Some tree) page up may p = p
  reference_opens false (Some tree) page up may p = says page p (link_reads it.raw it.id_prefix up (url_of tree.label) (title_of tree.label) may)

  reference_closes : (linked : Bool) (found : Option Tree) (kind : ReferenceKind) (identifier : List ℕ) (label : Option (List ℕ)) (up : List (List ℕ)) → Read (content (in_reference linked found up)) (elim found [ None ↦ escaped (reference_end kind identifier label) | Some _ ↦ link_back linked ]) (content up)
  reference_closes linked None kind identifier label up = text_reads (allowed_of it) up (reference_end kind identifier label)
  reference_closes linked (Some _) kind identifier label up = link_closes linked up

  image_reference_reads : (bare : Bool) (found : Option Tree) (alt : List ℕ) (kind : ReferenceKind) (identifier : List ℕ) (label : Option (List ℕ)) (page : Page) (up : List (List ℕ)) → At page up → At (elim found [ None ↦ say page (codes "![" ++ escaped alt ++ escaped (reference_end kind identifier label)) | Some tree ↦ if bare then say page (escaped alt) else copy page (image_tag it.raw alt (url_of tree.label) (title_of tree.label)) (definition_cost tree.label) ]) up
  image_reference_reads bare None alt kind identifier label page up p =
      says page p (both (allowed_of it) (both (allowed_of it) (reads (content up) (codes "![")) (text_reads (allowed_of it) up alt)) (text_reads (allowed_of it) up (reference_end kind identifier label)))
  image_reference_reads true (Some tree) alt kind identifier label page up p = says page p (text_reads (allowed_of it) up alt)
  image_reference_reads false (Some tree) alt kind identifier label page up p = says page p (image_reads it.raw it.id_prefix up alt (url_of tree.label) (title_of tree.label))

  note_opens : (call : Option Call) (up : List (List ℕ)) → InList up → Read (content up) (elim call [ None ↦ codes "<li>\n" | Some c ↦ note_start it.id_prefix c.identifier ]) (content (codes "li" ∷ up))
  note_opens None up listed = record { is = rw listed refl }
  note_opens (Some c) up listed = note_reads it.raw it.id_prefix up c.identifier listed

  footnote_opens : (kind : Kind) (page : Page) (up : List (List ℕ)) → MayNote kind up → At page up → At (footnote_start it kind page) (in_note kind up)
  footnote_opens kind page up may p =
      by_kind (λ k. MayNote k up → At (footnote_start it k page) (in_note k up)) (λ _. p) (λ _. p) (λ _. p) (λ _. p) (λ _. p) (λ _. p) (λ _. p) (λ _. p) (λ _. p) (λ _. p) (λ _. p) (λ _. p)
      (λ n. λ listed. says page p (note_opens (slice_get page.calls n) up listed)) (λ _. λ _. p) (λ _. λ _. p) kind may

  back_pages : (call : Option Call) (number : ℕ) (page : Page) (up : List (List ℕ)) → Linkless up → At page up → At (elim call [ None ↦ page | Some c ↦ say page (back_references it.id_prefix c.identifier (number + 1) c.count) ]) up
  back_pages None number page up linkless p = p
  back_pages (Some c) number page up linkless p = says page p (backs_read it.raw it.id_prefix up c.identifier (number + 1) c.count linkless)

  backs : (number : ℕ) (page : Page) (up : List (List ℕ)) → Linkless up → At page up → At (back_page it number page) up
  backs number page up linkless p = back_pages (slice_get page.calls number) number page up linkless p

  paragraph_closes : (kind : Kind) (page : Page) (up : List (List ℕ)) → Linkless up → At page (in_paragraph kind up) → At (paragraph_end it kind page) up
  paragraph_closes kind page up linkless =
      let end : Read (content (codes "p" ∷ up)) (codes "</p>\n") (content up) = reads (content (codes "p" ∷ up)) (codes "</p>\n") in
      let other : At page (codes "p" ∷ up) → At (say page (codes "</p>\n")) up = λ p. says page p end in
      by_kind (λ k. At page (in_paragraph k up) → At (paragraph_end it k page) up) other other other (λ p. p) other other other other other other other other (λ _. other) (λ n. λ p. says (back_page it n page) (backs n page (codes "p" ∷ up) linkless p) end) (λ _. other) kind

  note_closes : (has_paragraph : Bool) (number : ℕ) (page : Page) (up : List (List ℕ)) → Linkless up → At page (codes "li" ∷ up) → At (say (if has_paragraph then page else say (back_page it number (on_new_line page)) (codes "\n")) (codes "</li>\n")) up
  note_closes true number page up linkless p = says page p (reads (content (codes "li" ∷ up)) (codes "</li>\n"))
  note_closes false number page up linkless p =
      let inside = codes "li" ∷ up in
      says (say (back_page it number (on_new_line page)) (codes "\n")) (says (back_page it number (on_new_line page)) (backs number (on_new_line page) inside linkless (fresh p)) (reads (content inside) (codes "\n"))) (reads (content inside) (codes "</li>\n"))

  footnote_closes : (kind : Kind) (children : Trees) (page : Page) (up : List (List ℕ)) → Linkless up → At page (in_note kind up) → At (footnote_end it kind children page) up
  footnote_closes kind children page up linkless = by_kind (λ k. At page (in_note k up) → At (footnote_end it k children page) up) (λ p. p) (λ p. p) (λ p. p) (λ p. p) (λ p. p) (λ p. p) (λ p. p) (λ p. p) (λ p. p) (λ p. p) (λ p. p) (λ p. p) (λ n. note_closes (ends_with_paragraph children) n page up linkless) (λ _. λ p. p) (λ _. λ p. p) kind

  -- what stands before the children of a node in a text opens its element
  phrase_opens : (linked bare : Bool) (label : Label) (page : Page) (up : List (List ℕ)) → MayLink linked up → Fine (is_no_html label) → At page up → At (phrase_opened it linked bare label page) (phrase_in linked bare label up)
  phrase_opens linked bare root page up may fine p = p
  phrase_opens linked bare paragraph page up may fine p = p
  phrase_opens linked bare blockquote page up may fine p = p
  phrase_opens linked bare emphasis page up may fine p = says page p (reads (content up) (codes "<em>"))
  phrase_opens linked bare strong page up may fine p = says page p (reads (content up) (codes "<strong>"))
  phrase_opens linked bare delete page up may fine p = says page p (reads (content up) (codes "<del>"))
  phrase_opens linked bare table_row page up may fine p = p
  phrase_opens linked bare table_cell page up may fine p = p
  phrase_opens linked bare thematic_break page up may fine p = p
  phrase_opens linked bare «break» page up may fine p = says page p (reads (content up) (codes "<br />\n"))
  phrase_opens linked bare (text value) page up may fine p = says page p (text_reads (allowed_of it) up value)
  phrase_opens linked bare (raw_node value) page up may fine p = says page p (raw_texts value up fine)
  phrase_opens linked bare (inline_code value) page up may fine p = says page p (code_text_reads it.raw it.id_prefix up value)
  phrase_opens linked bare (inline_math value) page up may fine p = says page p (math_text_reads it.raw it.id_prefix up value)
  phrase_opens linked bare (yaml _) page up may fine p = p
  phrase_opens linked bare (toml _) page up may fine p = p
  phrase_opens linked bare (heading _) page up may fine p = p
  phrase_opens linked bare (list _ _ _) page up may fine p = p
  phrase_opens linked bare (list_item _ _) page up may fine p = p
  phrase_opens linked bare (table _) page up may fine p = p
  phrase_opens linked bare (code value _ _) page up may fine p = says page p (code_text_reads it.raw it.id_prefix up value)
  phrase_opens linked bare (math value _) page up may fine p = says page p (math_text_reads it.raw it.id_prefix up value)
  phrase_opens linked bare (link url title) page up may fine p = says page p (link_opens linked url title up may)
  phrase_opens linked bare (image alt url title) page up may fine p = says page p (image_reads it.raw it.id_prefix up alt url title)
  phrase_opens linked bare (link_reference _ identifier _) page up may fine p = reference_opens (linked || bare) (definition_in it.tree identifier) page up (may_more linked bare up may) p
  phrase_opens linked bare (image_reference alt reference_kind identifier label) page up may fine p = image_reference_reads bare (definition_in it.tree identifier) alt reference_kind identifier label page up p
  phrase_opens linked bare (footnote_reference identifier label) page up may fine p = call_pages linked (footnote_in it.tree identifier) identifier label _ _ _ page up may p
  phrase_opens linked bare (footnote_definition _ _) page up may fine p = p
  phrase_opens linked bare (definition _ _ _ _) page up may fine p = p

  -- what stands after the children closes it
  phrase_closes : (linked bare : Bool) (label : Label) (page : Page) (up : List (List ℕ)) → At page (phrase_in linked bare label up) → At (phrase_closed it linked bare label page) up
  phrase_closes linked bare root page up p = p
  phrase_closes linked bare paragraph page up p = p
  phrase_closes linked bare blockquote page up p = p
  phrase_closes linked bare emphasis page up p = says page p (reads (content (codes "em" ∷ up)) (codes "</em>"))
  phrase_closes linked bare strong page up p = says page p (reads (content (codes "strong" ∷ up)) (codes "</strong>"))
  phrase_closes linked bare delete page up p = says page p (reads (content (codes "del" ∷ up)) (codes "</del>"))
  phrase_closes linked bare table_row page up p = p
  phrase_closes linked bare table_cell page up p = p
  phrase_closes linked bare thematic_break page up p = p
  phrase_closes linked bare «break» page up p = p
  phrase_closes linked bare (text _) page up p = p
  phrase_closes linked bare (raw_node _) page up p = p
  phrase_closes linked bare (inline_code _) page up p = p
  phrase_closes linked bare (inline_math _) page up p = p
  phrase_closes linked bare (yaml _) page up p = p
  phrase_closes linked bare (toml _) page up p = p
  phrase_closes linked bare (heading _) page up p = p
  phrase_closes linked bare (list _ _ _) page up p = p
  phrase_closes linked bare (list_item _ _) page up p = p
  phrase_closes linked bare (table _) page up p = p
  phrase_closes linked bare (code _ _ _) page up p = p
  phrase_closes linked bare (math _ _) page up p = p
  phrase_closes linked bare (link _ _) page up p = says page p (link_closes linked up)
  phrase_closes linked bare (image _ _ _) page up p = p
  phrase_closes linked bare (link_reference kind identifier label) page up p = says page p (reference_closes (linked || bare) (definition_in it.tree identifier) kind identifier label up)
  phrase_closes linked bare (image_reference _ _ _ _) page up p = p
  phrase_closes linked bare (footnote_reference _ _) page up p = p
  phrase_closes linked bare (footnote_definition _ _) page up p = p
  phrase_closes linked bare (definition _ _ _ _) page up p = p

  -- the same for a node among blocks
  opens : (bare : Bool) (kind : Kind) (label : Label) (children : Trees) (page : Page) (up : List (List ℕ)) → Blocks up → MayNote kind up → Fine (is_no_html label) → At page up → At (opened it bare kind label children page) (open_in bare kind label up)
  opens bare kind root children page up may note fine p = phrase_opens false bare root page up may.0 fine p
  opens bare kind paragraph children page up may note fine p = paragraph_opens kind children page up may.1 p
  opens bare kind blockquote children page up may note fine p = blocks page p (record { is = rw may.1 refl })
  opens bare kind emphasis children page up may note fine p = phrase_opens false bare emphasis page up may.0 fine p
  opens bare kind strong children page up may note fine p = phrase_opens false bare strong page up may.0 fine p
  opens bare kind delete children page up may note fine p = phrase_opens false bare delete page up may.0 fine p
  opens bare kind table_row children page up may note fine p = phrase_opens false bare table_row page up may.0 fine p
  opens bare kind table_cell children page up may note fine p = phrase_opens false bare table_cell page up may.0 fine p
  opens bare kind thematic_break children page up may note fine p = blocks page p (record { is = rw may.1 refl })
  opens bare kind «break» children page up may note fine p = phrase_opens false bare «break» page up may.0 fine p
  opens bare kind (text v) children page up may note fine p = phrase_opens false bare (text v) page up may.0 fine p
  opens bare kind (raw_node value) children page up may note fine p = fresh (both (allowed_of it) (fresh p) (raw_texts value up fine))
  opens bare kind (inline_code v) children page up may note fine p = phrase_opens false bare (inline_code v) page up may.0 fine p
  opens bare kind (inline_math v) children page up may note fine p = phrase_opens false bare (inline_math v) page up may.0 fine p
  opens bare kind (yaml v) children page up may note fine p = phrase_opens false bare (yaml v) page up may.0 fine p
  opens bare kind (toml v) children page up may note fine p = phrase_opens false bare (toml v) page up may.0 fine p
  opens bare kind (heading depth) children page up may note fine p = blocks page p (heading_reads it.raw it.id_prefix up depth may.1)
  opens bare kind (list ordered start _) children page up may note fine p = blocks page p (list_reads it.raw it.id_prefix up ordered (any_task children) start may.1)
  opens bare kind (list_item s c) children page up may note fine p = phrase_opens false bare (list_item s c) page up may.0 fine p
  opens bare kind (table _) children page up may note fine p = blocks page p (record { is = rw may.1 refl })
  opens bare kind (code value lang _) children page up may note fine p = blocks page p (code_reads it.raw it.id_prefix up lang value may.1)
  opens bare kind (math value _) children page up may note fine p = blocks page p (math_reads it.raw it.id_prefix up value may.1)
  opens bare kind (link u t) children page up may note fine p = phrase_opens false bare (link u t) page up may.0 fine p
  opens bare kind (image a u t) children page up may note fine p = phrase_opens false bare (image a u t) page up may.0 fine p
  opens bare kind (link_reference k i l) children page up may note fine p = phrase_opens false bare (link_reference k i l) page up may.0 fine p
  opens bare kind (image_reference a k i l) children page up may note fine p = phrase_opens false bare (image_reference a k i l) page up may.0 fine p
  opens bare kind (footnote_reference i l) children page up may note fine p = phrase_opens false bare (footnote_reference i l) page up may.0 fine p
  opens bare kind (footnote_definition _ _) children page up may note fine p = footnote_opens kind page up note p
  opens bare kind (definition u t i l) children page up may note fine p = phrase_opens false bare (definition u t i l) page up may.0 fine p

  -- the elements that are open after the children of a node: a table may have its body open
  abbrev within : (bare : Bool) → Kind → Label → Trees → List (List ℕ) → List (List ℕ)
  within bare kind (table _) children up = base (ends FirstRow children) up
  within bare kind label children up = open_in bare kind label up

  later_rows : (rest : Trees) (up : List (List ℕ)) → base (ends LaterRow rest) up ≡ codes "tbody" ∷ codes "table" ∷ up
  later_rows rest up = ap (λ (k : Kind). base k up) (ends_same LaterRow rest refl)

  table_closes : (children : Trees) (page : Page) (up : List (List ℕ)) → At page (base (ends FirstRow children) up) → At (say page (table_end children)) up
  table_closes nothing page up p = says page p (reads (content (codes "table" ∷ up)) (codes "</table>\n"))
  table_closes (node _ _ _ nothing) page up p = says page p (reads (content (codes "table" ∷ up)) (codes "</table>\n"))
  table_closes (node _ _ _ (node _ _ _ rest)) page up p =
      let many : nat_le 2 (count rest + 1 + 1) ≡ true = le-leb 2 (count rest + 1 + 1) (omega arith) in
      let body : At page (codes "tbody" ∷ (codes "table" ∷ up)) = subst (λ (names : List (List ℕ)). At page names) (later_rows rest up) p in
      says page body (rw many (reads (content (codes "tbody" ∷ (codes "table" ∷ up))) (codes "</tbody>\n</table>\n")))

  cells_read : (at : Place) (columns : List AlignKind) (up : List (List ℕ)) → Read (content (codes "tr" ∷ up)) (empty_cells (cell_name at.kind) columns) (content (codes "tr" ∷ up))
  cells_read at columns up =
      let inside = codes "tr" ∷ up in
      let header = empty_cells_read it.raw it.id_prefix inside (codes "th") (th_starts it.raw it.id_prefix up) (reads (content inside) (codes "<th>")) (reads (content (codes "th" ∷ inside)) (codes "</th>\n")) columns in
      let other = empty_cells_read it.raw it.id_prefix inside (codes "td") (td_starts it.raw it.id_prefix up) (reads (content inside) (codes "<td>")) (reads (content (codes "td" ∷ inside)) (codes "</td>\n")) columns in
      by_kind (λ k. Read (content inside) (empty_cells (cell_name k) columns) (content inside)) other other other other other other other header other other other other (λ _. other) (λ _. other) (λ _. other) at.kind

  missing_read : (affords : Bool) (at : Place) (columns : List AlignKind) (cost : ℕ) (page : Page) (up : List (List ℕ)) → At page (codes "tr" ∷ up) → At (if affords then copy page (empty_cells (cell_name at.kind) columns) cost else page) (codes "tr" ∷ up)
  missing_read true at columns cost page up p = says page p (cells_read at columns up)
  missing_read false at columns cost page up p = p

  row_closes : (at : Place) (cells : Trees) (page : Page) (up : List (List ℕ)) → At page (codes "tr" ∷ up) → At (row_end at cells page) up
  row_closes at cells page up p =
      let columns = drop (count cells) (unwrap_or at.columns []) in
      says (missing_cells (cell_name at.kind) columns page) (missing_read (affords page (length columns * cell_cost)) at columns (length columns * cell_cost) page up p) (reads (content (codes "tr" ∷ up)) (codes "</tr>\n"))

  closes : (bare : Bool) (kind : Kind) (label : Label) (children : Trees) (page : Page) (up : List (List ℕ)) → Linkless up → At page (within bare kind label children up) → At (closed it bare kind label children page) up
  closes bare kind root children page up linkless p = phrase_closes false bare root page up p
  closes bare kind paragraph children page up linkless p = paragraph_closes kind page up linkless p
  closes bare kind blockquote children page up linkless p = blocks page p (reads (content (codes "blockquote" ∷ up)) (codes "</blockquote>\n"))
  closes bare kind emphasis children page up linkless p = phrase_closes false bare emphasis page up p
  closes bare kind strong children page up linkless p = phrase_closes false bare strong page up p
  closes bare kind delete children page up linkless p = phrase_closes false bare delete page up p
  closes bare kind table_row children page up linkless p = phrase_closes false bare table_row page up p
  closes bare kind table_cell children page up linkless p = phrase_closes false bare table_cell page up p
  closes bare kind thematic_break children page up linkless p = phrase_closes false bare thematic_break page up p
  closes bare kind «break» children page up linkless p = phrase_closes false bare «break» page up p
  closes bare kind (text v) children page up linkless p = phrase_closes false bare (text v) page up p
  closes bare kind (raw_node v) children page up linkless p = phrase_closes false bare (raw_node v) page up p
  closes bare kind (inline_code v) children page up linkless p = phrase_closes false bare (inline_code v) page up p
  closes bare kind (inline_math v) children page up linkless p = phrase_closes false bare (inline_math v) page up p
  closes bare kind (yaml v) children page up linkless p = phrase_closes false bare (yaml v) page up p
  closes bare kind (toml v) children page up linkless p = phrase_closes false bare (toml v) page up p
  closes bare kind (heading depth) children page up linkless p = says page p (heading_ends it.raw it.id_prefix up depth)
  closes bare kind (list ordered start _) children page up linkless p = says page p (list_ends it.raw it.id_prefix up ordered)
  closes bare kind (list_item s c) children page up linkless p = phrase_closes false bare (list_item s c) page up p
  closes bare kind (table _) children page up linkless p = table_closes children page up p
  closes bare kind (code v g m) children page up linkless p = phrase_closes false bare (code v g m) page up p
  closes bare kind (math v m) children page up linkless p = phrase_closes false bare (math v m) page up p
  closes bare kind (link u t) children page up linkless p = phrase_closes false bare (link u t) page up p
  closes bare kind (image a u t) children page up linkless p = phrase_closes false bare (image a u t) page up p
  closes bare kind (link_reference k i l) children page up linkless p = phrase_closes false bare (link_reference k i l) page up p
  closes bare kind (image_reference a k i l) children page up linkless p = phrase_closes false bare (image_reference a k i l) page up p
  closes bare kind (footnote_reference i l) children page up linkless p = phrase_closes false bare (footnote_reference i l) page up p
  closes bare kind (footnote_definition _ _) children page up linkless p = footnote_closes kind children page up linkless p
  closes bare kind (definition u t i l) children page up linkless p = phrase_closes false bare (definition u t i l) page up p

  -- what the children of a node leave open, where they stand among others that leave open what was open
  abbrev Level : Place → Trees → Type 0
  Level at children = (page : Page) (up : List (List ℕ)) → Fits at.kind up → At page (base at.kind up) → At (nodes_page it at children page) (base (ends at.kind children) up)

  steadily : (at : Place) (children : Trees) (page : Page) (up : List (List ℕ)) → Level at children → Steady at.kind → Fits at.kind up → At page up → At (nodes_page it at children page) up
  steadily at children page up level steady fits p =
      let start : At page (base at.kind up) = subst (λ (names : List (List ℕ)). At page names) (sym (steady.base_is up)) p in
      subst (λ (names : List (List ℕ)). At (nodes_page it at children page) names) (ap (λ (k : Kind). base k up) (ends_same at.kind children steady.next_is) ∙ steady.base_is up) (level page up fits start)

  steady : (kind : Kind) → next kind ≡ kind → ((up : List (List ℕ)) → base kind up ≡ up) → Steady kind
  steady kind next_is base_is = record { next_is = next_is; base_is = base_is }

  -- the children of a node in a text
  abbrev text_kind : (linked : Bool) → Kind
  text_kind true = Linked
  text_kind false = Text

  text_steady : (linked : Bool) → Steady (text_kind linked)
  text_steady true = steady Linked refl (λ up. refl)
  text_steady false = steady Text refl (λ up. refl)

  text_fits : (linked : Bool) (up : List (List ℕ)) → MayLink linked up → Fits (text_kind linked) up
  text_fits true up may = may
  text_fits false up may = may

  linked_down : (children : Trees) (page : Page) (up : List (List ℕ)) → Level (place Linked) children → At page up → At (nodes_page it (place Linked) children page) up
  linked_down children page up level p = steadily (place Linked) children page up level (steady Linked refl (λ u. refl)) refl p

  text_down : (linked : Bool) (children : Trees) (page : Page) (up : List (List ℕ)) → Level (place (text_kind linked)) children → MayLink linked up → At page up → At (nodes_page it (place (text_kind linked)) children page) up
  text_down linked children page up level may p = steadily (place (text_kind linked)) children page up level (text_steady linked) (text_fits linked up may) p

  hidden_down : (children : Trees) (page : Page) (up : List (List ℕ)) → Level (place Hidden) children → At page up → At (nodes_page it (place Hidden) children page) up
  hidden_down children page up level p = steadily (place Hidden) children page up level (steady Hidden refl (λ u. refl)) tt p

  phrase_down : (linked bare : Bool) (label : Label) (children : Trees) (page : Page) (up : List (List ℕ)) → Level (in_text (text_kind linked) label) children → MayLink linked up → At page (phrase_in linked bare label up) → At (nodes_page it (in_text (text_kind linked) label) children page) (phrase_in linked bare label up)
  phrase_down linked bare root children page up level may p = text_down linked children page up level may p
  phrase_down linked bare paragraph children page up level may p = text_down linked children page up level may p
  phrase_down linked bare blockquote children page up level may p = text_down linked children page up level may p
  phrase_down linked bare emphasis children page up level may p = text_down linked children page (codes "em" ∷ up) level may p
  phrase_down linked bare strong children page up level may p = text_down linked children page (codes "strong" ∷ up) level may p
  phrase_down linked bare delete children page up level may p = text_down linked children page (codes "del" ∷ up) level may p
  phrase_down linked bare table_row children page up level may p = text_down linked children page up level may p
  phrase_down linked bare table_cell children page up level may p = text_down linked children page up level may p
  phrase_down linked bare thematic_break children page up level may p = text_down linked children page up level may p
  phrase_down linked bare «break» children page up level may p = text_down linked children page up level may p
  phrase_down linked bare (text v) children page up level may p = text_down linked children page up level may p
  phrase_down linked bare (raw_node v) children page up level may p = text_down linked children page up level may p
  phrase_down linked bare (inline_code v) children page up level may p = text_down linked children page up level may p
  phrase_down linked bare (inline_math v) children page up level may p = text_down linked children page up level may p
  phrase_down linked bare (yaml v) children page up level may p = text_down linked children page up level may p
  phrase_down linked bare (toml v) children page up level may p = text_down linked children page up level may p
  phrase_down linked bare (heading d) children page up level may p = text_down linked children page up level may p
  phrase_down linked bare (list o s t) children page up level may p = text_down linked children page up level may p
  phrase_down linked bare (list_item s c) children page up level may p = text_down linked children page up level may p
  phrase_down linked bare (table a) children page up level may p = text_down linked children page up level may p
  phrase_down linked bare (code v l m) children page up level may p = text_down linked children page up level may p
  phrase_down linked bare (math v m) children page up level may p = text_down linked children page up level may p
  phrase_down linked bare (link u t) children page up level may p = linked_down children page (in_link linked up) level p
  phrase_down linked bare (image a u t) children page up level may p = text_down linked children page up level may p
  phrase_down linked bare (link_reference k i l) children page up level may p = linked_down children page (phrase_in linked bare (link_reference k i l) up) level p
  phrase_down linked bare (image_reference a k i l) children page up level may p = text_down linked children page up level may p
  phrase_down linked bare (footnote_reference i l) children page up level may p = text_down linked children page up level may p
  phrase_down linked bare (footnote_definition i l) children page up level may p = hidden_down children page up level p
  phrase_down linked bare (definition u t i l) children page up level may p = text_down linked children page up level may p

  phrase_plainly : (linked bare : Bool) (label : Label) (children : Trees) (page : Page) (up : List (List ℕ)) → Fine (is_no_html label) → Level (in_text (text_kind linked) label) children → MayLink linked up → At page up → At (phrase_closed it linked bare label (nodes_page it (in_text (text_kind linked) label) children (phrase_opened it linked bare label page))) up
  phrase_plainly linked bare label children page up fine level may p = phrase_closes linked bare label _ up (phrase_down linked bare label children (phrase_opened it linked bare label page) up level may (phrase_opens linked bare label page up may fine p))

  -- the children of a node among blocks
  flow_down : (kind : Kind) (children : Trees) (page : Page) (up : List (List ℕ)) → Level (place kind) children → Steady kind → Fits kind up → At page up → At (nodes_page it (place kind) children page) up
  flow_down kind children page up level steady fits p = steadily (place kind) children page up level steady fits p

  list_down : (spread : Bool) (children : Trees) (page : Page) (up : List (List ℕ)) → Level (in_list spread) children → InList up × Blocks up → At page up → At (nodes_page it (in_list spread) children page) up
  list_down true children page up level fits p = flow_down LooseItem children page up level (steady LooseItem refl (λ u. refl)) fits p
  list_down false children page up level fits p = flow_down TightItem children page up level (steady TightItem refl (λ u. refl)) fits p

  item_down : (kind : Kind) (children : Trees) (page : Page) (up : List (List ℕ)) → Level (in_item kind) children → Blocks up → At page up → At (nodes_page it (in_item kind) children page) up
  item_down kind children page up level fits p =
      let Claim : Kind → Type 0 = λ k. Level (in_item k) children → At (nodes_page it (in_item k) children page) up in
      let other : Level (place Flow) children → At (nodes_page it (place Flow) children page) up = λ l. flow_down Flow children page up l (steady Flow refl (λ u. refl)) fits p in
      by_kind Claim other other other (λ l. flow_down Tight children page up l (steady Tight refl (λ u. refl)) fits p) other other other other other other other other (λ _. other) (λ _. other) (λ _. other) kind level

  footnote_down : (kind : Kind) (children : Trees) (page : Page) (up : List (List ℕ)) → Level (in_footnote kind) children → Blocks up → At page (in_note kind up) → At (nodes_page it (in_footnote kind) children page) (in_note kind up)
  footnote_down kind children page up level fits p =
      let Claim : Kind → Type 0 = λ k. Level (in_footnote k) children → At page (in_note k up) → At (nodes_page it (in_footnote k) children page) (in_note k up) in
      let other : Level (place Hidden) children → At page up → At (nodes_page it (place Hidden) children page) up = λ l q. hidden_down children page up l q in
      by_kind Claim other other other other other other other other other other other other (λ n. λ l q. flow_down (Tail n) children page (codes "li" ∷ up) l (steady (Tail n) refl (λ u. refl)) fits q) (λ _. other) (λ _. other) kind level p

  paragraph_down : (kind : Kind) (children : Trees) (page : Page) (up : List (List ℕ)) → Level (place Text) children → Linkless up → At page (in_paragraph kind up) → At (nodes_page it (place Text) children page) (in_paragraph kind up)
  paragraph_down kind children page up level linkless p =
      let Claim : Kind → Type 0 = λ k. At page (in_paragraph k up) → At (nodes_page it (place Text) children page) (in_paragraph k up) in
      let other : At page (codes "p" ∷ up) → At (nodes_page it (place Text) children page) (codes "p" ∷ up) = λ q. text_down false children page (codes "p" ∷ up) level linkless q in
      by_kind Claim other other other (λ q. text_down false children page up level linkless q) other other other other other other other other (λ _. other) (λ _. other) (λ _. other) kind p

  down : (bare : Bool) (kind : Kind) (label : Label) (children : Trees) (page : Page) (up : List (List ℕ)) → Level (below kind label children) children → Blocks up → At page (open_in bare kind label up) → At (nodes_page it (below kind label children) children page) (within bare kind label children up)
  down bare kind root children page up level may p = flow_down Flow children page up level (steady Flow refl (λ u. refl)) may p
  down bare kind paragraph children page up level may p = paragraph_down kind children page up level may.0 p
  down bare kind blockquote children page up level may p = flow_down Flow children page (codes "blockquote" ∷ up) level (steady Flow refl (λ u. refl)) may p
  down bare kind emphasis children page up level may p = phrase_down false bare emphasis children page up level may.0 p
  down bare kind strong children page up level may p = phrase_down false bare strong children page up level may.0 p
  down bare kind delete children page up level may p = phrase_down false bare delete children page up level may.0 p
  down bare kind table_row children page up level may p = phrase_down false bare table_row children page up level may.0 p
  down bare kind table_cell children page up level may p = phrase_down false bare table_cell children page up level may.0 p
  down bare kind thematic_break children page up level may p = phrase_down false bare thematic_break children page up level may.0 p
  down bare kind «break» children page up level may p = phrase_down false bare «break» children page up level may.0 p
  down bare kind (text v) children page up level may p = phrase_down false bare (text v) children page up level may.0 p
  down bare kind (raw_node v) children page up level may p = phrase_down false bare (raw_node v) children page up level may.0 p
  down bare kind (inline_code v) children page up level may p = phrase_down false bare (inline_code v) children page up level may.0 p
  down bare kind (inline_math v) children page up level may p = phrase_down false bare (inline_math v) children page up level may.0 p
  down bare kind (yaml v) children page up level may p = phrase_down false bare (yaml v) children page up level may.0 p
  down bare kind (toml v) children page up level may p = phrase_down false bare (toml v) children page up level may.0 p
  down bare kind (heading d) children page up level may p = text_down false children page (heading_name d ∷ up) level (heading_linkless it.raw it.id_prefix up d may.0) p
  down bare kind (list o s t) children page up level may p = list_down (t || any_spread children) children page (list_name it.raw it.id_prefix o ∷ up) level (list_is_in it.raw it.id_prefix up o, (list_linkless it.raw it.id_prefix up o may.0, list_takes_blocks it.raw it.id_prefix up o may.1)) p
  down bare kind (list_item s c) children page up level may p = item_down kind children page up level may p
  down bare kind (table a) children page up level may p = level page up may.0 p
  down bare kind (code v l m) children page up level may p = phrase_down false bare (code v l m) children page up level may.0 p
  down bare kind (math v m) children page up level may p = phrase_down false bare (math v m) children page up level may.0 p
  down bare kind (link u t) children page up level may p = phrase_down false bare (link u t) children page up level may.0 p
  down bare kind (image a u t) children page up level may p = phrase_down false bare (image a u t) children page up level may.0 p
  down bare kind (link_reference k i l) children page up level may p = phrase_down false bare (link_reference k i l) children page up level may.0 p
  down bare kind (image_reference a k i l) children page up level may p = phrase_down false bare (image_reference a k i l) children page up level may.0 p
  down bare kind (footnote_reference i l) children page up level may p = phrase_down false bare (footnote_reference i l) children page up level may.0 p
  down bare kind (footnote_definition i l) children page up level may p = footnote_down kind children page up level may p
  down bare kind (definition u t i l) children page up level may p = phrase_down false bare (definition u t i l) children page up level may.0 p

  plainly : (bare : Bool) (kind : Kind) (label : Label) (children : Trees) (page : Page) (up : List (List ℕ)) → Fine (is_no_html label) → Level (below kind label children) children → Blocks up → MayNote kind up → At page up → At (closed it bare kind label children (nodes_page it (below kind label children) children (opened it bare kind label children page))) up
  plainly bare kind label children page up fine level may note p = closes bare kind label children _ up may.0 (down bare kind label children (opened it bare kind label children page) up level may (opens bare kind label children page up may note fine p))

  -- a node in an item of its own
  item_begins : (up : List (List ℕ)) → InList up → Read (content up) (codes "<li>") (content (codes "li" ∷ up))
  item_begins up listed = record { is = rw listed refl }

  item_read : (bare : Bool) (kind : Kind) (label : Label) (children : Trees) (page : Page) (up : List (List ℕ)) → Fine (is_no_html label) → Level (below kind label children) children → InList up × Blocks up → MayNote kind (codes "li" ∷ up) → At page up → At (say (closed it bare kind label children (nodes_page it (below kind label children) children (opened it bare kind label children (block page (codes "<li>"))))) (codes "</li>\n")) up
  item_read bare kind label children page up fine level fits note p =
      let begun = block page (codes "<li>") in
      says (closed it bare kind label children (nodes_page it (below kind label children) children (opened it bare kind label children begun)))
      (plainly bare kind label children begun (codes "li" ∷ up) fine level fits.1 note (blocks page p (item_begins up fits.0)))
      (reads (content (codes "li" ∷ up)) (codes "</li>\n"))

  -- a task
  line_begins : (up : List (List ℕ)) → TakesBlocks up → Read (content up) (codes "\n<p>") (content (codes "p" ∷ up))
  line_begins up takes = record { is = rw takes refl }

  first_box_reads : (tight checked : Bool) (children : Trees) (up : List (List ℕ)) → TakesBlocks up → Read (content up) (first_box tight checked children) (content up)
  first_box_reads true checked children up takes = check_box_reads it.raw it.id_prefix up checked (begins_with_text children)
  first_box_reads false checked children up takes =
      let alone = both (allowed_of it) (both (allowed_of it) (line_begins up takes) (check_box_reads it.raw it.id_prefix (codes "p" ∷ up) checked false)) (reads (content (codes "p" ∷ up)) (codes "</p>\n")) in
      cond_both (begins_with_paragraph children) _ _ (λ t. Read (content up) t (content up)) (λ _. same (content up)) (λ _. alone)

  task_ends : (checked : Bool) (children : Trees) (up : List (List ℕ)) → base (ends (Task checked) children) up ≡ up
  task_ends checked nothing up = refl
  task_ends checked (node _ _ _ rest) up = ap (λ (k : Kind). base k up) (ends_same Flow rest refl)

  task_down : (tight checked : Bool) (label : Label) (children : Trees) (page : Page) (up : List (List ℕ)) → Level (in_listed tight (Some checked) label children) children → Blocks up → At page up → At (nodes_page it (in_listed tight (Some checked) label children) children page) up
  task_down true checked label children page up level fits p = flow_down Tight children page up level (steady Tight refl (λ u. refl)) fits p
  task_down false checked label children page up level fits p = subst (λ (names : List (List ℕ)). At (nodes_page it (place (Task checked)) children page) names) (task_ends checked children up) (level page up fits p)

  task_read : (tight checked : Bool) (label : Label) (children : Trees) (page : Page) (up : List (List ℕ)) → Level (in_listed tight (Some checked) label children) children → InList up × Blocks up → At page up → At (say (nodes_page it (in_listed tight (Some checked) label children) children (block page (task_start ++ first_box tight checked children))) (codes "</li>\n")) up
  task_read tight checked label children page up level fits p =
      let begun = block page (task_start ++ first_box tight checked children) in
      says (nodes_page it (in_listed tight (Some checked) label children) children begun)
      (task_down tight checked label children begun (codes "li" ∷ up) level fits.1 (blocks page p (both (allowed_of it) (task_reads it.raw it.id_prefix up fits.0) (first_box_reads tight checked children (codes "li" ∷ up) fits.1.1))))
      (reads (content (codes "li" ∷ up)) (codes "</li>\n"))

  listed_read : (bare tight : Bool) (checked : Option Bool) (label : Label) (children : Trees) (page : Page) (up : List (List ℕ)) → Fine (is_no_html label) → Level (in_listed tight checked label children) children → InList up × Blocks up → At page up → At (listed_closed it bare tight checked label children (nodes_page it (in_listed tight checked label children) children (listed_opened it bare tight checked label children page))) up
  listed_read bare true None label children page up fine level fits p = item_read bare Tight label children page up fine level fits tt p
  listed_read bare false None label children page up fine level fits p = item_read bare Flow label children page up fine level fits tt p
  listed_read bare tight (Some checked) label children page up fine level fits p = task_read tight checked label children page up level fits p

  -- a row: its cells leave it open
  row_open : (kind : Kind) (cells : Trees) (up : List (List ℕ)) → next kind ≡ kind → base kind up ≡ codes "tr" ∷ up → base (ends kind cells) up ≡ codes "tr" ∷ up
  row_open kind cells up same is = ap (λ (k : Kind). base k up) (ends_same kind cells same) ∙ is

  header_read : (at : Place) (cells : Trees) (page : Page) (up : List (List ℕ)) → Level (record at { kind = HeaderCell }) cells → Linkless up → At page (codes "table" ∷ up) → At (say (row_end at cells (nodes_page it (record at { kind = HeaderCell }) cells (say page (codes "<thead>\n<tr>\n")))) (codes "</thead>\n")) (codes "table" ∷ up)
  header_read at cells page up level linkless p =
      let inner = codes "thead" ∷ codes "table" ∷ up in
      let begun = say page (codes "<thead>\n<tr>\n") in
      let all = nodes_page it (record at { kind = HeaderCell }) cells begun in
      let done : At all (codes "tr" ∷ inner) = subst (λ (names : List (List ℕ)). At all names) (row_open HeaderCell cells inner refl refl) (level begun inner linkless (says page p (reads (content (codes "table" ∷ up)) (codes "<thead>\n<tr>\n")))) in
      says (row_end at cells all) (row_closes at cells all inner done) (reads (content inner) (codes "</thead>\n"))

  row_read : (at : Place) (cells : Trees) (page : Page) (up from : List (List ℕ)) (start : List ℕ) → Level (record at { kind = Cell }) cells → Linkless up → Read (content from) start (content (codes "tr" ∷ codes "tbody" ∷ codes "table" ∷ up)) → At page from → At (row_end at cells (nodes_page it (record at { kind = Cell }) cells (say page start))) (codes "tbody" ∷ codes "table" ∷ up)
  row_read at cells page up from start level linkless starts p =
      let inner = codes "tbody" ∷ codes "table" ∷ up in
      let all = nodes_page it (record at { kind = Cell }) cells (say page start) in
      let done : At all (codes "tr" ∷ inner) = subst (λ (names : List (List ℕ)). At all names) (row_open Cell cells inner refl refl) (level (say page start) inner linkless (says page p starts)) in
      row_closes at cells all inner done

  -- a cell, in a row
  abbrev th_in : List (List ℕ) → Option (List AlignKind) → List (List ℕ)
  th_in up columns = in_cell it.raw it.id_prefix (codes "tr" ∷ up) (codes "th") (th_starts it.raw it.id_prefix up) (reads (content (codes "tr" ∷ up)) (codes "<th>")) (reads (content (codes "th" ∷ codes "tr" ∷ up)) (codes "</th>\n")) columns

  th_reads : (up : List (List ℕ)) (columns : Option (List AlignKind)) → Read (content (codes "tr" ∷ up)) (cell_start (codes "th") columns) (content (th_in up columns))
  th_reads up columns = cell_reads it.raw it.id_prefix (codes "tr" ∷ up) (codes "th") (th_starts it.raw it.id_prefix up) (reads (content (codes "tr" ∷ up)) (codes "<th>")) (reads (content (codes "th" ∷ codes "tr" ∷ up)) (codes "</th>\n")) columns

  th_ends : (up : List (List ℕ)) (columns : Option (List AlignKind)) → Read (content (th_in up columns)) (cell_end (codes "th") columns) (content (codes "tr" ∷ up))
  th_ends up columns = cell_ends it.raw it.id_prefix (codes "tr" ∷ up) (codes "th") (th_starts it.raw it.id_prefix up) (reads (content (codes "tr" ∷ up)) (codes "<th>")) (reads (content (codes "th" ∷ codes "tr" ∷ up)) (codes "</th>\n")) columns

  abbrev td_in : List (List ℕ) → Option (List AlignKind) → List (List ℕ)
  td_in up columns = in_cell it.raw it.id_prefix (codes "tr" ∷ up) (codes "td") (td_starts it.raw it.id_prefix up) (reads (content (codes "tr" ∷ up)) (codes "<td>")) (reads (content (codes "td" ∷ codes "tr" ∷ up)) (codes "</td>\n")) columns

  td_reads : (up : List (List ℕ)) (columns : Option (List AlignKind)) → Read (content (codes "tr" ∷ up)) (cell_start (codes "td") columns) (content (td_in up columns))
  td_reads up columns = cell_reads it.raw it.id_prefix (codes "tr" ∷ up) (codes "td") (td_starts it.raw it.id_prefix up) (reads (content (codes "tr" ∷ up)) (codes "<td>")) (reads (content (codes "td" ∷ codes "tr" ∷ up)) (codes "</td>\n")) columns

  td_ends : (up : List (List ℕ)) (columns : Option (List AlignKind)) → Read (content (td_in up columns)) (cell_end (codes "td") columns) (content (codes "tr" ∷ up))
  td_ends up columns = cell_ends it.raw it.id_prefix (codes "tr" ∷ up) (codes "td") (td_starts it.raw it.id_prefix up) (reads (content (codes "tr" ∷ up)) (codes "<td>")) (reads (content (codes "td" ∷ codes "tr" ∷ up)) (codes "</td>\n")) columns

  -- its children, in a cell of either name
  cell_down : (columns : Option (List AlignKind)) (children : Trees) (page : Page) (up inner : List (List ℕ)) → Level (cell_place columns) children → Linkless inner → At page inner → At (nodes_page it (cell_place columns) children page) inner
  cell_down None children page up inner level linkless p = text_down false children page inner level linkless p
  cell_down (Some []) children page up inner level linkless p = hidden_down children page inner level p
  cell_down (Some (_ ∷ _)) children page up inner level linkless p = text_down false children page inner level linkless p

  th_linkless : (up : List (List ℕ)) (columns : Option (List AlignKind)) → Linkless up → Linkless (th_in up columns)
  th_linkless up None linkless = linkless
  th_linkless up (Some []) linkless = linkless
  th_linkless up (Some (_ ∷ _)) linkless = linkless

  td_linkless : (up : List (List ℕ)) (columns : Option (List AlignKind)) → Linkless up → Linkless (td_in up columns)
  td_linkless up None linkless = linkless
  td_linkless up (Some []) linkless = linkless
  td_linkless up (Some (_ ∷ _)) linkless = linkless

  cell_read : (columns : Option (List AlignKind)) (children : Trees) (page : Page) (up inner : List (List ℕ)) (start finish : List ℕ) → Level (cell_place columns) children → Linkless inner → Read (content (codes "tr" ∷ up)) start (content inner) → Read (content inner) finish (content (codes "tr" ∷ up)) → At page (codes "tr" ∷ up) → At (say (nodes_page it (cell_place columns) children (say page start)) finish) (codes "tr" ∷ up)
  cell_read columns children page up inner start finish level linkless starts finishes p = says (nodes_page it (cell_place columns) children (say page start)) (cell_down columns children (say page start) up inner level linkless (says page p starts)) finishes

  -- a node where its place is of a kind
  abbrev whole : Place → Label → Trees → Page → Page
  whole at label children page = left it at label children (nodes_page it (inside at label children) children (entered it at label children page))

  abbrev Whole : Label → Trees → Page → List (List ℕ) → Option (List AlignKind) → Bool → Kind → Type 0
  Whole label children page up columns bare kind =
      let at : Place = record { kind = kind; columns = columns; is_bare = bare } in
      Level (inside at label children) children → Fits kind up → At page (base kind up) → At (whole at label children page) (base (next kind) up)

  node_read : (columns : Option (List AlignKind)) (bare : Bool) (label : Label) (children : Trees) (page : Page) (up : List (List ℕ)) (kind : Kind) → Fine (is_no_html label) → Whole label children page up columns bare kind
  node_read columns bare label children page up kind fine =
      let place_of_kind : Kind → Place = λ k. record { kind = k; columns = columns; is_bare = bare } in
      by_kind (Whole label children page up columns bare)
      (λ level fits p. phrase_plainly false bare label children page up fine level fits p)
      (λ level fits p. phrase_plainly true bare label children page up fine level fits p)
      (λ level fits p. plainly bare Flow label children page up fine level fits tt p)
      (λ level fits p. plainly bare Tight label children page up fine level fits tt p)
      (λ level fits p. listed_read bare false (checked_of label) label children page up fine level fits p)
      (λ level fits p. listed_read bare true (checked_of label) label children page up fine level fits p)
      (λ level fits p. hidden_down children page up level p)
      (λ level fits p. header_read (place_of_kind FirstRow) children page up level fits p)
      (λ level fits p. row_read (place_of_kind SecondRow) children page up (codes "table" ∷ up) (codes "<tbody>\n<tr>\n") level fits (reads (content (codes "table" ∷ up)) (codes "<tbody>\n<tr>\n")) p)
      (λ level fits p. row_read (place_of_kind LaterRow) children page up (codes "tbody" ∷ codes "table" ∷ up) (codes "<tr>\n") level fits (reads (content (codes "tbody" ∷ codes "table" ∷ up)) (codes "<tr>\n")) p)
      (λ level fits p. cell_read columns children page up (th_in up columns) (cell_start (codes "th") columns) (cell_end (codes "th") columns) level (th_linkless up columns fits) (th_reads up columns) (th_ends up columns) p)
      (λ level fits p. cell_read columns children page up (td_in up columns) (cell_start (codes "td") columns) (cell_end (codes "td") columns) level (td_linkless up columns fits) (td_reads up columns) (td_ends up columns) p)
      (λ n. λ level fits p. plainly bare (Note n) label children page up fine level fits.1 fits.0 p)
      (λ n. λ level fits p. plainly bare (Tail n) label children page up fine level fits tt p)
      (λ c. λ level fits p. plainly bare (Task c) label children page up fine level fits tt p)
      kind

  -- a place before others leaves open what it does alone
  unended_base : (kind : Kind) (columns : Option (List AlignKind)) (bare : Bool) (up : List (List ℕ)) → (base (unended (record { kind = kind; columns = columns; is_bare = bare })).kind up ≡ base kind up) × (base (next (unended (record { kind = kind; columns = columns; is_bare = bare })).kind) up ≡ base (next kind) up)
  unended_base kind columns bare up = by_kind (λ k. (base (unended (record { kind = k; columns = columns; is_bare = bare })).kind up ≡ base k up) × (base (next (unended (record { kind = k; columns = columns; is_bare = bare })).kind) up ≡ base (next k) up)) (refl, refl) (refl, refl) (refl, refl) (refl, refl) (refl, refl) (refl, refl) (refl, refl) (refl, refl) (refl, refl) (refl, refl) (refl, refl) (refl, refl) (λ n. (refl, refl)) (λ n. (refl, refl)) (λ c. (refl, refl)) kind

  followed_base : (at : Place) (rest : Trees) (up : List (List ℕ)) → (base (followed at rest).kind up ≡ base at.kind up) × (base (next (followed at rest).kind) up ≡ base (next at.kind) up)
  followed_base at nothing up = (refl, refl)
  followed_base at (node _ _ _ _) up = unended_base at.kind at.columns at.is_bare up

  unended_fits : (kind : Kind) (columns : Option (List AlignKind)) (bare : Bool) (up : List (List ℕ)) → Fits kind up → Fits (unended (record { kind = kind; columns = columns; is_bare = bare })).kind up
  unended_fits kind columns bare up = by_kind (λ k. Fits k up → Fits (unended (record { kind = k; columns = columns; is_bare = bare })).kind up) (λ f. f) (λ f. f) (λ f. f) (λ f. f) (λ f. f) (λ f. f) (λ f. f) (λ f. f) (λ f. f) (λ f. f) (λ f. f) (λ f. f) (λ _ f. f) (λ _ f. f) (λ _ f. f) kind

  followed_fits : (at : Place) (rest : Trees) (up : List (List ℕ)) → Fits at.kind up → Fits (followed at rest).kind up
  followed_fits at nothing up fits = fits
  followed_fits at (node _ _ _ _) up fits = unended_fits at.kind at.columns at.is_bare up fits

  -- nodes in order
  nodes_read : (at : Place) (nodes : Trees) → Fine (is_free nodes) → Level at nodes
  nodes_read at nothing fine page up fits p = p
  nodes_read at (node label children _ rest) fine page up fits p =
      let held = not (passes it.raw) in
      let more = second_part held (is_no_html label) (is_free children && is_free rest) fine in
      let here = settled it (followed at rest) label page in
      let same = followed_base at rest up in
      let first : At page (base here.kind up) = subst (λ (names : List (List ℕ)). At page names) (sym same.0) p in
      let done : At (whole here label children page) (base (next here.kind) up) = node_read here.columns here.is_bare label children page up here.kind (first_part held (is_no_html label) (is_free children && is_free rest) fine) (nodes_read (inside here label children) children (first_part held (is_free children) (is_free rest) more)) (followed_fits at rest up fits) first in
      let now : At (whole here label children page) (base (after at).kind up) = subst (λ (names : List (List ℕ)). At (whole here label children page) names) (same.1 ∙ ap (λ (k : Kind). base k up) (sym (after_kind at.kind at.columns at.is_bare))) done in
      let fits_now : Fits (after at).kind up = subst (λ (k : Kind). Fits k up) (sym (after_kind at.kind at.columns at.is_bare)) (next_fits at.kind up fits) in
      subst (λ (k : Kind). At (nodes_page it (after at) rest (whole here label children page)) (base (ends k rest) up)) (after_kind at.kind at.columns at.is_bare) (nodes_read (after at) rest (second_part held (is_free children) (is_free rest) more) (whole here label children page) up fits_now now)

  tree_read : (at : Place) (tree : Tree) (page : Page) (up : List (List ℕ)) → Fine (is_free_tree tree) → Fits at.kind up → At page (base at.kind up) → At (tree_page it at tree page) (base (next at.kind) up)
  tree_read at tree page up fine fits p =
      let held = not (passes it.raw) in
      let here = settled it at tree.label page in
      node_read here.columns here.is_bare tree.label tree.children page up here.kind (first_part held (is_no_html tree.label) (is_free tree.children) fine) (nodes_read (inside here tree.label tree.children) tree.children (second_part held (is_no_html tree.label) (is_free tree.children) fine)) fits p

  -- the nodes of a tree are as the tree is
  abbrev AllFine : List Tree → Type 0
  AllFine [] = Unit {0}
  AllFine (tree ∷ nodes) = Fine (is_free_tree tree) × AllFine nodes

  fine_append : (first second : List Tree) → AllFine first → AllFine second → AllFine (first ++ second)
  fine_append [] second a b = b
  fine_append (tree ∷ first) second a b = (a.0, fine_append first second a.1 b)

  by_test : (found : Bool) (test : Tree → Bool) (first : Tree) (nodes : List Tree) (tree : Tree) → AllFine (first ∷ nodes) → cond found (Some first) (find test nodes) ≡ Some tree → (find test nodes ≡ Some tree → Fine (is_free_tree tree)) → Fine (is_free_tree tree)
  by_test true test first nodes tree all is later = subst (λ (t : Tree). Fine (is_free_tree t)) (some_is first tree is) all.0
  by_test false test first nodes tree all is later = later is

  walks_free : (nodes : Trees) → Fine (is_free nodes) → AllFine (walks nodes)
  walks_free nothing fine = tt
  walks_free (node label children here rest) fine =
      let held = not (passes it.raw) in
      let label_fine = first_part held (is_no_html label) (is_free children && is_free rest) fine in
      let more = second_part held (is_no_html label) (is_free children && is_free rest) fine in
      let children_fine = first_part held (is_free children) (is_free rest) more in
      (both_fine held (is_no_html label) (is_free children) label_fine children_fine, fine_append (walks children) (walks rest) (walks_free children children_fine) (walks_free rest (second_part held (is_free children) (is_free rest) more)))

  found_free : (test : Tree → Bool) (nodes : List Tree) (tree : Tree) → AllFine nodes → find test nodes ≡ Some tree → Fine (is_free_tree tree)
  found_free test [] tree all is = absurd (none-some tree is)
  found_free test (first ∷ nodes) tree all is = by_test (test first) test first nodes tree all is (found_free test nodes tree all.1)

  -- the footnotes
  with_note : (note : Option Tree) (most number : ℕ) (page : Page) (up : List (List ℕ)) → At page up → ((tree : Tree) → note ≡ Some tree → At (notes_page it most (number + 1) (tree_page it (place (Note number)) tree page)) up) → At (elim note [ None ↦ page | Some tree ↦ notes_page it most (number + 1) (tree_page it (place (Note number)) tree page) ]) up
  with_note None most number page up p later = p
  with_note (Some tree) most number page up p later = later tree refl

  with_calls : (call : Option Call) (most number : ℕ) (page : Page) (up : List (List ℕ)) → At page up → ((identifier : List ℕ) (tree : Tree) → footnote_in it.tree identifier ≡ Some tree → At (notes_page it most (number + 1) (tree_page it (place (Note number)) tree page)) up) → At (elim call [ None ↦ page | Some c ↦ elim (footnote_in it.tree c.identifier) [ None ↦ page | Some tree ↦ notes_page it most (number + 1) (tree_page it (place (Note number)) tree page) ] ]) up
  with_calls None most number page up p later = p
  with_calls (Some c) most number page up p later = with_note (footnote_in it.tree c.identifier) most number page up p (later c.identifier)

  module _ (fine : Fine (is_free_tree it.tree)) where
    note_free : (identifier : List ℕ) (tree : Tree) → footnote_in it.tree identifier ≡ Some tree → Fine (is_free_tree tree)
    note_free identifier tree is =
        let held = not (passes it.raw) in
        found_free (is_footnote identifier) (walk it.tree) tree (fine, walks_free it.tree.children (second_part held (is_no_html it.tree.label) (is_free it.tree.children) fine)) is

    notes_read : (most number : ℕ) (page : Page) (up : List (List ℕ)) → InList up × Blocks up → At page up → At (notes_page it most number page) up
    notes_read zero number page up fits p = p
    notes_read (suc most) number page up fits p =
        with_calls (slice_get page.calls number) most number page up p
        (λ identifier tree is. notes_read most (number + 1) (tree_page it (place (Note number)) tree page) up fits (tree_read (place (Note number)) tree page up (note_free identifier tree is) fits p))

    -- the section of the footnotes
    with_section : (calls : List Call) (page : Page) → At page [] → At (elim calls [ [] ↦ page | _ ∷ _ ↦ say (notes_page it most_notes 0 (say (on_new_line page) (section_start it.id_prefix))) (codes "</ol>\n</section>\n") ]) []
    with_section [] page p = p
    with_section (_ ∷ _) page p =
        let begin = say (on_new_line page) (section_start it.id_prefix) in
        let inside = codes "ol" ∷ (codes "section" ∷ []) in
        says (notes_page it most_notes 0 begin) (notes_read most_notes 0 begin inside (refl, (refl, refl)) (says (on_new_line page) (fresh p) (section_reads it.raw it.id_prefix))) (reads (content inside) (codes "</ol>\n</section>\n"))

    -- the page of a tree is safe
    pub html_safe : IsSafe (allowed_of it) (html it)
    unfolding IsSafe
    html_safe =
        let tree : At (tree_page it (place Flow) it.tree (blank (budget_of it.tree))) [] = tree_read (place Flow) it.tree (blank (budget_of it.tree)) [] fine (refl, refl) (reads (content []) []) in
        (with_section (tree_page it (place Flow) it.tree (blank (budget_of it.tree))).calls (tree_page it (place Flow) it.tree (blank (budget_of it.tree))) tree).is
