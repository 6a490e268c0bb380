-- The page of a tree has at most as many bytes as its bound.
use Rattle.std.proofs.Common.{◌≡◌, ℕ, ◌+◌, ◌*◌, ◌≤◌, zero, suc, Bool, true, false, cond, if◌then◌else◌, ltb, List, [], ◌∷◌, ◌++◌, length, Option, None, Some, codes, arith, refl, sym, ap, subst, ◌∙◌, add-one, slice_get}
use Rattle.std.specs.List.{find}
use Rattle.std.specs.Option.{option_eq}
use Rattle.std.specs.Str.{bytes_eq}
use Rattle.std.proofs.lemmas.Bool.{false≢true, le-ltb, lt-ltb, ltb-true}
use Rattle.std.proofs.lemmas.Option.{none-some}
use Rattle.std.proofs.lemmas.Slice.Eq.{bytes_eq-Decides}
use Rattle.markdown_nodes.specs.Tree.{Label, Tree, Trees, nothing, node, paragraph, footnote_definition}
use Rattle.markdown_nodes.specs.Walk.{walk, walks}
use Rattle.mdast_check.specs.References.{footnote_identifier_of}
use Rattle.markdown_html.specs.declared.place.Kind.TheVariants.{Flow, Note, Tail}
use Rattle.markdown_html.specs.Bounds.{bound, most_of, most_of_all}
use Rattle.markdown_html.specs.Elements.{back_references, note_start, section_start}
use Rattle.markdown_html.specs.Html.{Source, back_page, closed, ends_with_paragraph, entered, footnote_in, html, is_footnote, is_paragraph, left, most_notes, nodes_page, notes_page, opened, settled, tree_page}
use Rattle.markdown_html.specs.Page.{Call, Page, blank, index_of, on_new_line, say}
use Rattle.markdown_html.specs.Places.{Place, below, inside, place}
use Rattle.markdown_html.specs.Texts.{budget_of}
use Rattle.markdown_html.proofs.Amounts.{counted, flow_inner, inner_goes, node_goes, nodes_go, shown}
use Rattle.markdown_html.proofs.Distinct.{Distinct, distinct_kept, id_of_call, index_kept}
use Rattle.markdown_html.proofs.Growth.{Goes, Grows, added, closes, freshens, goes_on, node_most, opens, same, says, settled_affordable, size, stays, texts_after, within}
use Rattle.markdown_html.proofs.Owed.{begun, begun_ends, begun_fair, begun_less, begun_more, owed, owed_begins, owed_fair}
use Rattle.markdown_html.proofs.Short.{back_references_short, note_start_short, section_start_short, whole}

-- which footnotes are not yet written
abbrev is_written : ℕ → List Call → List ℕ → Bool
is_written number calls identifier = elim (index_of identifier calls) [ None ↦ false | Some index ↦ ltb index number ]

-- what a footnote adds where it is written
abbrev note_amount : (prefix : List ℕ) → Tree → ℕ
note_amount prefix tree = most_of prefix tree.label + shown prefix tree.children 2

abbrev one_unwritten : (prefix : List ℕ) (test : List ℕ → Bool) → Option (List ℕ) → Tree → ℕ
one_unwritten prefix test None tree = 0
one_unwritten prefix test (Some identifier) tree = if test identifier then 0 else note_amount prefix tree

-- what the footnotes among some nodes add that are not yet written
abbrev unwritten : (prefix : List ℕ) (test : List ℕ → Bool) → List Tree → ℕ
unwritten prefix test [] = 0
unwritten prefix test (tree ∷ trees) = one_unwritten prefix test (footnote_identifier_of tree.label) tree + unwritten prefix test trees

abbrev Above : (old new : List ℕ → Bool) → Type 0
Above old new = (identifier : List ℕ) → old identifier ≡ true → new identifier ≡ true

module _ (prefix : List ℕ) where
  fewer_test : (old new : Bool) (n : ℕ) → (old ≡ true → new ≡ true) → (if new then 0 else n) ≤ (if old then 0 else n)
  fewer_test true new n more = rw (more refl) (omega arith)
  fewer_test false true n more = omega arith
  fewer_test false false n more = omega arith

  fewer_one : (old new : List ℕ → Bool) → Above old new → (identifier : Option (List ℕ)) (tree : Tree) → one_unwritten prefix new identifier tree ≤ one_unwritten prefix old identifier tree
  fewer_one old new more None tree = omega arith
  fewer_one old new more (Some identifier) tree = fewer_test (old identifier) (new identifier) (note_amount prefix tree) (more identifier)

  fewer : (old new : List ℕ → Bool) → Above old new → (trees : List Tree) → unwritten prefix new trees ≤ unwritten prefix old trees
  fewer old new more [] = omega arith
  fewer old new more (tree ∷ trees) =
      let first = fewer_one old new more (footnote_identifier_of tree.label) tree in
      let later = fewer old new more trees in
      omega (arith, first, later)

  some_tree : {first tree : Tree} → Some first ≡ Some tree → first ≡ tree
  some_tree {first} is = ap (λ (o : Option Tree). elim o [ None ↦ first | Some t ↦ t ]) is

  -- a footnote that is written now
  taken_one : (old new : List ℕ → Bool) (identifier : List ℕ) (note first : Tree) (own : Option (List ℕ)) (rest : Option Tree) (old_rest new_rest : ℕ) → Above old new → old identifier ≡ false → new identifier ≡ true → new_rest ≤ old_rest → (rest ≡ Some note → new_rest + note_amount prefix note ≤ old_rest) → cond (option_eq bytes_eq own (Some identifier)) (Some first) rest ≡ Some note → one_unwritten prefix new own first + new_rest + note_amount prefix note ≤ one_unwritten prefix old own first + old_rest
  taken_one old new identifier note first None rest old_rest new_rest more before now fewer_rest later is = let take = later is in omega (arith, take)
  taken_one old new identifier note first (Some own) rest old_rest new_rest more before now fewer_rest later is = by (bytes_eq own identifier) refl
    where
      by : (same : Bool) → bytes_eq own identifier ≡ same → one_unwritten prefix new (Some own) first + new_rest + note_amount prefix note ≤ one_unwritten prefix old (Some own) first + old_rest
      by true e =
          let equal = (bytes_eq-Decides own identifier).0 e in
          let found = some_tree (sym (ap (λ (b : Bool). cond b (Some first) rest) e) ∙ is) in
          let was = ap old equal ∙ before in
          let will = ap new equal ∙ now in
          let zeroes = ap (λ (b : Bool). if b then 0 else note_amount prefix first) will in
          let amounts = ap (λ (b : Bool). if b then 0 else note_amount prefix first) was in
          let same_amount = ap (λ (t : Tree). note_amount prefix t) found in
          omega (arith, zeroes, amounts, same_amount, fewer_rest)
      by false e =
          let take = later (sym (ap (λ (b : Bool). cond b (Some first) rest) e) ∙ is) in
          let one = fewer_one old new more (Some own) first in
          omega (arith, take, one)

  taken : (old new : List ℕ → Bool) (identifier : List ℕ) (note : Tree) → Above old new → old identifier ≡ false → new identifier ≡ true → (trees : List Tree) → find (is_footnote identifier) trees ≡ Some note → unwritten prefix new trees + note_amount prefix note ≤ unwritten prefix old trees
  taken old new identifier note more before now [] is = absurd (none-some note is)
  taken old new identifier note more before now (first ∷ trees) is =
      taken_one old new identifier note first (footnote_identifier_of first.label) (find (is_footnote identifier) trees) (unwritten prefix old trees) (unwritten prefix new trees) more before now (fewer old new more trees) (taken old new identifier note more before now trees) is

  -- what is shown in a text, in a cell and among blocks, and in the footnotes, is at most four times everything
  abbrev none_written : List ℕ → Bool
  none_written identifier = false

  unwritten-append : (test : List ℕ → Bool) (first second : List Tree) → unwritten prefix test (first ++ second) ≡ unwritten prefix test first + unwritten prefix test second
  unwritten-append test [] second = omega arith
  unwritten-append test (tree ∷ first) second = let later = unwritten-append test first second in omega (arith, later)

  all_shown : (nodes : Trees) → shown prefix nodes 0 + shown prefix nodes 1 + shown prefix nodes 2 + unwritten prefix none_written (walks nodes) ≤ 4 * most_of_all prefix nodes
  all_shown nothing = omega arith
  all_shown (node (footnote_definition identifier label) children here rest) =
      let split = unwritten-append none_written (walks children) (walks rest) in
      let inner = all_shown children in
      let later = all_shown rest in
      omega (arith, split, inner, later)
  all_shown (node _ children here rest) =
      let split = unwritten-append none_written (walks children) (walks rest) in
      let inner = all_shown children in
      let later = all_shown rest in
      omega (arith, split, inner, later)

  tree_shown : (label : Label) (tree : Tree) → tree.label ≡ label → most_of prefix label + counted label (shown prefix tree.children) 2 + unwritten prefix none_written (walk tree) ≤ 4 * (most_of prefix tree.label + most_of_all prefix tree.children)
  tree_shown (footnote_definition identifier label) tree is =
      let inner = all_shown tree.children in
      let own = ap (λ (l : Label). most_of prefix l) is in
      let note = ap (λ (l : Label). one_unwritten prefix none_written (footnote_identifier_of l) tree) is in
      omega (arith, inner, own, note)
  tree_shown label tree is =
      let inner = all_shown tree.children in
      let own = ap (λ (l : Label). most_of prefix l) is in
      let note = ap (λ (l : Label). one_unwritten prefix none_written (footnote_identifier_of l) tree) is in
      omega (arith, inner, own, note)

-- the node that is found passes the test
by_test : (test : Tree → Bool) (first tree : Tree) (rest : Option Tree) (found : Bool) → test first ≡ found → cond found (Some first) rest ≡ Some tree → (rest ≡ Some tree → test tree ≡ true) → test tree ≡ true
by_test test first tree rest true is some later = subst (λ (t : Tree). test t ≡ true) (ap (λ (o : Option Tree). elim o [ None ↦ first | Some t ↦ t ]) some) is
by_test test first tree rest false is some later = later some

found_passes : (test : Tree → Bool) (trees : List Tree) (tree : Tree) → find test trees ≡ Some tree → test tree ≡ true
found_passes test [] tree is = absurd (none-some tree is)
found_passes test (first ∷ trees) tree is = by_test test first tree (find test trees) (test first) refl is (found_passes test trees tree)

-- a footnote definition
abbrev IsNote : Label → Type 0
IsNote (footnote_definition _ _) = Unit {0}
IsNote _ = ⊥

note_label : (identifier : List ℕ) (label : Label) → option_eq bytes_eq (footnote_identifier_of label) (Some identifier) ≡ true → IsNote label
note_label identifier (footnote_definition _ _) is = tt
note_label identifier _ is = absurd (false≢true is)

module _ (it : Source) where
  abbrev node_page : Place → Label → Trees → Page → Page
  node_page at label children page = left it at label children (nodes_page it (inside at label children) children (entered it at label children page))

  abbrev Owed : ℕ → List Call → ℕ
  Owed n = owed it.id_prefix n

  abbrev Begun : ℕ → List Call → ℕ
  Begun n = begun it.id_prefix n

  -- what is owed after the nodes of a footnote: its last paragraph has the references back
  abbrev Left : (ends : Bool) → ℕ → List Call → ℕ
  Left true n = Owed (suc n)
  Left false n = Begun n

  back_goes : (n : ℕ) (page : Page) (found : Option Call) → slice_get page.calls n ≡ found → Goes (Begun n) (Owed (suc n)) page (elim found [ None ↦ page | Some call ↦ say page (back_references it.id_prefix call.identifier (n + 1) call.count) ]) 0
  back_goes n page None is = let more = begun_more it.id_prefix n page.calls in record { grows = same; fits = omega (arith, more) }
  back_goes n page (Some call) is =
      let ends = begun_ends it.id_prefix n page.calls call is in
      let longer = added page.text (back_references it.id_prefix call.identifier (n + 1) call.count) (back_references_short it.id_prefix call.identifier (n + 1) call.count) in
      record { grows = same; fits = omega (arith, ends, longer) }

  goes_back : (n : ℕ) (page : Page) → Goes (Begun n) (Owed (suc n)) page (back_page it n page) 0
  goes_back n page = back_goes n page (slice_get page.calls n) refl

  tail_closes : (bare : Bool) (n : ℕ) (label : Label) (children : Trees) (page : Page) → Goes (Begun n) (Left (is_paragraph label) n) page (closed it bare (Tail n) label children page) (texts_after label + 60)
  tail_closes bare n paragraph children page = within (goes_on (goes_back n page) (says (Owed (suc n)) (back_page it n page) (whole (codes "</p>\n")))) (omega arith)
  tail_closes bare n label children page = closes it (Begun n) (begun_fair it.id_prefix n) bare (Tail n) label children page tt tt

  last_goes : (n : ℕ) (label : Label) (children : Trees) (page : Page) → Goes (Begun n) (Left (is_paragraph label) n) page (node_page (settled it (place (Tail n)) label page) label children page) (most_of it.id_prefix label + counted label (shown it.id_prefix children) 2)
  last_goes n label children page =
      let fair = begun_fair it.id_prefix n in
      let bare = (settled it (place (Tail n)) label page).is_bare in
      let inner = below (Tail n) label children in
      let opening = opened it bare (Tail n) label children page in
      let filled = nodes_page it inner children opening in
      let all = node_most it (Begun n) fair label in
      within
      (goes_on
      (goes_on
      (opens it (Begun n) fair bare (Tail n) label children page tt (settled_affordable it (place (Tail n)) label page))
      (inner_goes it (Begun n) fair 2 inner label children opening (flow_inner (Tail n) (tt, omega arith) refl label children) (λ p o. nodes_go it (Begun n) fair inner children p o)))
      (tail_closes bare n label children filled))
      (omega (arith, all))

  tail_goes : (n : ℕ) (nodes : Trees) (page : Page) → Goes (Begun n) (Left (ends_with_paragraph nodes) n) page (nodes_page it (place (Tail n)) nodes page) (shown it.id_prefix nodes 2)
  tail_goes n nothing page = stays (Begun n) page
  tail_goes n (node label children _ nothing) page = within (last_goes n label children page) (omega arith)
  tail_goes n (node label children _ (node next inner there rest)) page =
      let fair = begun_fair it.id_prefix n in
      let here = settled it (place Flow) label page in
      let first = node_goes it (Begun n) fair here label children page tt (settled_affordable it (place Flow) label page) (λ p o. nodes_go it (Begun n) fair (inside here label children) children p o) in
      within (goes_on first (tail_goes n (node next inner there rest) (node_page here label children page))) (omega arith)

  -- a footnote
  note_starts : (n : ℕ) (page : Page) (found : Option Call) → slice_get page.calls n ≡ found → Goes (Owed n) (Begun n) page (say page (elim found [ None ↦ codes "<li>\n" | Some call ↦ note_start it.id_prefix call.identifier ])) 5
  note_starts n page None is =
      let less = begun_less it.id_prefix n page.calls in
      let longer = added page.text (codes "<li>\n") (whole (codes "<li>\n")) in
      record { grows = same; fits = omega (arith, less, longer) }
  note_starts n page (Some call) is =
      let begins = owed_begins it.id_prefix n page.calls call is in
      let longer = added page.text (note_start it.id_prefix call.identifier) (note_start_short it.id_prefix call.identifier) in
      record { grows = same; fits = omega (arith, begins, longer) }

  note_ends : (ends : Bool) (n : ℕ) (page : Page) → Goes (Left ends n) (Owed (suc n)) page (say (if ends then page else say (back_page it n (on_new_line page)) (codes "\n")) (codes "</li>\n")) 8
  note_ends true n page = within (says (Owed (suc n)) page (whole (codes "</li>\n"))) (omega arith)
  note_ends false n page =
      let back = back_page it n (on_new_line page) in
      within (goes_on (goes_on (goes_on (freshens (Begun n) page) (goes_back n (on_new_line page))) (says (Owed (suc n)) back (whole (codes "\n")))) (says (Owed (suc n)) (say back (codes "\n")) (whole (codes "</li>\n")))) (omega arith)

  note_goes : (n : ℕ) (label : Label) (children : Trees) (page : Page) → IsNote label → Goes (Owed n) (Owed (suc n)) page (node_page (settled it (place (Note n)) label page) label children page) (most_of it.id_prefix label + shown it.id_prefix children 2)
  note_goes n (footnote_definition identifier label) children page is =
      let start = note_starts n page (slice_get page.calls n) refl in
      let opening = say page (elim (slice_get page.calls n) [ None ↦ codes "<li>\n" | Some call ↦ note_start it.id_prefix call.identifier ]) in
      let filled = nodes_page it (place (Tail n)) children opening in
      within (goes_on (goes_on start (tail_goes n children opening)) (note_ends (ends_with_paragraph children) n filled)) (omega arith)
  note_goes n _ children page none = absurd none

  -- the footnotes
  abbrev Written : (most number : ℕ) → Page → Type 0
  Written most number page = length (notes_page it most number page).text ≤ size (Owed number) page + unwritten it.id_prefix (is_written number page.calls) (walk it.tree)

  above_step : (number index : ℕ) (from to : Page) (identifier : List ℕ) (found : Option ℕ) → Grows from.calls to.calls → index_of identifier from.calls ≡ found → (elim found [ None ↦ false | Some i ↦ ltb i number ]) ≡ true → is_written (number + 1) to.calls identifier ≡ true
  above_step number index from to identifier None grows is written = absurd (false≢true written)
  above_step number index from to identifier (Some i) grows is written =
      let less = ltb-true i number written in
      ap (λ (o : Option ℕ). elim o [ None ↦ false | Some j ↦ ltb j (number + 1) ]) (index_kept identifier i grows is)
      ∙ lt-ltb i (number + 1) (omega (arith, less))

  with_note : (most number : ℕ) (page : Page) (call : Call) (note : Option Tree) → Distinct page.calls → slice_get page.calls number ≡ Some call → footnote_in it.tree call.identifier ≡ note → ((next : Page) → Distinct next.calls → Written most (number + 1) next) → length (elim note as (λ x. Page) [ None ↦ page | Some tree ↦ notes_page it most (number + 1) (tree_page it (place (Note number)) tree page) ]).text ≤ size (Owed number) page + unwritten it.id_prefix (is_written number page.calls) (walk it.tree)
  with_note most number page call None distinct is found later = omega arith
  with_note most number page call (Some note) distinct is found later =
      let next = tree_page it (place (Note number)) note page in
      let goes = note_goes number note.label note.children page (note_label call.identifier note.label (found_passes (is_footnote call.identifier) (walk it.tree) note found)) in
      let rest = later next (distinct_kept goes.grows distinct) in
      let own = distinct number call.identifier (id_of_call page.calls number call is) in
      let before = ap (λ (o : Option ℕ). elim o [ None ↦ false | Some i ↦ ltb i number ]) own ∙ le-ltb number number (omega arith) in
      let now = ap (λ (o : Option ℕ). elim o [ None ↦ false | Some i ↦ ltb i (number + 1) ]) (index_kept call.identifier number goes.grows own) ∙ lt-ltb number (number + 1) (omega arith) in
      let above : Above (is_written number page.calls) (is_written (number + 1) next.calls) = λ identifier written. above_step number 0 page next identifier (index_of identifier page.calls) goes.grows refl written in
      let take = taken it.id_prefix (is_written number page.calls) (is_written (number + 1) next.calls) call.identifier note above before now (walk it.tree) found in
      let one = ap (λ (n : ℕ). owed it.id_prefix n next.calls) (add-one number) in
      let grown = goes.fits in
      omega (arith, grown, rest, take, one)

  with_called : (most number : ℕ) (page : Page) (call : Option Call) → Distinct page.calls → slice_get page.calls number ≡ call → ((next : Page) → Distinct next.calls → Written most (number + 1) next) → length (elim call as (λ x. Page) [ None ↦ page | Some c ↦ elim (footnote_in it.tree c.identifier) [ None ↦ page | Some tree ↦ notes_page it most (number + 1) (tree_page it (place (Note number)) tree page) ] ]).text ≤ size (Owed number) page + unwritten it.id_prefix (is_written number page.calls) (walk it.tree)
  with_called most number page None distinct is later = omega arith
  with_called most number page (Some call) distinct is later = with_note most number page call (footnote_in it.tree call.identifier) distinct is refl later

  notes_written : (most number : ℕ) (page : Page) → Distinct page.calls → Written most number page
  notes_written zero number page distinct = omega arith
  notes_written (suc most) number page distinct = with_called most number page (slice_get page.calls number) distinct refl (λ next d. notes_written most (number + 1) next d)

  -- the section of the footnotes
  section_fits : (calls : List Call) (page : Page) → Distinct page.calls → length (elim calls as (λ x. Page) [ [] ↦ page | _ ∷ _ ↦ say (notes_page it most_notes 0 (say (on_new_line page) (section_start it.id_prefix))) (codes "</ol>\n</section>\n") ]).text ≤ size (Owed 0) page + unwritten it.id_prefix (none_written it.id_prefix) (walk it.tree) + (6 * length it.id_prefix + 420)
  section_fits [] page distinct = omega arith
  section_fits (_ ∷ _) page distinct =
      let beginning = say (on_new_line page) (section_start it.id_prefix) in
      let goes = (goes_on (freshens (Owed 0) page) (says (Owed 0) (on_new_line page) (section_start_short it.id_prefix))).fits in
      let notes = notes_written most_notes 0 beginning distinct in
      let all = fewer it.id_prefix (none_written it.id_prefix) (is_written 0 beginning.calls) (λ identifier none. absurd (false≢true none)) (walk it.tree) in
      let longer = added (notes_page it most_notes 0 beginning).text (codes "</ol>\n</section>\n") (whole (codes "</ol>\n</section>\n")) in
      omega (arith, goes, notes, all, longer)

  -- no page is longer
  pub html_bounded : length (html it) ≤ bound it.id_prefix it.tree
  unfolding bound
  html_bounded =
      let start = blank (budget_of it.tree) in
      let label = it.tree.label in
      let children = it.tree.children in
      let fair = owed_fair it.id_prefix 0 in
      let here = settled it (place Flow) label start in
      let tree = node_goes it (Owed 0) fair here label children start tt (settled_affordable it (place Flow) label start) (λ p o. nodes_go it (Owed 0) fair (inside here label children) children p o) in
      let page = tree_page it (place Flow) it.tree start in
      let grown = tree.fits in
      let section = section_fits page.calls page (distinct_kept tree.grows (λ n text is. absurd (none-some text is))) in
      let all = tree_shown it.id_prefix label it.tree refl in
      omega (arith, grown, section, all)
