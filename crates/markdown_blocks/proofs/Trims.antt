-- What is left of the nodes of an item with a mark.
use Rattle.std.proofs.Common.{◌≡◌, ◌<◌, ℕ, ◌==◌, false, true, List, [], ◌∷◌, drop, length, slice_index_or, slice_set, Option, Some, None, option_map, string_bytes, Bool, refl, sym, ap, ◌∙◌, arith}
use Rattle.std.proofs.lemmas.Bool.Decides.{nat_tests}
use Rattle.markdown_nodes.specs.Access.{label_of}
use Rattle.markdown_nodes.specs.declared.mdast.Node.{Node}
use Rattle.markdown_nodes.specs.declared.mdast.Node.TheVariants as nodes
use Rattle.markdown_nodes.specs.Kinds.{Paragraph}
use Rattle.markdown_kinds.specs.declared.Text.{Text}
use Rattle.markdown_events.specs.declared.unist.Point.{Point}
use Rattle.markdown_events.specs.declared.unist.Position.{Position}
use Rattle.markdown_nodes.specs.Tree.{Label, Trees, Tree, before, node, nothing, paragraph, text}
use Rattle.markdown_nodes.specs.View.{view, views}
use Rattle.markdown_nodes.proofs.Views.{view-Paragraph, view-Text, view-is}
use Rattle.markdown_steps.specs.Consequences.{is_text}
use Rattle.markdown_blocks.specs.TaskWalks.{first_cut, paragraph_before, text_cut}
use Rattle.markdown_grammar.specs.Tasks.{after_blank, from_point, task, trimmed_text}

-- ---- The first node of a list

-- the list is that node and the rest
first_and_rest : (ns : List Node) (n : ℕ) (first : Node) → n ≡ length ns → 0 < n → first ≡ slice_index_or ns 0 first → ns ≡ first ∷ drop 1 ns
first_and_rest [] n first count some at = absurd (omega arith)
first_and_rest (m ∷ ns) n first count some at = ap (λ (x : Node). x ∷ ns) (sym at)

-- the list with another first node
pub with_first : (ns : List Node) (n : ℕ) (first new : Node) → n ≡ length ns → 0 < n → first ≡ slice_index_or ns 0 first → views (slice_set ns 0 new) ≡ before (view new) (views (drop 1 ns))
with_first [] n first new count some at = absurd (omega arith)
with_first (m ∷ ns) n first new count some at = refl

pub first_views : (ns : List Node) (n : ℕ) (first : Node) → n ≡ length ns → 0 < n → first ≡ slice_index_or ns 0 first → views ns ≡ before (view first) (views (drop 1 ns))
first_views ns n first count some at = ap views (first_and_rest ns n first count some at)

-- ---- A text that is cut

stays : (bs : List ℕ) (p : Option Position) (others : Trees) → text_cut bs p ≡ None → first_cut (node (text bs) nothing p others) ≡ None
stays [] p others e = refl
stays (b ∷ bs) None others e = refl
stays (b ∷ bs) (Some at) others e = cc

loses : (bs left : List ℕ) (p : Option Position) (start : Point) (others : Trees) → text_cut bs p ≡ Some (left, start) → first_cut (node (text bs) nothing p others) ≡ Some (trimmed_text (left, start) p others, start)
loses [] left p start others e = cc
loses (b ∷ bs) left None start others e = cc
loses (b ∷ bs) left (Some at) start others e =
    let cut : after_blank (b ∷ bs) at.start ≡ (left, start) = cc in
    ap (λ (x : List ℕ × Point). Some (trimmed_text x (Some at) others, x.1)) cut

other_stays : (l : Label) (c : Trees) (p : Option Position) (rest : Trees) → is_text l ≡ false → first_cut (node l c p rest) ≡ None
other_stays (text v) c p rest h = let z : ⊥ = cc in absurd z
other_stays l c p rest h = refl

-- ---- Of the program

pub not_cut : (ns : List Node) (n : ℕ) (first : Node) → n ≡ length ns → 0 < n → first ≡ slice_index_or ns 0 first → is_text (view first).label ≡ false → None ≡ first_cut (views ns)
not_cut ns n first count some at none =
    sym (ap first_cut (first_views ns n first count some at) ∙ other_stays (view first).label (view first).children (view first).position (views (drop 1 ns)) none)

first_text : (ns : List Node) (n : ℕ) (first : Node) (t lent : Text) → n ≡ length ns → 0 < n → first ≡ slice_index_or ns 0 first → first ≡ nodes.Text t → lent ≡ t
    → views ns ≡ node (text (string_bytes lent.value)) nothing lent.position (views (drop 1 ns))
first_text ns n first t lent count some at is same =
    first_views ns n first count some at
    ∙ ap (λ (x : Node). before (view x) (views (drop 1 ns))) is
    ∙ ap (λ (x : Tree). before x (views (drop 1 ns))) (view-Text t)
    ∙ ap (λ (x : Text). node (text (string_bytes x.value)) nothing x.position (views (drop 1 ns))) (sym same)

pub text_stays : (ns : List Node) (n : ℕ) (first : Node) (t lent new : Text) → n ≡ length ns → 0 < n → first ≡ slice_index_or ns 0 first → first ≡ nodes.Text t → lent ≡ t
    → option_map (λ (start : Point). (string_bytes new.value, start)) None ≡ text_cut (string_bytes lent.value) lent.position → None ≡ first_cut (views ns)
text_stays ns n first t lent new count some at is same cut =
    sym (ap first_cut (first_text ns n first t lent count some at is same) ∙ stays (string_bytes lent.value) lent.position (views (drop 1 ns)) (sym cut))

text_loses : (ns : List Node) (n : ℕ) (first : Node) (t lent : Text) (left : List ℕ) (start : Point) → n ≡ length ns → 0 < n → first ≡ slice_index_or ns 0 first → first ≡ nodes.Text t → lent ≡ t
    → Some (left, start) ≡ text_cut (string_bytes lent.value) lent.position → first_cut (views ns) ≡ Some (trimmed_text (left, start) lent.position (views (drop 1 ns)), start)
text_loses ns n first t lent left start count some at is same cut =
    ap first_cut (first_text ns n first t lent count some at is same) ∙ loses (string_bytes lent.value) left lent.position start (views (drop 1 ns)) (sym cut)

empty_is : (bs : List ℕ) → (length bs == 0) ≡ true → bs ≡ []
empty_is [] h = refl
empty_is (b ∷ bs) h = absurd (grind (arith, nat_tests))

-- a text that is empty then is gone
pub text_goes : (ns : List Node) (n : ℕ) (first : Node) (t lent : Text) (left : List ℕ) (start : Point) (items new_items : List Node) (put : Node)
    → n ≡ length ns → 0 < n → first ≡ slice_index_or ns 0 first → first ≡ nodes.Text t → lent ≡ t
    → Some (left, start) ≡ text_cut (string_bytes lent.value) lent.position → (length left == 0) ≡ true → items ≡ slice_set ns 0 put → new_items ≡ drop 1 items
    → Some (views new_items, start) ≡ first_cut (views ns)
text_goes ns n first t lent left start items new_items put count some at is same cut none set rest =
    let gone : views new_items ≡ views (drop 1 ns) = ap views (rest ∙ ap (drop 1) set) ∙ after_first ns put in
    ap (λ (ts : Trees). Some (ts, start)) gone
    ∙ ap (λ (bs : List ℕ). Some (trimmed_text (bs, start) lent.position (views (drop 1 ns)), start)) (sym (empty_is left none))
    ∙ sym (text_loses ns n first t lent left start count some at is same cut)
  where
    after_first : (ms : List Node) (new : Node) → views (drop 1 (slice_set ms 0 new)) ≡ views (drop 1 ms)
    after_first [] new = refl
    after_first (m ∷ ms) new = refl

-- another starts later
pub text_starts : (ns : List Node) (n : ℕ) (first : Node) (t lent new : Text) (start : Point)
    → n ≡ length ns → 0 < n → first ≡ slice_index_or ns 0 first → first ≡ nodes.Text t → lent ≡ t
    → Some (string_bytes new.value, start) ≡ text_cut (string_bytes lent.value) lent.position → new.position ≡ from_point start lent.position → (length (string_bytes new.value) == 0) ≡ false
    → Some (views (slice_set ns 0 (nodes.Text new)), start) ≡ first_cut (views ns)
text_starts ns n first t lent new start count some at is same cut place left =
    let rest = views (drop 1 ns) in
    ap (λ (ts : Trees). Some (ts, start))
    (with_first ns n first (nodes.Text new) count some at ∙ ap (λ (x : Tree). before x rest) (view-Text new)
    ∙ ap (λ (p : Option Position). node (text (string_bytes new.value)) nothing p rest) place
    ∙ kept (string_bytes new.value) left)
    ∙ sym (text_loses ns n first t lent (string_bytes new.value) start count some at is same cut)
  where
    kept : (bs : List ℕ) → (length bs == 0) ≡ false → node (text bs) nothing (from_point start lent.position) (views (drop 1 ns)) ≡ trimmed_text (bs, start) lent.position (views (drop 1 ns))
    kept [] h = cc
    kept (b ∷ bs) h = refl

-- ---- The paragraph, and the nodes of the item

-- a node that is no paragraph stays
abbrev pub is_paragraph : Label → Bool
is_paragraph paragraph = true
is_paragraph l = false

label_stays : (l : Label) (c : Trees) (p : Option Position) (rest : Trees) → is_paragraph l ≡ false → task (node l c p rest) ≡ node l c p rest
label_stays paragraph c p rest h = cc
label_stays l c p rest h = refl

-- the nodes of an item, by the first of them
pub nodes_stay : (ns : List Node) (n : ℕ) (first : Node) → n ≡ length ns → 0 < n → first ≡ slice_index_or ns 0 first → is_paragraph (label_of first) ≡ false
    → views (slice_set ns 0 first) ≡ task (views ns)
nodes_stay ns n first count some at none =
    let rest = views (drop 1 ns) in
    with_first ns n first first count some at
    ∙ sym (ap task (first_views ns n first count some at) ∙ label_stays (view first).label (view first).children (view first).position rest (ap (λ (x : Tree). is_paragraph x.label) (view-is first) ∙ none))

pub paragraph_trimmed : (ns : List Node) (n : ℕ) (first : Node) (made lent new : Paragraph) → n ≡ length ns → 0 < n → first ≡ slice_index_or ns 0 first → first ≡ nodes.Paragraph made → lent ≡ made
    → ((rest : Trees) → paragraph_before new rest ≡ task (paragraph_before lent rest)) → views (slice_set ns 0 (nodes.Paragraph new)) ≡ task (views ns)
paragraph_trimmed ns n first made lent new count some at is same trims =
    let rest = views (drop 1 ns) in
    with_first ns n first (nodes.Paragraph new) count some at
    ∙ ap (λ (x : Tree). before x rest) (view-Paragraph new)
    ∙ trims rest
    ∙ ap (λ (x : Paragraph). task (paragraph_before x rest)) same
    ∙ sym (ap task (first_views ns n first count some at ∙ ap (λ (x : Node). before (view x) rest) is ∙ ap (λ (x : Tree). before x rest) (view-Paragraph made)))
