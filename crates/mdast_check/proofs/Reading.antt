-- Which nodes of a tree have text in them, asked from the last node to the first.
use Rattle.std.proofs.Common.{◌≡◌, ◌+◌, ◌-◌, ℕ, Bool, true, false, not, ◌&&◌, ◌||◌, List, [], ◌∷◌, ◌++◌, length, take, drop, map, reverse, Bor, refl, sym, ap, subst, ◌∙◌, append-nil, append_assoc, arith}
use Rattle.std.specs.List.{list_any}
use Rattle.std.proofs.Math.Seq.{drop-append_seam, take-append_seam}
use Rattle.std.proofs.lemmas.List.{length-append, length-drop, length-map, length-reverse, map-append, reverse-append, take_all}
use Rattle.std.proofs.lemmas.List.Sorted.{IsPermutation-reverse, list_any-IsPermutation}
use Rattle.markdown_nodes.specs.declared.mdast.Node.{Node}
use Rattle.markdown_nodes.specs.Access.{label_of, nodes_in}
use Rattle.markdown_nodes.specs.Tree.{Label, Tree, Trees, label_text_of, node, nothing, only, plain_label}
use Rattle.markdown_nodes.specs.View.{view, views}
use Rattle.markdown_nodes.specs.Walk.{walk, walks}
use Rattle.mdast_check.specs.Warnings.{have_text, is_empty}
use Rattle.markdown_nodes.proofs.WalkSteps.{children-are, label-is}

-- the nodes of a list, each with what is in it
abbrev pub trees_in : Trees → List Tree
trees_in nothing = []
trees_in (node label children position rest) = (record { label = label; children = children; position = position }) ∷ trees_in rest

length-trees_in : (nodes : List Node) → length (trees_in (views nodes)) ≡ length nodes
length-trees_in [] = refl
length-trees_in (first ∷ nodes) = grind (arith, length-trees_in nodes)

-- the nodes at the end of a walk whose parents are not among them
abbrev pub Orphans : List Tree → List Tree → Type 0
Orphans [] orphans = orphans ≡ []
Orphans (first ∷ rest) orphans = (others : List Tree) × (orphans ≡ first ∷ others) × Orphans rest (trees_in first.children ++ others)

Orphans-walks : (trees : Trees) (rest orphans : List Tree) → Orphans rest orphans → Orphans (walks trees ++ rest) (trees_in trees ++ orphans)
Orphans-walks nothing rest orphans are = are
Orphans-walks (node label children position others) rest orphans are = (
  trees_in others ++ orphans,
  refl,
  subst (λ (l : List Tree). Orphans l (trees_in children ++ (trees_in others ++ orphans)))
      (sym (append_assoc (walks children) (walks others) rest))
      (Orphans-walks children (walks others ++ rest) (trees_in others ++ orphans) (Orphans-walks others rest orphans are)),
)

Orphans-walk : (tree : Tree) → Orphans (walk tree) (tree ∷ [])
Orphans-walk tree = (
  [],
  refl,
  subst (λ (l : List Tree). Orphans l (trees_in tree.children ++ [])) (append-nil (walks tree.children)) (Orphans-walks tree.children [] [] refl),
)

-- they are known of each end of a walk
Orphans-end : (before rest orphans : List Tree) → Orphans (before ++ rest) orphans → (left : List Tree) × Orphans rest left
Orphans-end [] rest orphans are = (orphans, are)
Orphans-end (first ∷ before) rest orphans are = Orphans-end before rest (trees_in first.children ++ are.0) are.2

-- texts in a row are empty where each of them is
not_both : (a b : Bool) → not (a && b) ≡ (not a || not b)
not_both true b = refl
not_both false b = refl

is_empty-append : (a b : List ℕ) → is_empty (a ++ b) ≡ (is_empty a && is_empty b)
is_empty-append [] b = refl
is_empty-append (x ∷ a) b = grind arith

read-append : (a b : List ℕ) → not (is_empty (a ++ b)) ≡ (not (is_empty a) || not (is_empty b))
read-append a b = ap not (is_empty-append a b) ∙ not_both (is_empty a) (is_empty b)

-- whether there is text in a node, its own or that of what is in it
abbrev reads_as : Tree → Bool
reads_as tree = have_text (only tree)

-- nodes have text where one of them has
reads-any : (trees : Trees) → have_text trees ≡ list_any reads_as (trees_in trees)
reads-any nothing = refl
reads-any (node label children position rest) =
    let first = label_text_of label ++ plain_label children in
    read-append first (plain_label rest)
    ∙ (λ i. not (is_empty (sym (append-nil first) i)) || reads-any rest i)

or_swap : (a b : Bool) → (a || b) ≡ (b || a)
or_swap true true = refl
or_swap true false = refl
or_swap false true = refl
or_swap false false = refl

-- a node has text where its children have, or its own is not empty
reads_as-is : (tree : Tree) → reads_as tree ≡ (have_text tree.children || not (is_empty (label_text_of tree.label)))
reads_as-is tree =
    let own = label_text_of tree.label in
    ap (λ (s : List ℕ). not (is_empty s)) (append-nil (own ++ plain_label tree.children))
    ∙ read-append own (plain_label tree.children)
    ∙ or_swap (not (is_empty own)) (have_text tree.children)

-- answers in either order
any-map : {X : Type 0} (test : X → Bool) (items : List X) → list_any (λ (b : Bool). b) (map test items) ≡ list_any test items
any-map test [] = refl
any-map test (x ∷ items) = ap (λ (b : Bool). test x || b) (any-map test items)

any-reverse : (answers : List Bool) → list_any (λ (b : Bool). b) (reverse answers) ≡ list_any (λ (b : Bool). b) answers
any-reverse answers = sym (list_any-IsPermutation (λ (b : Bool). b) answers (reverse answers) (IsPermutation-reverse answers))

-- the last answers of a list are taken off
abbrev pub TakesLast : List Bool → ℕ → Bool → List Bool → Type 0
TakesLast old count any new = (rest last : List Bool) → length last ≡ count → old ≡ rest ++ last → (any ≡ list_any (λ (b : Bool). b) last) × (new ≡ rest)

at_seam : (whole total first second : ℕ) → whole ≡ total - second → total ≡ first + second → whole ≡ first
at_seam whole total first second is sums = omega arith

pub takes_last : (old shown : List Bool) (total count place : ℕ) (any : Bool) (new : List Bool) → total ≡ length old → shown ≡ old → place ≡ total - count → any ≡ list_any (λ (b : Bool). b) (take (length shown - place) (drop place shown)) → new ≡ take place old → TakesLast old count any new
takes_last old shown total count place any new sized shows begins says left = λ rest last counts is.
    let here : place ≡ length rest = at_seam place (length old) (length rest) count (begins ∙ ap (λ (n : ℕ). n - count) sized) (ap (λ (l : List Bool). length l) is ∙ length-append rest last ∙ ap (λ (n : ℕ). length rest + n) counts) in (
      says
          ∙ ap (λ (l : List Bool). list_any (λ (b : Bool). b) l) (take_all (length shown - place) (drop place shown) (omega (arith, length-drop place shown)))
          ∙ (λ i. list_any (λ (b : Bool). b) (drop (here i) ((shows ∙ is) i)))
          ∙ ap (λ (l : List Bool). list_any (λ (b : Bool). b) l) (drop-append_seam rest last),
      left
          ∙ (λ i. take (here i) (is i))
          ∙ take-append_seam rest last,
    )

-- a node behind a reference, as a tree
abbrev pub viewed : Bor Node → Tree
viewed it = view it.now

-- whether there is text in what a node contains
abbrev pub has_text : Tree → Bool
has_text tree = have_text tree.children

-- what is known after the last nodes of a walk: `done`
pub record ReadSoFar (tree : Tree) (nodes : List (Bor Node)) (texts orphans : List Bool) : Type 0 where
  pub done : List Tree
  pub whole : map viewed nodes ++ done ≡ walk tree
  pub read : reverse texts ≡ map has_text done
  pub known : (left : List Tree) → Orphans done left → orphans ≡ reverse (map reads_as left)

pub read_all : (tree : Tree) (nodes : List (Bor Node)) (texts orphans : List Bool) → ReadSoFar tree nodes texts orphans → nodes ≡ [] → reverse texts ≡ map has_text (walk tree)
read_all tree nodes texts orphans so_far none =
    so_far.read
    ∙ ap (λ (l : List Tree). map has_text l) (sym (ap (λ (l : List (Bor Node)). map viewed l ++ so_far.done) none) ∙ so_far.whole)

-- what the last answers say of a node, where its children and others have no parent yet
said_of : (it : Node) (others : List Tree) (orphans left : List Bool) (any : Bool) → TakesLast orphans (length (nodes_in it)) any left → orphans ≡ reverse (map reads_as (trees_in (view it).children ++ others)) → (any ≡ has_text (view it)) × (left ≡ reverse (map reads_as others))
said_of it others orphans left any takes are =
    let children = trees_in (view it).children in
    let last = reverse (map reads_as children) in
    let counts : length last ≡ length (nodes_in it) =
    length-reverse (map reads_as children)
    ∙ length-map children reads_as
    ∙ ap (λ (t : Trees). length (trees_in t)) (children-are it)
    ∙ length-trees_in (nodes_in it) in
    let is : orphans ≡ reverse (map reads_as others) ++ last =
    are
    ∙ ap (λ (l : List Bool). reverse l) (map-append reads_as children others)
    ∙ reverse-append (map reads_as children) (map reads_as others) in
    let both = takes (reverse (map reads_as others)) last counts is in
    (both.0 ∙ any-reverse (map reads_as children) ∙ any-map reads_as children ∙ sym (reads-any (view it).children), both.1)

-- one node more
pub reads : (tree : Tree) (nodes rest : List (Bor Node)) (here : Bor Node) (texts orphans left new_texts new_orphans : List Bool) (any own : Bool) → ReadSoFar tree nodes texts orphans → nodes ≡ rest ++ here ∷ [] → TakesLast orphans (length (nodes_in here.now)) any left → own ≡ not (is_empty (label_text_of (label_of here.now))) → new_texts ≡ texts ++ any ∷ [] → new_orphans ≡ left ++ (any || own) ∷ [] → ReadSoFar tree rest new_texts new_orphans
reads tree nodes rest here texts orphans left new_texts new_orphans any own so_far is takes owns puts_text puts_orphan =
    let first = view here.now in
    let whole : map viewed rest ++ (first ∷ so_far.done) ≡ walk tree =
    sym (append_assoc (map viewed rest) (first ∷ []) so_far.done)
    ∙ ap (λ (l : List Tree). l ++ so_far.done) (sym (map-append viewed rest (here ∷ [])) ∙ ap (λ (l : List (Bor Node)). map viewed l) (sym is))
    ∙ so_far.whole in
    let owned : own ≡ not (is_empty (label_text_of first.label)) = owns ∙ ap (λ (l : Label). not (is_empty (label_text_of l))) (sym (label-is here.now)) in
    let says : (others : List Tree) → Orphans so_far.done (trees_in first.children ++ others) → (any ≡ has_text first) × (left ≡ reverse (map reads_as others)) =
    λ others are. said_of here.now others orphans left any takes (so_far.known (trees_in first.children ++ others) are) in
    let some = Orphans-end (map viewed rest) (first ∷ so_far.done) (tree ∷ []) (subst (λ (l : List Tree). Orphans l (tree ∷ [])) (sym whole) (Orphans-walk tree)) in
    let inside : any ≡ has_text first = (says some.1.0 some.1.2).0 in
    let all : (any || own) ≡ reads_as first = (λ i. inside i || owned i) ∙ sym (reads_as-is first) in
    record {
      done = first ∷ so_far.done;
      whole = whole;
      read = ap (λ (l : List Bool). reverse l) puts_text ∙ reverse-append texts (any ∷ []) ∙ (λ i. inside i ∷ so_far.read i);
      known = λ orphaned are.
          (puts_orphan
          ∙ (λ i. (says are.0 are.2).1 i ++ all i ∷ [])
          ∙ sym (reverse-append (reads_as first ∷ []) (map reads_as are.0))
          ∙ sym (ap (λ (l : List Tree). reverse (map reads_as l)) are.1));
    }
