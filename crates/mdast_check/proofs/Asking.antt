-- The open references, as they are asked for.
use Rattle.std.proofs.Common.{◌≡◌, ℕ, Bool, true, false, not, cond, List, [], ◌∷◌, ◌++◌, Option, None, Some, Bor, refl, sym, ap, ◌∙◌, append-nil, filter}
use Rattle.std.specs.Prelude.{option_map}
use Rattle.std.specs.List.{cons_option, filter_map, list_any}
use Rattle.std.specs.Str.{bytes_eq}
use Rattle.markdown_events.specs.declared.unist.Position.{Position}
use Rattle.markdown_nodes.specs.declared.mdast.Node.{Node}
use Rattle.markdown_nodes.specs.Access.{label_of, position_of}
use Rattle.markdown_nodes.specs.Tree.{Tree}
use Rattle.markdown_nodes.specs.View.{view}
use Rattle.markdown_nodes.proofs.Views.{view-is}
use Rattle.mdast_check.specs.Asking.{IsKnown, answered, open_node, unless}
use Rattle.mdast_check.specs.References.{Reference, answers, is_open, open_in, reference, refers_to}
use Rattle.markdown_nodes.specs.Walk.{walk}
use Rattle.mdast_check.specs.declared.references.Known.{Known}
use Rattle.mdast_check.specs.declared.references.OpenKind.{OpenKind}
use Rattle.mdast_check.specs.declared.references.OpenKind.TheVariants.{Link, Image, Footnote}

-- what the code reads of a reference
abbrev pub read : OpenKind × Bor (List ℕ) → OpenKind × List ℕ
read to = (to.0, to.1.now)

-- a reference at a position
abbrev at : Option Position → OpenKind × List ℕ → Reference
at position to = record { kind = to.0; identifier = to.1; position = position }

pub reference-is : (node : Node) (found to : Option (OpenKind × Bor (List ℕ))) → option_map read found ≡ refers_to (label_of node) → found ≡ to → reference (view node) ≡ option_map (at (position_of node)) (option_map read to)
reference-is node found to says is =
    ap reference (view-is node)
    ∙ ap (λ (o : Option (OpenKind × List ℕ)). option_map (at (position_of node)) o) (sym says ∙ ap (λ (o : Option (OpenKind × Bor (List ℕ))). option_map read o) is)

-- no reference
pub asks_nothing : (test : OpenKind → List ℕ → Bool) (node : Node) (found : Option (OpenKind × Bor (List ℕ))) → option_map read found ≡ refers_to (label_of node) → found ≡ None → None ≡ open_node test (view node)
asks_nothing test node found says none = sym (ap (unless test) (reference-is node found None says none))

-- a reference that is answered
pub is_answered : (test : OpenKind → List ℕ → Bool) (node : Node) (found : Option (OpenKind × Bor (List ℕ))) (kind : OpenKind) (identifier : Bor (List ℕ)) → option_map read found ≡ refers_to (label_of node) → found ≡ Some (kind, identifier) → test kind identifier.now ≡ true → None ≡ open_node test (view node)
is_answered test node found kind identifier says some holds =
    let whole : Option Reference = Some (at (position_of node) (kind, identifier.now)) in
    sym (ap (unless test) (reference-is node found (Some (kind, identifier)) says some) ∙ ap (λ (b : Bool). cond b None whole) holds)

-- a reference that is open
pub is_told : (test : OpenKind → List ℕ → Bool) (node : Node) (found : Option (OpenKind × Bor (List ℕ))) (kind : OpenKind) (identifier : Bor (List ℕ)) (text : List ℕ) (position : Option Position) → option_map read found ≡ refers_to (label_of node) → found ≡ Some (kind, identifier) → test kind identifier.now ≡ false → text ≡ identifier.now → position ≡ position_of node → Some (record { kind = kind; identifier = text; position = position }) ≡ open_node test (view node)
is_told test node found kind identifier text position says some fails same stands =
    let whole : Option Reference = Some (at (position_of node) (kind, identifier.now)) in
    ap (λ (t : List ℕ). Some (at position (kind, t))) same
    ∙ ap (λ (p : Option Position). Some (at p (kind, identifier.now))) stands
    ∙ sym (ap (unless test) (reference-is node found (Some (kind, identifier)) says some) ∙ ap (λ (b : Bool). cond b None whole) fails)

-- what was gathered answers what the nodes answer
pub answered-is : (known : Known) (nodes : List Tree) → IsKnown known nodes → (kind : OpenKind) (text : List ℕ) → answered known kind text ≡ list_any (bytes_eq text) (answers kind nodes)
answered-is known nodes is Link text = is.0 text
answered-is known nodes is Image text = is.0 text
answered-is known nodes is Footnote text = is.1 text

-- one reference, asked for and kept or asked for and left out
kept : (yes : Bool) (it : Reference) (rest : List Reference) → cons_option (cond yes None (Some it)) rest ≡ cond (not yes) (it ∷ rest) rest
kept true it rest = refl
kept false it rest = refl

asked : (test : OpenKind → List ℕ → Bool) (tree : Tree) (here : Option Reference) (found rest : List Reference) → ((kind : OpenKind) (text : List ℕ) → test kind text ≡ list_any (bytes_eq text) (answers kind (walk tree))) → found ≡ filter (is_open tree) rest → cons_option (unless test here) found ≡ filter (is_open tree) (cons_option here rest)
asked test tree None found rest same is = is
asked test tree (Some it) found rest same is =
    kept (test it.kind it.identifier) it found
    ∙ ap (λ (b : Bool). cond (not b) (it ∷ found) found) (same it.kind it.identifier)
    ∙ ap (λ (l : List Reference). cond (is_open tree it) (it ∷ l) l) is

pub all_asked : (test : OpenKind → List ℕ → Bool) (tree : Tree) (nodes : List Tree) → ((kind : OpenKind) (text : List ℕ) → test kind text ≡ list_any (bytes_eq text) (answers kind (walk tree))) → filter_map (open_node test) nodes ≡ filter (is_open tree) (filter_map reference nodes)
all_asked test tree [] same = refl
all_asked test tree (node ∷ nodes) same =
    asked test tree (reference node) (filter_map (open_node test) nodes) (filter_map reference nodes) same (all_asked test tree nodes same)

-- all of them, once nothing is to come
pub asked_all : (known : Known) (tree : Tree) (found : List Reference) (left : List Tree) → IsKnown known (walk tree) → left ≡ [] → found ++ filter_map (open_node (answered known)) left ≡ filter_map (open_node (answered known)) (walk tree) → found ≡ open_in tree
asked_all known tree found left is none so_far =
    sym (append-nil found)
    ∙ ap (λ (l : List Tree). found ++ filter_map (open_node (answered known)) l) (sym none)
    ∙ so_far
    ∙ all_asked (answered known) tree (walk tree) (answered-is known (walk tree) is)
