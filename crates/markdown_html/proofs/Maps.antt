-- Maps whose keys are texts.
use Rattle.std.proofs.Common.{◌≡◌, ℕ, Bool, true, false, cond, List, [], ◌∷◌, Option, None, Some, Bor, if◌then◌else◌, refl, sym, ap, ◌∙◌}
use Rattle.std.specs.Prelude.{is_some, option_map}
use Rattle.std.specs.List.{find}
use Rattle.std.specs.Option.{option_eq}
use Rattle.std.specs.BTreeMap.{BTreeMap, Updates}
use Rattle.std.specs.Cmp.Lexicographic.{slice_cmp}
use Rattle.std.specs.Ordering.{nat_cmp}
use Rattle.std.specs.Str.{bytes_eq}
use Rattle.std.proofs.lemmas.Bool.{false≢true}
use Rattle.std.proofs.lemmas.Option.{none-some}
use Rattle.std.proofs.lemmas.Map.Text.{is_eq-slice_cmp}
use Rattle.markdown_nodes.specs.declared.mdast.Node.{Node}
use Rattle.markdown_nodes.specs.Access.{label_of}
use Rattle.markdown_nodes.specs.Tree.{Label, Tree}
use Rattle.markdown_nodes.specs.View.{view}
use Rattle.markdown_nodes.proofs.WalkSteps.{label-is}
use Rattle.markdown_html.specs.Gathered.{held, with_first}

-- what a map has with a text more
pub held-insert : {X : Type 0} (key : Bor (List ℕ)) (value : X) (old new : BTreeMap (Bor (List ℕ)) X) → Updates (λ x y. slice_cmp nat_cmp x.now y.now) old new key (Some value) → (text : List ℕ) → held new text ≡ cond (bytes_eq key.now text) (Some value) (held old text)
held-insert key value old new updates text =
    updates.0 (record { ref_ptr = (0, 0); now = text })
    ∙ ap (λ (b : Bool). cond b (Some value) (held old text)) (is_eq-slice_cmp key.now text)

-- a map has nothing for a text
none_of : {X : Type 0} (o : Option X) → is_some o ≡ false → o ≡ None
none_of None is = refl
none_of (Some x) is = absurd (false≢true (sym is))

pub held-none : {X : Type 0} (map : BTreeMap (Bor (List ℕ)) X) (text : List ℕ) → is_some (held map text) ≡ false → held map text ≡ None
held-none map text is = none_of (held map text) is

-- the first node of an identifier stays
pub first_cases : (same : Bool) (text : List ℕ) (key : Bor (List ℕ)) (node : Bor Node) (was : Option (Bor Node)) → bytes_eq key.now text ≡ same → (same ≡ true → was ≡ None) → option_map (λ (n : Bor Node). view n.now) (cond same (Some node) was) ≡ with_first (Some key) (view node.now) text (option_map (λ (n : Bor Node). view n.now) was)
first_cases true text key node None is empty = sym (ap (λ (b : Bool). if b then Some (view node.now) else None) is)
first_cases true text key node (Some n) is empty = absurd (none-some n (sym (empty refl)))
first_cases false text key node None is empty = sym (ap (λ (b : Bool). if b then Some (view node.now) else None) is)
first_cases false text key node (Some n) is empty = refl

-- the first of two that is there
abbrev pub first_of : Option Tree → Option Tree → Option Tree
first_of None other = other
first_of (Some tree) other = Some tree

first_one : (same : Bool) (tree : Tree) (rest : Option Tree) → first_of (if same then Some tree else None) rest ≡ cond same (Some tree) rest
first_one true tree rest = refl
first_one false tree rest = refl

-- a node that is put into a map was the first of those to come
moved : (key : Option (Bor (List ℕ))) (tree : Tree) (text : List ℕ) (was rest : Option Tree) → first_of (with_first key tree text was) rest ≡ first_of was (cond (option_eq bytes_eq (option_map (λ (t : Bor (List ℕ)). t.now) key) (Some text)) (Some tree) rest)
moved None tree text None rest = refl
moved None tree text (Some w) rest = refl
moved (Some key) tree text None rest = first_one (bytes_eq key.now text) tree rest
moved (Some key) tree text (Some w) rest = refl

-- what was gathered and what is to come stay the whole
pub gathers : (identifier_of : Label → Option (List ℕ)) (node : Node) (key : Option (Bor (List ℕ))) (before after : List Tree) (text : List ℕ) (old new total : Option Tree) → before ≡ view node ∷ after → option_map (λ (t : Bor (List ℕ)). t.now) key ≡ identifier_of (label_of node) → new ≡ with_first key (view node) text old → first_of old (find (λ (t : Tree). option_eq bytes_eq (identifier_of t.label) (Some text)) before) ≡ total → first_of new (find (λ (t : Tree). option_eq bytes_eq (identifier_of t.label) (Some text)) after) ≡ total
gathers identifier_of node key before after text old new total next is puts so_far =
    let among : List Tree → Option Tree = find (λ (t : Tree). option_eq bytes_eq (identifier_of t.label) (Some text)) in
    ap (λ (o : Option Tree). first_of o (among after)) puts
    ∙ moved key (view node) text old (among after)
    ∙ ap (λ (o : Option (List ℕ)). first_of old (cond (option_eq bytes_eq o (Some text)) (Some (view node)) (among after))) (is ∙ sym (ap identifier_of (label-is node)))
    ∙ ap (λ (l : List Tree). first_of old (among l)) (sym next)
    ∙ so_far

-- once nothing is to come, what was gathered is the whole
pub gathered : (test : Tree → Bool) (coming : List Tree) (old total : Option Tree) → coming ≡ [] → first_of old (find test coming) ≡ total → old ≡ total
gathered test coming None total none so_far = sym (ap (λ (l : List Tree). find test l) none) ∙ so_far
gathered test coming (Some tree) total none so_far = so_far
