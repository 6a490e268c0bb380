-- The identifiers that a walk has gathered, and those that are to come.
use Rattle.std.proofs.Common.{◌≡◌, ℕ, Bool, true, false, cond, ◌||◌, List, ◌∷◌, Option, None, Some, Bor, refl, sym, ap, ◌∙◌}
use Rattle.std.specs.Prelude.{option_map}
use Rattle.std.specs.List.{cons_option, filter_map, list_any}
use Rattle.std.specs.Str.{bytes_eq}
use Rattle.std.specs.BTreeSet.{BTreeSet, Updates}
use Rattle.std.specs.Cmp.Lexicographic.{nat_list_eq_equiv, slice_cmp}
use Rattle.std.specs.Ordering.{nat_cmp}
use Rattle.std.proofs.lemmas.Map.Text.{is_eq-slice_cmp}
use Rattle.markdown_nodes.specs.declared.mdast.Node.{Node}
use Rattle.markdown_nodes.specs.Access.{label_of}
use Rattle.markdown_nodes.specs.Tree.{Label, Tree}
use Rattle.markdown_nodes.specs.View.{view}
use Rattle.mdast_check.specs.Known.{has, with_one}
use Rattle.markdown_nodes.proofs.WalkSteps.{label-is}

cond_or : (test was : Bool) → cond test true was ≡ (test || was)
cond_or true was = refl
cond_or false was = refl

or_swap : (a b c : Bool) → ((a || b) || c) ≡ (b || (a || c))
or_swap true true c = refl
or_swap true false c = refl
or_swap false true c = refl
or_swap false false c = refl

-- a set with a text more
pub put_one : (added : Bor (List ℕ)) (old new : BTreeSet (Bor (List ℕ))) → Updates (λ x y. slice_cmp nat_cmp x.now y.now) old new added true → (text : List ℕ) → has new text ≡ with_one (Some added) text (has old text)
put_one added old new updates text =
    updates.0 (record { ref_ptr = (0, 0); now = text })
    ∙ ap (λ (b : Bool). cond b true (has old text)) (is_eq-slice_cmp added.now text ∙ nat_list_eq_equiv.symm added.now text)
    ∙ cond_or (bytes_eq text added.now) (has old text)

-- a text that is added was the first of those to come
moved : (here : Option (Bor (List ℕ))) (text : List ℕ) (was : Bool) (rest : List (List ℕ)) → (with_one here text was || list_any (bytes_eq text) rest) ≡ (was || list_any (bytes_eq text) (cons_option (option_map (λ (t : Bor (List ℕ)). t.now) here) rest))
moved None text was rest = refl
moved (Some added) text was rest = or_swap (bytes_eq text added.now) was (list_any (bytes_eq text) rest)

-- what was gathered and what is to come stay the whole
pub gathers : (identifier : Label → Option (List ℕ)) (node : Node) (here : Option (Bor (List ℕ))) (before after : List Tree) (old new total : List ℕ → Bool) → before ≡ view node ∷ after → option_map (λ (t : Bor (List ℕ)). t.now) here ≡ identifier (label_of node) → ((text : List ℕ) → new text ≡ with_one here text (old text)) → ((text : List ℕ) → (old text || list_any (bytes_eq text) (filter_map (λ (n : Tree). identifier n.label) before)) ≡ total text) → (text : List ℕ) → (new text || list_any (bytes_eq text) (filter_map (λ (n : Tree). identifier n.label) after)) ≡ total text
gathers identifier node here before after old new total next is puts so_far text =
    let rest = filter_map (λ (n : Tree). identifier n.label) after in
    let any : List (List ℕ) → Bool = λ texts. old text || list_any (bytes_eq text) texts in
    ap (λ (b : Bool). b || list_any (bytes_eq text) rest) (puts text)
    ∙ moved here text (old text) rest
    ∙ ap (λ (o : Option (List ℕ)). any (cons_option o rest)) (is ∙ sym (ap identifier (label-is node)))
    ∙ ap (λ (l : List Tree). any (filter_map (λ (n : Tree). identifier n.label) l)) (sym next)
    ∙ so_far text
