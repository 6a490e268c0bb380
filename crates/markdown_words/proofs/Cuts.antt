-- The first text of a task item loses a blank.
use Rattle.std.proofs.Common.{◌≡◌, ◌==◌, ℕ, Bool, true, false, ◌||◌, List, [], ◌∷◌, ◌++◌, Option, None, Some, refl, sym, ◌∙◌, ap, append-nil, append_assoc}
use Rattle.std.proofs.lemmas.Bool.{eqb-true}
use Rattle.markdown_events.specs.declared.unist.Point.{Point as UnistPoint}
use Rattle.markdown_events.specs.declared.unist.Position.{Position}
use Rattle.markdown_grammar.specs.Tasks.{after_blank, task_if, trimmed_text}
use Rattle.markdown_nodes.specs.Tree.{Label, Trees, join, node, nothing, paragraph}
use Rattle.markdown_nodes.specs.Tree as tree
use Rattle.mdast_util.proofs.BareTexts.{AreBare}
use Rattle.markdown_words.proofs.Heard.{cut_first, cut_if}
use Rattle.markdown_words.proofs.Spoken.{spoken, with_node}
use Rattle.markdown_words.specs.Saying.{cut, has_blank}

-- one of three
data OneOf (b : ℕ) : Type 0 where
  is_space : b ≡ 32 → OneOf b
  is_tab : b ≡ 9 → OneOf b
  is_feed : b ≡ 10 → OneOf b

one-of : (b : ℕ) → (b == 32 || b == 9 || b == 10) ≡ true → OneOf b
one-of b h = elim (b == 32) as (λ x. (b == 32) ≡ x → (x || b == 9 || b == 10) ≡ true → OneOf b) [
  | true ↦ λ e k. is_space (eqb-true b 32 e)
  | false ↦ λ e. elim (b == 9) as (λ y. (b == 9) ≡ y → (y || b == 10) ≡ true → OneOf b) [
    | true ↦ λ f k. is_tab (eqb-true b 9 f)
    | false ↦ λ f k. is_feed (eqb-true b 10 k)
  ] refl
] refl h

after-space : (bs : List ℕ) (p : UnistPoint) → (after_blank (32 ∷ bs) p).0 ≡ bs
after-space [] p = refl
after-space (c ∷ bs) p = refl

after-tab : (bs : List ℕ) (p : UnistPoint) → (after_blank (9 ∷ bs) p).0 ≡ bs
after-tab [] p = refl
after-tab (c ∷ bs) p = refl

after-feed : (bs : List ℕ) (p : UnistPoint) → (after_blank (10 ∷ bs) p).0 ≡ bs
after-feed [] p = refl
after-feed (c ∷ bs) p = refl

blank-cut : (b : ℕ) (bs : List ℕ) (p : UnistPoint) → OneOf b → (after_blank (b ∷ bs) p).0 ≡ bs
blank-cut b bs p (is_space e) = ap (λ (x : ℕ). (after_blank (x ∷ bs) p).0) e ∙ after-space bs p
blank-cut b bs p (is_tab e) = ap (λ (x : ℕ). (after_blank (x ∷ bs) p).0) e ∙ after-tab bs p
blank-cut b bs p (is_feed e) = ap (λ (x : ℕ). (after_blank (x ∷ bs) p).0) e ∙ after-feed bs p

-- a text without its blank says what is left of it
trimmed-says : (m : Bool) (said : List ℕ) (cut : List ℕ × UnistPoint) (here : Option Position) (rest : Trees) → spoken m said (trimmed_text cut here rest) ≡ spoken m (said ++ cut.0) rest
trimmed-says m said ([], p) here rest = ap (λ x. spoken m x rest) (sym (append-nil said))
trimmed-says m said (b ∷ bs, p) here rest = refl

cut-says : (m : Bool) (said : List ℕ) (b : ℕ) (bs : List ℕ) (c : Trees) (here : Position) (rest : Trees) → OneOf b
    → spoken m said (cut_first (node (tree.text (b ∷ bs)) c (Some here) rest)) ≡ spoken m (said ++ bs) rest
cut-says m said b bs c here rest o =
    trimmed-says m said (after_blank (b ∷ bs) here.start) (Some here) rest
    ∙ ap (λ x. spoken m (said ++ x) rest) (blank-cut b bs here.start o)

joined-says : (m : Bool) (said : List ℕ) (b : ℕ) (bs : List ℕ) (here : Position) (rest : Trees) → OneOf b → AreBare rest
    → spoken m said (cut_first (join (node (tree.text (b ∷ bs)) nothing (Some here) nothing) rest)) ≡ spoken m (said ++ bs) rest
joined-says m said b bs here nothing o x = cut-says m said b bs nothing here nothing o
joined-says m said b bs here (node (tree.text u) c (Some there) r) o x =
    cut-says m said b (bs ++ u) nothing (record { start = here.start; end = there.end }) r o
    ∙ ap (λ t. spoken m t r) (sym (append_assoc said bs u))
    ∙ (λ i. spoken m (spoken m ((said ++ bs) ++ u) (sym x.0.0 i)) r)
joined-says m said b bs here (node (tree.text u) c None r) o x = let z : false ≡ true = x.0.1 in absurd cc
joined-says m said b bs here (node l c h r) o x = cut-says m said b bs nothing here (node l c h r) o

-- a first text that begins with a blank says the rest of it, and then come the other nodes
pub first-says : (m : Bool) (said v : List ℕ) (here : Position) (rest : Trees) → has_blank v ≡ true → AreBare rest
    → spoken m said (cut_first (join (node (tree.text v) nothing (Some here) nothing) rest)) ≡ spoken m (said ++ cut v) rest
first-says m said [] here rest h x = let z : ⊥ = cc in absurd z
first-says m said (b ∷ bs) here rest h x = joined-says m said b bs here rest (one-of b h) x

-- a mark changes what the first paragraph says
task-marked : (m : Bool) (said : List ℕ) (c : Trees) (h : Option Position) (r : Trees) (b : Bool)
    → spoken m said (task_if (Some b) (node paragraph c h r)) ≡ spoken m (spoken m (with_node m said paragraph) (cut_first c)) r
task-marked m said nothing h r b = refl
task-marked m said (node (tree.text []) c here others) h r b = refl
task-marked m said (node (tree.text (x ∷ xs)) c None others) h r b = refl
task-marked m said (node (tree.text (x ∷ xs)) c (Some here) others) h r b = refl
task-marked m said (node l c here others) h r b = refl

pub task-says : (m : Bool) (said : List ℕ) (c : Trees) (h : Option Position) (r : Trees) (mk : Option Bool)
    → spoken m said (task_if mk (node paragraph c h r)) ≡ spoken m (spoken m (with_node m said paragraph) (cut_if mk c)) r
task-says m said c h r None = refl
task-says m said c h r (Some b) = task-marked m said c h r b
