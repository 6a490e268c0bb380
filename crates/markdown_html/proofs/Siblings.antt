-- Lists of nodes, as the tree has them.
use Rattle.std.proofs.Common.{◌&&◌, add-one, suc, ◌≡◌, ℕ, ◌+◌, ◌-◌, ◌≤◌, false, List, [], ◌∷◌, Option, None, Some, length, refl, sym, ap, ◌∙◌, slice_get, arith}
use Rattle.std.proofs.lemmas.Option.{none-some}
use Rattle.markdown_html.specs.Places.{followed, unended, Place}
use Rattle.markdown_nodes.specs.declared.mdast.Node.{Node}
use Rattle.markdown_nodes.specs.Access.{label_of, nodes_in}
use Rattle.markdown_nodes.specs.Tree.{Tree}
use Rattle.markdown_nodes.proofs.Views.{view-is}
use Rattle.markdown_nodes.specs.View.{view, views}
use Rattle.markdown_nodes.proofs.WalkSteps.{label-is}
use Rattle.markdown_html.specs.Html.{begins_with_paragraph, begins_with_text, count, ends_with_paragraph, has_nodes, is_paragraph}

-- how many there are
pub count-views : (nodes : List Node) → count (views nodes) ≡ length nodes
count-views [] = refl
count-views (x ∷ nodes) = ap (λ (n : ℕ). n + 1) (count-views nodes) ∙ add-one (length nodes)

-- the last of them
pub last-views : (nodes : List Node) (last : Node) → slice_get nodes (length nodes - 1) ≡ Some last → ends_with_paragraph (views nodes) ≡ is_paragraph (label_of last)
last-views [] last is = absurd (none-some last is)
last-views (x ∷ []) last is = ap (λ (o : Option Node). elim o [ None ↦ false | Some y ↦ is_paragraph (view y).label ]) is ∙ ap is_paragraph (label-is last)
last-views (x ∷ (y ∷ nodes)) last is =
    let below : length (x ∷ (y ∷ nodes)) - 1 ≡ suc (length (y ∷ nodes) - 1) = omega arith in
    last-views (y ∷ nodes) last (ap (λ (i : ℕ). slice_get (x ∷ (y ∷ nodes)) i) (sym below) ∙ is)

-- the first of them
pub first-paragraph : (nodes rest : List Node) (first : Node) → nodes ≡ first ∷ rest → begins_with_paragraph (views nodes) ≡ is_paragraph (label_of first)
first-paragraph nodes rest first is = ap (λ (l : List Node). begins_with_paragraph (views l)) is ∙ ap is_paragraph (label-is first)

pub first-text : (nodes rest : List Node) (first : Node) → nodes ≡ first ∷ rest → begins_with_text (views nodes) ≡ is_paragraph (label_of first) && has_nodes (views (nodes_in first))
first-text nodes rest first is =
    ap (λ (l : List Node). begins_with_text (views l)) is
    ∙ ap (λ (t : Tree). is_paragraph t.label && has_nodes t.children) (view-is first)

-- a node before others
pub followed-some : (at : Place) (nodes : List Node) → 1 ≤ length nodes → followed at (views nodes) ≡ unended at
followed-some at [] some = absurd (omega (arith, some))
followed-some at (x ∷ nodes) some = refl
