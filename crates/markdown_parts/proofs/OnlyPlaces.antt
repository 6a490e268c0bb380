-- The place of a node that is alone.
use Rattle.std.proofs.Common.{◌≡◌, ◌≤◌, ◌<◌, List, [], ◌∷◌, None, length, slice_index_or, refl, sym, ap, ◌∙◌, arith}
use Rattle.markdown_nodes.specs.Access.{position_of}
use Rattle.markdown_nodes.specs.Tree.{Tree, before, nothing}
use Rattle.markdown_nodes.specs.View.{views}
use Rattle.markdown_nodes.specs.declared.mdast.Node.{Node}
use Rattle.markdown_nodes.proofs.Views.{view-is}
use Rattle.markdown_grammar.specs.Fenced.{only_place}

pub alone : (xs : List Node) (x : Node) → 1 ≤ length xs → length xs < 2 → x ≡ slice_index_or xs 0 x → position_of x ≡ only_place (views xs)
alone [] x some one is = absurd (omega arith)
alone (y ∷ []) x some one is = ap position_of is ∙ sym (ap (λ (t : Tree). only_place (before t nothing)) (view-is y))
alone (y ∷ z ∷ xs) x some one is = absurd (omega arith)

pub not_alone : (xs : List Node) → 2 ≤ length xs → None ≡ only_place (views xs)
not_alone [] more = absurd (omega arith)
not_alone (x ∷ []) more = absurd (omega arith)
not_alone (x ∷ y ∷ xs) more = refl
