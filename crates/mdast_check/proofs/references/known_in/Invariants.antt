use Rattle.std.proofs.Common.{◌≡◌, ℕ, List, ◌||◌, length}
use Rattle.std.specs.List.{list_any}
use Rattle.std.specs.Str.{bytes_eq}
use Rattle.markdown_nodes.specs.View.{view}
use Rattle.markdown_nodes.specs.WalkLevels.{coming}
use Rattle.mdast_check.specs.Known.{has}
use Rattle.mdast_check.specs.References.{answers}
use Rattle.markdown_nodes.specs.Walk.{walk}
use Rattle.mdast_check.specs.declared.references.OpenKind.TheVariants.{Link, Footnote}
use Rattle.mdast_check.proofs.references.known_in.Given as goal

abbrev pub invariant-nodes : goal.invariant-nodes
invariant-nodes l = record {
  definitions : (text : List ℕ) → (has l.definitions text || list_any (bytes_eq text) (answers Link (coming l.walk))) ≡ list_any (bytes_eq text) (answers Link (walk (view l.fn.tree)));
  footnotes : (text : List ℕ) → (has l.footnotes text || list_any (bytes_eq text) (answers Footnote (coming l.walk))) ≡ list_any (bytes_eq text) (answers Footnote (walk (view l.fn.tree)));
}

abbrev pub decreases-nodes : goal.decreases-nodes
decreases-nodes l = length (coming l.walk)
