use Rattle.std.proofs.Common.{◌≡◌, ℕ, List, length}
use Rattle.std.specs.List.{find}
use Rattle.markdown_nodes.specs.View.{view}
use Rattle.markdown_nodes.specs.WalkLevels.{coming}
use Rattle.markdown_nodes.specs.Walk.{walk}
use Rattle.mdast_util.specs.Definitions.{defines}
use Rattle.markdown_html.specs.Gathered.{found}
use Rattle.markdown_html.specs.Html.{is_footnote}
use Rattle.markdown_html.proofs.Maps.{first_of}
use Rattle.markdown_html.proofs.Sums.{Sums}
use Rattle.markdown_html.proofs.source.Source.new.Given as goal

abbrev pub invariant-nodes : goal.invariant-nodes
invariant-nodes l = record {
  definitions : (identifier : List ℕ) → first_of (found l.definitions identifier) (find (defines identifier) (coming l.walk)) ≡ find (defines identifier) (walk (view l.fn.tree));
  footnotes : (identifier : List ℕ) → first_of (found l.footnotes identifier) (find (is_footnote identifier) (coming l.walk)) ≡ find (is_footnote identifier) (walk (view l.fn.tree));
  texts : Sums l.texts (coming l.walk) (view l.fn.tree);
}

abbrev pub decreases-nodes : goal.decreases-nodes
decreases-nodes l = length (coming l.walk)
