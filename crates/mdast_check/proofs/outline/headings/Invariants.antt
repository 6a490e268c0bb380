use Rattle.std.proofs.Common.{◌≡◌, ◌++◌, length, map}
use Rattle.std.specs.List.{filter_map}
use Rattle.markdown_nodes.specs.View.{view}
use Rattle.markdown_nodes.specs.WalkLevels.{coming}
use Rattle.mdast_check.specs.Titles.{said, titled, titles}
use Rattle.mdast_check.proofs.outline.headings.Given as goal

abbrev pub invariant-nodes : goal.invariant-nodes
invariant-nodes l = map said l.found.items ++ filter_map titled (coming l.walk) ≡ titles (view l.fn.tree)

abbrev pub decreases-nodes : goal.decreases-nodes
decreases-nodes l = length (coming l.walk)
