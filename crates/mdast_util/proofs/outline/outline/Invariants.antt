use Rattle.std.proofs.Common.{◌≡◌, ◌++◌, length, string_bytes}
use Rattle.std.specs.List.{flat_map}
use Rattle.markdown_nodes.specs.View.{view}
use Rattle.markdown_nodes.specs.WalkLevels.{coming}
use Rattle.mdast_util.specs.Outline.{line_of, outline_of}
use Rattle.mdast_util.proofs.outline.outline.Given as goal

abbrev pub invariant-nodes : goal.invariant-nodes
invariant-nodes l = string_bytes l.text ++ flat_map line_of (coming l.walk) ≡ outline_of (view l.fn.tree)

abbrev pub decreases-nodes : goal.decreases-nodes
decreases-nodes l = length (coming l.walk)
