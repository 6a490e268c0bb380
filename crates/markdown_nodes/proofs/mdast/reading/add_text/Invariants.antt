use Rattle.std.proofs.Common.{◌≡◌, ◌++◌, length, string_bytes}
use Rattle.markdown_nodes.specs.Tree.{only, plain_text}
use Rattle.markdown_nodes.specs.View.{view}
use Rattle.markdown_nodes.specs.WalkLevels.{coming}
use Rattle.markdown_nodes.proofs.WalkTexts.{values}
use Rattle.markdown_nodes.proofs.mdast.reading.add_text.Given as goal

abbrev pub invariant-nodes : goal.invariant-nodes
invariant-nodes l = string_bytes l.text ++ values (coming l.walk) ≡ string_bytes l.fn.text ++ plain_text (only (view l.fn.node))

abbrev pub decreases-nodes : goal.decreases-nodes
decreases-nodes l = length (coming l.walk)
