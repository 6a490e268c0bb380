use Rattle.std.proofs.Common.{◌≡◌, [], length, string_bytes}
use Rattle.std.specs.Prelude.{fold}
use Rattle.markdown_nodes.specs.View.{view}
use Rattle.markdown_nodes.specs.WalkLevels.{coming}
use Rattle.markdown_nodes.specs.Walk.{walk}
use Rattle.mdast_util.specs.PlainText.{with_words}
use Rattle.mdast_util.proofs.plain_text.plain_text.Given as goal

abbrev pub invariant-nodes : goal.invariant-nodes
invariant-nodes l = fold with_words (string_bytes l.text) (coming l.walk) ≡ fold with_words [] (walk (view l.fn.tree))

abbrev pub decreases-nodes : goal.decreases-nodes
decreases-nodes l = length (coming l.walk)
