use Rattle.std.proofs.Common.{vec_len}
use Rattle.markdown_nodes.specs.View.{view}
use Rattle.mdast_check.proofs.Reading.{ReadSoFar}
use Rattle.mdast_check.proofs.warnings.text.texts_in.Given as goal

abbrev pub invariant-nodes : goal.invariant-nodes
invariant-nodes l = ReadSoFar (view l.fn.tree) l.nodes.items l.texts.items l.orphans.items

abbrev pub decreases-nodes : goal.decreases-nodes
decreases-nodes l = vec_len l.nodes
