use Rattle.markdown.proofs.Plain.{plain_nodes, plain_tree}
use Rattle.markdown.proofs.laws.plain_texts_are_their_bytes.Goals as goal

pub returns-clause-nodes : goal.returns-clause-nodes
returns-clause-nodes c = plain_nodes

pub returns-clause-tree : goal.returns-clause-tree
returns-clause-tree c = plain_tree
