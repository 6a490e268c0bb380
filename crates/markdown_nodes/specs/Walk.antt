-- The nodes of a tree in order.
use Rattle.std.specs.Prelude.{◌≡◌, List, [], ◌∷◌, ◌++◌, MatchOption, Option}
use denote.Ref.{Bor}
use Rattle.markdown_nodes.specs.declared.mdast.Node.{Node}
use Rattle.markdown_nodes.specs.Tree.{Trees, Tree, nothing, node}
use Rattle.markdown_nodes.specs.View.{view}

-- the nodes of a list in order: each node, then everything in it
abbrev pub walks : Trees → List Tree
walks nothing = []
walks (node label children position rest) = (record { label = label; children = children; position = position }) ∷ (walks children ++ walks rest)

-- a node, then everything in it
abbrev pub walk : Tree → List Tree
walk tree = tree ∷ walks tree.children

-- the next node is the first of those to come, and the others come after it; if there is no next node, none were to come
abbrev pub Yields : List Tree → List Tree → Option (Bor Node) → Type 0
Yields before after next = MatchOption next ((before ≡ []) × (after ≡ [])) (λ found. before ≡ view found.now ∷ after)
