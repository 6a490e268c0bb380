-- How nodes are freed: the effect on a list of nodes, and on a parent.
use Rattle.std.specs.Prelude.{◌≡◌, ◌<◌, List, ◌++◌, length}
use Rattle.markdown_nodes.specs.declared.mdast.Node.{Node}
use Rattle.markdown_nodes.specs.Access.{nodes_in}

-- `after` is `before` without some nodes at its end
abbrev pub WithoutLast : List Node → List Node → Type 0
WithoutLast before after = (last : List Node) × (before ≡ after ++ last)

-- a parent that has children, and a level, exchanged their nodes
abbrev pub Exchanged : Node → List Node → Node → List Node → Type 0
Exchanged parent level parent_after level_after =
    (0 < length (nodes_in parent))
    × (level_after ≡ nodes_in parent)
    × (nodes_in parent_after ≡ level)
