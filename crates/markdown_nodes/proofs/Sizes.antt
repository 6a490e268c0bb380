-- How many nodes there are, and how many steps a walk that frees them has left.
use Rattle.std.specs.Prelude.{ℕ, ◌+◌, ◌*◌}
use Rattle.markdown_nodes.specs.Tree.{Trees, nothing, node}

-- the nodes in a list, with all that is in them
abbrev pub size : Trees → ℕ
size nothing = 0
size (node _ children _ rest) = size children + size rest + 1

-- two steps for each node, and one for each on the path through the first nodes, where the walk has been
abbrev pub steps : Trees → ℕ
steps nothing = 0
steps (node _ children _ rest) = steps children + 2 * size rest + 1
