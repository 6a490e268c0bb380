-- The nodes that a walk has yet to yield.
use Rattle.std.specs.Prelude.{List, [], ◌∷◌, ◌++◌}
use denote.Ref.{Bor}
use Rattle.markdown_nodes.specs.declared.mdast.Node.{Node}
use Rattle.markdown_nodes.specs.Tree.{Tree}
use Rattle.markdown_nodes.specs.View.{views}
use Rattle.markdown_nodes.specs.Walk.{walks}
use Rattle.markdown_nodes.specs.declared.walk.Walk.{Walk}

-- the nodes of the levels on a stack, beginning with the last level
abbrev pub to_come : List (Bor (List Node)) → List Tree
to_come [] = []
to_come (level ∷ levels) = to_come levels ++ walks (views level.now)

-- the nodes of the current level, then those of the levels around it
abbrev pub ahead : Bor (List Node) → List (Bor (List Node)) → List Tree
ahead level outer = walks (views level.now) ++ to_come outer

-- the nodes that a walk has yet to yield
abbrev pub coming : Walk → List Tree
coming w = ahead w.level w.outer.items
