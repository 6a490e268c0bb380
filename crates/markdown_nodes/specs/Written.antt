-- How nodes are written as text, in any notation: Debug and JSON differ in the text around a node.
use Rattle.std.specs.Prelude.{ℕ, List, [], ◌++◌, Option}
use Rattle.markdown_events.specs.declared.unist.Position.{Position}
use Rattle.markdown_nodes.specs.Tree.{Label, Tree, Trees, nothing, node}

-- the texts before the children of a node, after them, and between two nodes
pub record Notation : Type 0 where
  pub opening : Label → List ℕ
  pub closing : Label → Option Position → List ℕ
  pub comma : List ℕ

-- nodes in order, with `lead` before the first and a comma before each of the rest
abbrev pub nodes_written : Notation → List ℕ → Trees → List ℕ
nodes_written by lead nothing = []
nodes_written by lead (node label children position rest) = lead ++ by.opening label ++ nodes_written by [] children ++ by.closing label position ++ nodes_written by by.comma rest

-- one node
abbrev pub written : Notation → Tree → List ℕ
written by tree = by.opening tree.label ++ nodes_written by [] tree.children ++ by.closing tree.label tree.position
