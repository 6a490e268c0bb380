-- The headings of a tree.
use Rattle.std.specs.Prelude.{ℕ, List, Option, Some, None, option_map, string_bytes}
use Rattle.std.specs.List.{filter_map}
use Rattle.markdown_nodes.specs.Tree.{Label, Tree, heading, only, plain_text}
use Rattle.mdast_check.specs.declared.outline.Title.{Title}
use Rattle.markdown_nodes.specs.Walk.{walk}

-- a heading: its depth and its plain text
pub record Titled : Type 0 where
  pub depth : ℕ
  pub text : List ℕ

-- the depth of a heading
abbrev pub depth_of : Label → Option ℕ
depth_of (heading depth) = Some depth
depth_of _ = None

-- a node as a heading, if it is one
abbrev pub titled : Tree → Option Titled
titled tree = option_map (λ depth. record { depth = depth; text = plain_text (only tree) }) (depth_of tree.label)

-- the headings of a tree, in order
abbrev pub titles : Tree → List Titled
titles tree = filter_map titled (walk tree)

-- a `Title` as a heading
abbrev pub said : Title → Titled
said title = record { depth = title.depth; text = string_bytes title.text }
