-- The headings of a tree, one on each line.
use Rattle.std.specs.Prelude.{ℕ, ◌-◌, ◌++◌, ◌==◌, List, [], Option, None, Some, codes, if◌then◌else◌, map}
use Rattle.std.specs.Fmt.{decimal}
use Rattle.std.specs.List.{flat_map, repeat}
use Rattle.std.specs.Option.{option_map_or}
use Rattle.markdown_events.specs.declared.unist.Point.{Point}
use Rattle.markdown_events.specs.declared.unist.Position.{Position}
use Rattle.markdown_nodes.specs.Tree.{Tree, only, plain_text}
use Rattle.mdast_check.specs.Titles.{depth_of}
use Rattle.markdown_nodes.specs.Walk.{walk}

-- two spaces for each level below the first
abbrev pub indent : ℕ → List ℕ
indent depth = repeat (depth - 1) (codes "  ")

-- a text with a space for each LF
abbrev pub in_one_line : List ℕ → List ℕ
in_one_line text = map (λ byte. if byte == 10 then 32 else byte) text

-- a space, and the line and the column of a point in parentheses
abbrev pub start_text : Point → List ℕ
start_text point = codes " (" ++ decimal point.line ++ codes ":" ++ decimal point.column ++ codes ")"

-- this text for the start of a position, if there is one
abbrev pub place_text : Option Position → List ℕ
place_text None = []
place_text (Some position) = start_text position.start

-- the line of a heading with this depth
abbrev pub heading_line : Tree → ℕ → List ℕ
heading_line tree depth = indent depth ++ in_one_line (plain_text (only tree)) ++ place_text tree.position ++ codes "\n"

-- the line of a node; nothing unless it is a heading
abbrev pub line_of : Tree → List ℕ
line_of tree = option_map_or (heading_line tree) (depth_of tree.label) []

-- the lines of the headings of a tree, in order
abbrev pub outline_of : Tree → List ℕ
outline_of tree = flat_map line_of (walk tree)
