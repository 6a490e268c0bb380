-- How points and positions are printed.
use Rattle.std.specs.Prelude.{ℕ, List, ◌++◌, codes}
use Rattle.std.specs.Fmt.{decimal}
use Rattle.markdown_events.specs.declared.unist.Point.{Point}
use Rattle.markdown_events.specs.declared.unist.Position.{Position}

-- 1:3 (2)
abbrev pub point_text : Point → List ℕ
point_text p = decimal p.line ++ codes ":" ++ decimal p.column ++ codes " (" ++ decimal p.offset ++ codes ")"

-- 1:1-1:3
abbrev pub lines_and_columns : Position → List ℕ
lines_and_columns p = decimal p.start.line ++ codes ":" ++ decimal p.start.column ++ codes "-" ++ decimal p.end.line ++ codes ":" ++ decimal p.end.column

-- 1:1-1:3 (0-2)
abbrev pub position_text : Position → List ℕ
position_text p = lines_and_columns p ++ (codes " (" ++ decimal p.start.offset ++ codes "-" ++ decimal p.end.offset ++ codes ")")
