-- The effect of a task mark on the nodes of its item.
use Rattle.std.specs.Prelude.{Bool, List, None, Option, Some, [], if◌then◌else◌, min, ℕ, ◌&&◌, ◌+◌, ◌-◌, ◌==◌, ◌^◌, ◌||◌, ◌∷◌}
use Rattle.markdown_nodes.specs.Tree.{Trees, node, nothing, paragraph, text}
use Rattle.markdown_events.specs.declared.unist.Point.{Point}
use Rattle.markdown_events.specs.declared.unist.Position.{Position}

-- a sum that stops at the largest 64-bit number
abbrev pub capped_sum : ℕ → ℕ → ℕ
capped_sum m n = min (m + n) (2 ^ 64 - 1)

-- the point after one byte of the same line
abbrev pub next_column : Point → Point
next_column p = record p { column = capped_sum p.column 1; offset = capped_sum p.offset 1 }

-- the point after a line ending of n bytes
abbrev pub on_next_line : ℕ → Point → Point
on_next_line n p = record { line = capped_sum p.line 1; column = 1; offset = capped_sum p.offset n }

-- a text and its start, without one tab, space or line ending at the beginning
abbrev pub after_blank : List ℕ → Point → List ℕ × Point
after_blank [] p = ([], p)
after_blank (b ∷ []) p = if b == 9 || b == 32 then ([], next_column p) else (if b == 10 || b == 13 then ([], on_next_line 1 p) else (b ∷ [], p))
after_blank (b ∷ c ∷ bs) p =
    if b == 9 || b == 32 then (c ∷ bs, next_column p)
    else (if b == 13 && c == 10 then (bs, on_next_line 2 p)
    else (if b == 10 || b == 13 then (c ∷ bs, on_next_line 1 p) else (b ∷ c ∷ bs, p)))

-- a position with another start
abbrev pub from_point : Point → Option Position → Option Position
from_point p None = None
from_point p (Some at) = Some (record at { start = p })

-- a text with this value before the other nodes; no text if the value is empty
abbrev pub trimmed_text : List ℕ × Point → Option Position → Trees → Trees
trimmed_text ([], p) here rest = rest
trimmed_text (b ∷ bs, p) here rest = node (text (b ∷ bs)) nothing (from_point p here) rest

-- the nodes of an item with a mark: the first text of a first paragraph loses one blank, and the paragraph starts where that text does
abbrev pub task : Trees → Trees
task (node paragraph (node (text (b ∷ bs)) _ (Some at) others) here rest) =
    let cut : List ℕ × Point = after_blank (b ∷ bs) at.start in
    node paragraph (trimmed_text cut (Some at) others) (from_point cut.1 here) rest
task nodes = nodes

-- the nodes of an item, with a mark or without one
abbrev pub task_if : Option Bool → Trees → Trees
task_if None nodes = nodes
task_if (Some b) nodes = task nodes
