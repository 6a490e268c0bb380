-- Whole values, as CommonMark has them: the columns of a split tab as spaces, and U+FFFD for each NUL.
use Rattle.std.specs.Prelude.{ℕ, ◌-◌, ◌%◌, ◌==◌, min, List, [], ◌∷◌, ◌++◌, Option, None, Some, nat_lt, replicate, if◌then◌else◌}
use Rattle.std.specs.List.{flat_map}
use Rattle.markdown_events.specs.TextWalks.{before_last}
use Rattle.markdown_events.specs.declared.event.Point.{Point}

-- the width of a tab that begins at a column: it reaches to the next tab stop, one every four columns
abbrev pub tab_width : ℕ → ℕ
tab_width column = 4 - (column - 1) % 4

-- the number of columns of a tab after a point within it; 0 if the point is not within a tab
abbrev pub left_of_tab : Point → ℕ
left_of_tab p = if nat_lt 0 p.vs then tab_width (p.column - p.vs) - p.vs else 0

-- the number of columns of a tab before a point within it
abbrev pub used_of_tab : Point → ℕ
used_of_tab p = min p.vs 4

-- this many spaces
abbrev pub blanks : ℕ → List ℕ
blanks count = replicate count 32

-- a text with U+FFFD for each NUL
abbrev pub without_nul : List ℕ → List ℕ
without_nul text = flat_map (λ b. if b == 0 then 239 ∷ 191 ∷ 189 ∷ [] else b ∷ []) text

-- the text before its last tab, if it ends with one and the end point is within a tab
abbrev pub before_tab : List ℕ → Point → Option (List ℕ)
before_tab text end = if nat_lt 0 end.vs then before_last 9 text else None

-- a text that is not empty, as a whole value except for the columns of a tab before it
abbrev pub ended : List ℕ → Point → List ℕ
ended text end = elim (before_tab text end) [ None ↦ without_nul text | Some front ↦ without_nul front ++ blanks (used_of_tab end) ]

-- the bytes from one point to another as a whole value. If both points are in one tab there are no bytes,
-- and spaces take the place of its columns between them
abbrev pub whole : List ℕ → Point → Point → List ℕ
whole [] start end = blanks (left_of_tab start - left_of_tab end)
whole (b ∷ bytes) start end = blanks (left_of_tab start) ++ ended (b ∷ bytes) end
