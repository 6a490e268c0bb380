-- The decoder that knows the names of HTML.
use Rattle.std.specs.Prelude.{ℕ, ◌-◌, List, [], ◌∷◌, Option, Some, None, if◌then◌else◌, map, nat_lt, slice_get}
use Rattle.character_references.specs.Named.{known}
use Rattle.character_references.specs.declared.html_names.TheConstants.{LINES}

-- the lines of the names that begin with this byte; the table starts at `A`
abbrev pub lines_from : List (List ℕ) → ℕ → List ℕ
lines_from lines first = if nat_lt first 65 then [] else (elim (slice_get lines (first - 65)) [ Some found ↦ found | None ↦ [] ])

-- the lines of the names that begin with the first byte of a value
abbrev pub lines_for : List (List ℕ) → List ℕ → List ℕ
lines_for lines [] = []
lines_for lines (first ∷ rest) = lines_from lines first

-- the text for a value and a marker: from the names of HTML, and otherwise from the decoder of the programs
unfoldable pub html : List ℕ → ℕ → Option (List ℕ)
html value marker = known (lines_for (map (λ line. line.now) LINES) value) value marker
