-- Points in UTF-16 code units, as JavaScript counts the characters of its strings.
use Rattle.std.specs.Prelude.{ℕ, ◌≡◌, ◌≤◌, Some, ◌+◌, ◌*◌, ◌/◌, ◌-◌, List, [], ◌∷◌, Bool, if◌then◌else◌, ◌==◌, ◌||◌, nat_lt, length, take, min, ◌^◌}
use Rattle.std.specs.List.{list_any, slice_get}
use Rattle.markdown_events.specs.declared.unist.Point.{Point}
use Rattle.markdown_json.specs.declared.utf16.Counts.{Counts}

-- the number of units that a byte begins: those of the character whose first byte it is in UTF-8
abbrev pub units_at : ℕ → ℕ
units_at b = if nat_lt b 128 then 1 else (if nat_lt b 192 then 0 else (if nat_lt b 240 then 1 else 2))

-- the number of units of a text
abbrev pub units : List ℕ → ℕ
units [] = 0
units (b ∷ bytes) = units_at b + units bytes

-- an LF or a CR
abbrev pub ends_line : ℕ → Bool
ends_line b = b == 10 || b == 13

-- the text after the last line ending
abbrev pub last_line : List ℕ → List ℕ
last_line [] = []
last_line (b ∷ bytes) = if list_any ends_line bytes then last_line bytes else (if ends_line b then bytes else b ∷ bytes)

-- the counts for the text before a point: its units, and the bytes and units of its last line
abbrev pub counts_after : List ℕ → Counts
counts_after text = record { units = units text; line_bytes = length (last_line text); line_units = units (last_line text) }

-- a point after a text with these counts: its units take the place of the bytes in its line, and what a tab adds is kept;
-- a column is at most the largest 64-bit number
abbrev pub in_units : Counts → Point → Point
in_units before point =
    record { line = point.line; column = min (before.line_units + (point.column - before.line_bytes)) (2 ^ 64 - 1); offset = before.units }

-- a point of a document, in units
abbrev pub utf16 : List ℕ → Point → Point
utf16 document point = in_units (counts_after (take point.offset document)) point

-- ---- The counts in the code

-- the counts at the starts of this many blocks of 32 bytes, and at the end of the last
abbrev pub AreCountsTo : ℕ → List Counts → List ℕ → Type 0
AreCountsTo blocks counts document =
    (length counts ≡ blocks + 1) × ((k : ℕ) → k ≤ blocks → slice_get counts k ≡ Some (counts_after (take (32 * k) document)))

-- the same for all whole blocks of a document
abbrev pub AreCountsOf : List Counts → List ℕ → Type 0
AreCountsOf counts document = AreCountsTo (length document / 32) counts document
