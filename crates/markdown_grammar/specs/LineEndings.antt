-- The text of a line ending, where line endings are text.
use Rattle.std.specs.Prelude.{Bool, List, [], drop, false, true, if◌then◌else◌, ℕ, ◌&&◌, ◌==◌, ◌||◌, ◌∷◌}
use Rattle.markdown_events.specs.declared.event.Point.{Point}
use Rattle.markdown_grammar.specs.Document.{Given, Source, given_of, value_between}
use Rattle.markdown_grammar.specs.declared.values.Values.TheVariants.{AsInDocument, Whole}

-- a byte that containers and indentation put before a line: a space, a tab, or the marker of a block quote
abbrev pub is_before_line : ℕ → Bool
is_before_line b = b == 32 || b == 9 || b == 62

-- whether a line ends at the start of these bytes
abbrev pub ends_line : List ℕ → Bool
ends_line [] = true
ends_line (b ∷ bytes) = b == 10 || b == 13

-- whether the bytes start with an empty line: a CR, or bytes that come before a line and then its end. An LF alone does not count
abbrev pub is_empty_line : List ℕ → Bool
is_empty_line [] = false
is_empty_line (b ∷ bytes) = b == 13 || is_before_line b && (ends_line bytes || is_empty_line bytes)

-- whether a text is one CR
abbrev pub is_return : List ℕ → Bool
is_return [] = false
is_return (b ∷ []) = b == 13
is_return (b ∷ c ∷ bytes) = false

-- the text of a line ending with this value that ends at a point. With whole values, a CR before an empty line becomes an LF:
-- otherwise the CR and an LF that ends that line would read as one line ending
abbrev pub ending_as : Given → List ℕ → Point → List ℕ
ending_as given value end = elim given.values [ AsInDocument ↦ value | Whole ↦ if is_return value && is_empty_line (drop end.index given.bytes) then 10 ∷ [] else value ]

-- the text of the line ending between two points
abbrev pub ending_between : Given → Point → Point → List ℕ
ending_between given start end = ending_as given (value_between given start end) end

-- the text of the line ending between two points of a source
abbrev pub ending_read : Source → Point → Point → List ℕ
ending_read s start end = ending_between (given_of s) start end
