-- Where a line of a table may begin that is for a name.
use Rattle.std.specs.Prelude.{ℕ, ◌+◌, List, ◌∷◌, Bool, ◌==◌, ◌&&◌, length, slice_index}

-- whether a line for a name may follow this place: a line feed is there, and after it as many bytes as the name has, the last of them the name's, and `=`
abbrev pub may_follow : List ℕ → List ℕ → ℕ → Bool
may_follow name lines at =
    slice_index lines at == 10 && (slice_index lines (at + length name) == slice_index (10 ∷ name) (length name) && slice_index lines (at + 1 + length name) == 61)
