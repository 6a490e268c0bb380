-- The references that a table of lines `name=text` knows.
use Rattle.std.specs.Prelude.{ℕ, List, [], ◌∷◌, Bool, Option, Some, None, if◌then◌else◌, ◌==◌, ◌&&◌, nat_lt, length, codes, bytes_eq}
use Rattle.std.specs.Option.{option_or}
use Rattle.std.specs.List.{slice_split, position_or_len, before_first, after_first}
use Rattle.std.specs.Str.{byte}
use Rattle.character_references.specs.Decoder.{decoded}

abbrev pub is_equals : ℕ → Bool
is_equals b = b == 61

abbrev pub is_line_feed : ℕ → Bool
is_line_feed b = b == 10

-- the text after the first `=` of a line, if the name is what comes before it
abbrev pub text_in : List ℕ → List ℕ → Option (List ℕ)
text_in name line =
    if nat_lt (position_or_len is_equals line) (length line) && bytes_eq (before_first is_equals line) name
    then Some (after_first is_equals line) else None

-- the text for a name, from the first line that has that name
abbrev pub first_text : List ℕ → List (List ℕ) → Option (List ℕ)
first_text name [] = None
first_text name (line ∷ lines) = option_or (text_in name line) (first_text name lines)

-- the text for a name, from a table
unfoldable pub text_of : List ℕ → List ℕ → Option (List ℕ)
text_of name table = first_text name (slice_split is_line_feed table)

-- the one name of HTML whose text cannot be in a line
abbrev pub new_line : List ℕ → Option (List ℕ)
new_line name = if bytes_eq name (codes "NewLine") then Some (codes "\n") else None

-- the text for a value and a marker: from the table, then from `new_line`, and otherwise from the decoder of the programs
unfoldable pub known : List ℕ → List ℕ → ℕ → Option (List ℕ)
known table value marker =
    option_or (if marker == byte "&" then option_or (text_of value table) (new_line value) else None) (decoded value marker)
