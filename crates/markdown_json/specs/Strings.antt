-- A text as a JSON string, escaped as JSON.stringify does it.
use Rattle.std.specs.Prelude.{ℕ, ◌/◌, ◌%◌, List, [], ◌∷◌, ◌++◌, if◌then◌else◌, ◌==◌, nat_lt, codes}
use Rattle.std.specs.Char.{digit_char}
use Rattle.std.specs.List.{flat_map}

-- a byte as it is written between the quotes: a quote, a backslash and each byte below a space are escaped
unfoldable pub escape : ℕ → List ℕ
escape b =
    if b == 34 then codes "\\\""
    else (if b == 92 then codes "\\\\"
    else (if b == 8 then codes "\\b"
    else (if b == 9 then codes "\\t"
    else (if b == 10 then codes "\\n"
    else (if b == 12 then codes "\\f"
    else (if b == 13 then codes "\\r"
    else (if nat_lt b 32 then codes "\\u00" ++ (digit_char (b / 16) ∷ digit_char (b % 16) ∷ [])
    else b ∷ [])))))))

-- a text as it is written between the quotes
abbrev pub escaped : List ℕ → List ℕ
escaped text = flat_map escape text

-- a text between quotes
unfoldable pub string : List ℕ → List ℕ
string text = codes "\"" ++ escaped text ++ codes "\""
