-- How the text between the quotes of a JSON string is read (RFC 8259, section 7).
-- Half of a surrogate pair is not read, because no text here has one.
use Rattle.std.specs.Prelude.{ℕ, ◌+◌, ◌*◌, ◌-◌, List, [], ◌∷◌, ◌++◌, Option, Some, None, if◌then◌else◌, ◌==◌, ◌||◌, nat_lt, encode_utf8, option_map}
use Rattle.std.specs.Char.{digit_value}
use lib.Utf8.{scalar}

-- the state of a reader: among characters, after a backslash, or in a code with this many digits to come
pub data Reading : Type 0 where
  characters : Reading
  escape : Reading
  code : (digits : ℕ) (value : ℕ) → Reading

-- the character for a letter after a backslash
abbrev pub letter : ℕ → Option ℕ
letter c =
    if c == 34 then Some 34
    else (if c == 92 then Some 92
    else (if c == 47 then Some 47
    else (if c == 98 then Some 8
    else (if c == 102 then Some 12
    else (if c == 110 then Some 10
    else (if c == 114 then Some 13
    else (if c == 116 then Some 9
    else None)))))))

-- the character with this code
abbrev pub character : ℕ → Option (List ℕ × Reading)
character value = if scalar value then Some (encode_utf8 value, characters) else None

-- the output for a byte, and the state after it; none if the byte may not come there
abbrev pub read : Reading → ℕ → Option (List ℕ × Reading)
read characters b =
    if b == 92 then Some ([], escape)
    else (if b == 34 || nat_lt b 32 then None
    else Some (b ∷ [], characters))
read escape b =
    if b == 117 then Some ([], code 4 0)
    else option_map (λ c. (c ∷ [], characters)) (letter b)
read (code digits value) b =
    if nat_lt (digit_value b) 16
    then (if digits == 1 then character (16 * value + digit_value b) else Some ([], code (digits - 1) (16 * value + digit_value b)))
    else None

-- the output for a byte, before the text after it
abbrev pub before : List ℕ → Option (List ℕ) → Option (List ℕ)
before said None = None
before said (Some text) = Some (said ++ text)

-- the text that bytes spell from a state of the reader on, if they may come there
abbrev pub text_from : List ℕ → Reading → Option (List ℕ)
text_from [] characters = Some []
text_from [] _ = None
text_from (b ∷ bytes) reading = elim (read reading b) [
  | None ↦ None
  | Some (said, after) ↦ before said (text_from bytes after)
]

-- the text that the bytes between the quotes spell, if they are valid
abbrev pub unescaped : List ℕ → Option (List ℕ)
unescaped bytes = text_from bytes characters
