-- Where a text may be cut, and properties of its first bytes.
use Rattle.std.specs.Prelude.{Bool, List, None, Option, Some, if◌then◌else◌, length, slice_index, ℕ, ◌-◌, ◌<◌, ◌==◌, ◌^◌, ◌||◌, ◌≡◌, ◌≢◌, ◌≤◌}

-- no character crosses an offset of a text: it is an end of the text, or a byte beside it is ASCII
abbrev pub IsCut : List ℕ → ℕ → Type 0
IsCut bytes i = 0 < i → i < length bytes → 128 ≤ slice_index bytes (i - 1) → slice_index bytes i < 128

-- no LF is among the first n bytes
abbrev pub IsInLine : List ℕ → ℕ → Type 0
IsInLine bytes n = (k : ℕ) → k < n → slice_index bytes k ≢ 10

-- the first n bytes are ASCII
abbrev pub IsAscii : List ℕ → ℕ → Type 0
IsAscii bytes n = (k : ℕ) → k < n → slice_index bytes k < 128

-- the first n bytes are all the same byte
abbrev pub IsRunOf : List ℕ → ℕ → ℕ → Type 0
IsRunOf bytes byte n = (k : ℕ) → k < n → slice_index bytes k ≡ byte

-- a test gives this answer only for ASCII bytes
abbrev pub IsOfAscii : (ℕ → Bool → Type 0) → Bool → Type 0
IsOfAscii gives answer = (b : ℕ) → b < 2 ^ 8 → gives b answer → b < 128

-- a test gives this answer only for bytes other than LF
abbrev pub IsOfLine : (ℕ → Bool → Type 0) → Bool → Type 0
IsOfLine gives answer = (b : ℕ) → b < 2 ^ 8 → gives b answer → b ≢ 10

-- a byte is a space, a tab or an LF
abbrev pub is_white_space : ℕ → Bool
is_white_space b = ((b == 32) || (b == 9)) || (b == 10)

-- the marker that closes a title, for the one that opens it
abbrev pub closing_mark : ℕ → Option ℕ
closing_mark opening = if (opening == 34) || (opening == 39) then Some opening else if opening == 40 then Some 41 else None
