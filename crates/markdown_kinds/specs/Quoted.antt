-- A text between quotes, as Debug writes it. A character beyond ASCII is written as it is or as its Unicode escape;
-- std does not say which. `escapes` are the characters that are written as escapes.
use Rattle.std.specs.Prelude.{ℕ, Bool, List, ◌++◌, codes, encode_utf8, chars, flat_map, if◌then◌else◌, false, ◌&&◌, ◌==◌, nat_lt, not}
use Rattle.std.specs.BTreeSet.{BTreeSet, contains}
use Rattle.std.specs.Char.{is_ascii}
use Rattle.std.specs.Fmt.{debug_escape, digits}
use Rattle.std.specs.Ordering.{nat_cmp}

-- whether a set contains a character
abbrev pub members : BTreeSet ℕ → ℕ → Bool
members set = contains nat_cmp set

-- the code of a character in hexadecimal, as \u{7f}
abbrev pub unicode_escape : ℕ → List ℕ
unicode_escape c = codes "\\u{" ++ digits 16 false c ++ codes "}"

-- a character as it is written between the quotes
abbrev pub escaped : (ℕ → Bool) → ℕ → List ℕ
escaped escapes c = if is_ascii c then debug_escape 34 c else (if escapes c then unicode_escape c else encode_utf8 c)

-- a text between quotes
abbrev pub quoted : (ℕ → Bool) → List ℕ → List ℕ
quoted escapes text = codes "\"" ++ flat_map (escaped escapes) (chars text) ++ codes "\""

-- whether an ASCII character is written as it is between the quotes
abbrev pub is_plain : ℕ → Bool
is_plain c = nat_lt 31 c && nat_lt c 127 && not (c == 34) && not (c == 92)
