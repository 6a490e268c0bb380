-- Short words for the rows of crates/mdast_replay/data/rows.txt.
use Rattle.std.proofs.Common.{ℕ, ◌+◌, ◌*◌, ◌==◌, nat_lt, nat_le, ◌&&◌, ◌||◌, Bool, List, [], ◌∷◌, length, Option, None, Some, if◌then◌else◌}
use Rattle.std.specs.Prelude.{Err, Ok, Result, codes}
use Rattle.std.specs.Str.{bytes_eq}
use Rattle.std.specs.Char.{encode_utf8, digit_value}
use Rattle.std.specs.List.{fold as fold_list, list_all}
use Rattle.markdown_events.specs.declared.event.Point.{Point}
use Rattle.markdown_events.specs.declared.unist.Position.{Position}
use Rattle.markdown_events.specs.Slices.{to_unist}
use Rattle.markdown_nodes.specs.Tree.{Tree}
use Rattle.markdown_events.specs.declared.unist.Point.{Point as UnistPoint}
use Rattle.markdown_grammar.specs.Refusals.{rule_of}
use Rattle.markdown_grammar.specs.Refusals.{ErrorAt}
use Rattle.markdown_grammar.specs.Document.{Source, source, source_with}
use Rattle.markdown_grammar.specs.declared.values.Values.TheVariants.{Whole}

abbrev pub at : ℕ → ℕ → ℕ → Point
at line column index = record { line = line; column = column; index = index; vs = 0 }

abbrev pub at_spaces : ℕ → ℕ → ℕ → ℕ → Point
at_spaces line column index spaces = record { line = line; column = column; index = index; vs = spaces }

-- from one point to another, each with its offset
abbrev pub position : ℕ → ℕ → ℕ → ℕ → ℕ → ℕ → Option Position
position line column offset end_line end_column end_offset =
    Some (record { start = record { line = line; column = column; offset = offset }; end = record { line = end_line; column = end_column; offset = end_offset } })

abbrev pub is_hexadecimal : ℕ → Bool
is_hexadecimal c = nat_lt (digit_value c) 16

abbrev pub is_decimal : ℕ → Bool
is_decimal c = nat_lt (digit_value c) 10

abbrev pub number_in : ℕ → List ℕ → ℕ
number_in base digits = fold_list (λ n d. base * n + digit_value d) 0 digits

-- the character, or U+FFFD for 0, for a surrogate and for what is no character
abbrev pub character : ℕ → List ℕ
character c = if c == 0 || (nat_le 0xD800 c && nat_le c 0xDFFF) || nat_lt 0x10FFFF c then 0xEF ∷ 0xBF ∷ 0xBD ∷ [] else encode_utf8 c

abbrev pub numeric : ℕ → ℕ → (ℕ → Bool) → List ℕ → Option (List ℕ)
numeric base most test digits = if nat_lt 0 (length digits) && nat_le (length digits) most && list_all test digits then Some (character (number_in base digits)) else None

abbrev pub named : List ℕ → Option (List ℕ)
named value =
    if bytes_eq value (codes "amp") then Some (38 ∷ [])
    else (if bytes_eq value (codes "lt") then Some (60 ∷ [])
    else (if bytes_eq value (codes "gt") then Some (62 ∷ [])
    else (if bytes_eq value (codes "quot") then Some (34 ∷ []) else None)))

-- a decoder that knows four names, and numbers
abbrev pub decoded : List ℕ → ℕ → Option (List ℕ)
decoded value marker = if marker == 38 then named value else (if marker == 35 then numeric 10 7 is_decimal value else (if marker == 120 then numeric 16 6 is_hexadecimal value else None))

abbrev pub over : List ℕ → Source
over bytes = source bytes decoded

-- the same where values are whole
abbrev pub over_whole : List ℕ → Source
over_whole bytes = source_with Whole bytes decoded

-- a decoder that gives one space for the empty value
abbrev pub over_blank : List ℕ → Source
over_blank bytes = source bytes (λ value marker. if length value == 0 then Some (32 ∷ []) else None)

-- the rule and the place of a refusal
abbrev pub error_kind_of : Result Tree ErrorAt → Option (List ℕ × UnistPoint)
error_kind_of (Ok tree) = None
error_kind_of (Err rejection) = Some (rule_of rejection.error_kind, to_unist rejection.point)

abbrev pub error_kind : List ℕ → ℕ → ℕ → ℕ → Option (List ℕ × UnistPoint)
error_kind rule line column offset = Some (rule, record { line = line; column = column; offset = offset })
