-- How a document is read: texts, ranges, single bytes and numbers.
use Rattle.std.specs.Prelude.{Bool, List, None, Option, Some, [], drop, false, if◌then◌else◌, length, nat_le, nat_lt, slice_get, unwrap_or, ℕ, ◌&&◌, ◌-◌, ◌==◌, ◌^◌}
use Rattle.markdown_events.specs.Slices.{edge, slice}
use Rattle.markdown_events.specs.declared.event.Point.{Point}
use Rattle.std.specs.Str.{all_ascii_digits}
use Rattle.std.specs.Str.Parse.{digits_value}
use Rattle.markdown_grammar.specs.Hidden.{visible}
use Rattle.markdown_grammar.specs.Whole.{whole}
use Rattle.markdown_grammar.specs.declared.values.Values.{Values}
use Rattle.markdown_grammar.specs.declared.values.Values.TheVariants.{AsInDocument, Whole}

-- the bytes of a document, how values are read from them, and a flag for each byte: whether it is hidden (no flag: it is not)
pub record Given : Type 0 where
  pub bytes : List ℕ
  pub values : Values
  pub hidden : List Bool

-- a document with a decoder, which returns the text for the value and the marker of a character reference
pub record Source : Type 0 where
  pub bytes : List ℕ
  pub values : Values
  pub hidden : List Bool
  pub text : List ℕ → ℕ → Option (List ℕ)

-- a document with a decoder added
abbrev pub source_of : Given → (List ℕ → ℕ → Option (List ℕ)) → Source
source_of given text = record { bytes = given.bytes; values = given.values; hidden = given.hidden; text = text }

-- the document without the decoder
abbrev pub given_of : Source → Given
given_of s = record { bytes = s.bytes; values = s.values; hidden = s.hidden }

-- a source of bytes whose values are read in this way, with no hidden bytes
abbrev pub source_with : Values → List ℕ → (List ℕ → ℕ → Option (List ℕ)) → Source
source_with values bytes text = source_of (record { bytes = bytes; values = values; hidden = [] }) text

-- a source whose values are read as they are in the document, with no hidden bytes
abbrev pub source : List ℕ → (List ℕ → ℕ → Option (List ℕ)) → Source
source bytes text = source_with AsInDocument bytes text

-- a source with whole values, and these flags for hidden bytes
abbrev pub source_hiding : List Bool → List ℕ → (List ℕ → ℕ → Option (List ℕ)) → Source
source_hiding hidden bytes text = source_of (record { bytes = bytes; values = Whole; hidden = hidden }) text

-- the number of bytes from one point to another, if the points are in order and in the document
abbrev pub length_between : List ℕ → Point → Point → Option ℕ
length_between bytes start end = if nat_le (edge start) (edge end) && nat_le (edge end) (length bytes) then Some (edge end - edge start) else None

-- the byte at the index of a point
abbrev pub byte_at : List ℕ → Point → Option ℕ
byte_at bytes point = slice_get bytes point.index

-- the slice of a span, empty if there is none
abbrev pub text_read : Source → Point → Point → List ℕ
text_read s start end = unwrap_or (slice s.bytes start end) []

-- the visible bytes of a span, none if it has no slice
abbrev pub visible_between : Given → Point → Point → List ℕ
visible_between given start end = visible (drop (edge start) given.hidden) (unwrap_or (slice given.bytes start end) [])

-- the visible bytes of a label, by which definitions and references are matched
abbrev pub label_read : Source → Point → Point → List ℕ
label_read s start end = visible_between (given_of s) start end

-- visible bytes as a value of the tree
abbrev pub value_as : Values → List ℕ → Point → Point → List ℕ
value_as AsInDocument text start end = text
value_as Whole text start end = whole text start end

-- the value of a span, from its visible bytes
abbrev pub value_between : Given → Point → Point → List ℕ
value_between given start end = value_as given.values (visible_between given start end) start end

-- the value of a span in a source
abbrev pub value_read : Source → Point → Point → List ℕ
value_read s start end = value_between (given_of s) start end

-- whether this byte is at the point
abbrev pub is_byte : Source → ℕ → Point → Bool
is_byte s b p = elim (byte_at s.bytes p) [ Some c ↦ b == c | None ↦ false ]

-- whether these are one or more decimal digits
abbrev pub is_number : List ℕ → Bool
is_number digits = nat_lt 0 (length digits) && all_ascii_digits digits

-- the number that is written in decimal digits
abbrev pub number : List ℕ → ℕ
number digits = digits_value 10 digits

-- whether there is a length, from 1 to 6
abbrev pub is_depth : Option ℕ → Bool
is_depth None = false
is_depth (Some n) = nat_lt 0 n && nat_le n 6

-- whether there are digits, which write a number up to 4294967295
abbrev pub is_item_number : Option (List ℕ) → Bool
is_item_number None = false
is_item_number (Some digits) = is_number digits && nat_lt (number digits) (2 ^ 32)
