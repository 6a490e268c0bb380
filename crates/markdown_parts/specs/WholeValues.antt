-- The conditions under which the code uses a part of a document as a value.
use Rattle.std.specs.Prelude.{◌≡◌, ℕ, ◌==◌, Bool, true, false, List, ◌&&◌, ◌||◌, nat_lt, string_bytes}
use Rattle.std.specs.List.{list_any}
use Rattle.markdown_events.specs.declared.event.Point.{Point}
use Rattle.markdown_grammar.specs.Document.{Given}
use Rattle.markdown_grammar.specs.declared.values.Values.{Values}
use Rattle.markdown_grammar.specs.declared.values.Values.TheVariants.{AsInDocument, Whole}
use Rattle.markdown_grammar.specs.Hidden.{visible}
use Rattle.markdown_parts.specs.declared.value.Slice.{Slice}
use Rattle.markdown_parts.specs.declared.value.Value.{Value}
use Rattle.markdown_parts.specs.declared.value.Value.TheVariants.{Made, Part}

-- whether values are whole
abbrev pub is_whole : Values → Bool
is_whole AsInDocument = false
is_whole Whole = true

-- whether a text contains a NUL
abbrev pub has_nul : List ℕ → Bool
has_nul text = list_any (λ b. b == 0) text

-- a text is the bytes of the document, and with whole values it contains no NUL
pub record IsTextOf (values : Values) (bytes text : List ℕ) : Type 0 where
  pub is : text ≡ bytes
  pub no_nul : is_whole values ≡ true → has_nul bytes ≡ false

-- the text of a value
abbrev pub value_text : Value → List ℕ
value_text (Part part) = part.now
value_text (Made text) = string_bytes text

-- the visible bytes of a slice
abbrev pub slice_text : Slice → List ℕ
slice_text s = visible s.hidden.now s.text.now

-- whether, with whole values, at least one of two points is within a tab
abbrev pub is_split : Given → Point → Point → Bool
is_split given start end = (nat_lt 0 start.vs || nat_lt 0 end.vs) && is_whole given.values
