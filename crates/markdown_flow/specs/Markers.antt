-- The markers of blocks, at the start of a text.
use Rattle.std.specs.Prelude.{Bool, List, false, length, slice_index, take, true, ℕ, ◌+◌, ◌<◌, ◌==◌, ◌||◌, ◌≡◌, ◌≤◌, ◌⊎◌}
use Rattle.std.specs.Str.{all_ascii_digits}
use Rattle.commonmark_syntax.specs.Blocks.{interrupting_list_marker, list_marker, thematic_break}
use Rattle.commonmark_syntax.specs.Cuts.{IsCut}
use Rattle.commonmark_syntax.specs.Language.{IsNotAt, Matches}
use Rattle.markdown_flow.specs.Lines.{is_space_or_tab}

-- items with this marker have numbers
abbrev pub is_ordered : ℕ → Bool
is_ordered marker = (marker == 46) || (marker == 41)

-- a text has room for the opening sequence of a heading: one to six bytes, which end at a cut
pub record HasSigns (text : List ℕ) (size : ℕ) : Type 0 where
  pub least : 0 < size
  pub most : size ≤ 6
  pub within : size ≤ length text
  pub cut : IsCut text size

-- a text begins with this many digits of an item, at most nine, and then an ASCII byte that is not white space: its marker
pub record HasMarker (text : List ℕ) (digits : ℕ) : Type 0 where
  pub within : digits < length text
  pub most : digits ≤ 9
  pub number : all_ascii_digits (take digits text) ≡ true
  pub marker : slice_index text digits < 128
  pub not_white : is_space_or_tab (slice_index text digits) ≡ false

-- a text has room for the label of a footnote definition with this many bytes, and the bytes of its markers are ASCII
pub record HasLabel (text : List ℕ) (size : ℕ) : Type 0 where
  pub within : size + 3 < length text
  pub opening : slice_index text 0 < 128
  pub caret : slice_index text 1 < 128
  pub closing : slice_index text (size + 2) < 128
  pub colon : slice_index text (size + 3) < 128

-- No item begins with a text: it is a thematic break, or begins with no marker, or it interrupts a paragraph and begins with
-- no marker that may.
abbrev pub IsNoItem : (interrupts : Bool) → List ℕ → Type 0
IsNoItem interrupts text = Matches thematic_break text ⊎ (IsNotAt list_marker text ⊎ ((interrupts ≡ true) × IsNotAt interrupting_list_marker text))
