-- Lines of a document, and the columns of their white space (CommonMark).
use Rattle.std.specs.Prelude.{Bool, List, Some, [], if◌then◌else◌, length, nat_le, slice_get, slice_index, slice_range, ℕ, ◌%◌, ◌+◌, ◌-◌, ◌<◌, ◌==◌, ◌&&◌, ◌||◌, ◌∷◌, ◌≡◌, ◌≢◌, ◌≤◌, ◌⊎◌}
use Rattle.std.proofs.Common.{ap, arith, inl, inr, sym, ◌∙◌}
use Rattle.std.proofs.Props.{props}
use Rattle.std.proofs.lemmas.Option.{same_Some, slice_get_within}
use Rattle.commonmark_syntax.specs.Blocks.{has_more, has_one_sign}
use Rattle.event_writer.specs.Calls.{EndsLine, line_ending_length}
use Rattle.event_writer.specs.Places.{after_tab, column_at}

-- no line ends between two offsets
abbrev pub IsInLine : List ℕ → ℕ → ℕ → Type 0
IsInLine bytes from to = (k : ℕ) → from ≤ k → k < to → (slice_index bytes k ≢ 10) × (slice_index bytes k ≢ 13)

-- the rest of a line from an offset on: its end, and the start of the next line
pub record IsRest (bytes : List ℕ) (from end next : ℕ) : Type 0 where
  pub order : from ≤ end
  pub in_line : IsInLine bytes from end
  pub within : next ≤ length bytes
  pub ending : ((end ≡ next) × (next ≡ length bytes)) ⊎ (EndsLine bytes end × (next ≡ end + line_ending_length bytes end))

-- of two facts that exclude each other, at most one holds, and with at most one proof
either-prop : {A B : Type 0} → IsProp A → IsProp B → (A → B → ⊥) → IsProp (A ⊎ B)
either-prop p q apart (inl a) (inl b) = ap inl (p a b)
either-prop p q apart (inl a) (inr b) = absurd (apart a b)
either-prop p q apart (inr a) (inl b) = absurd (apart b a)
either-prop p q apart (inr a) (inr b) = ap inr (q a b)

-- there is at most one proof that a line ends at an offset, with one byte or the other
EndsLine-prop : (bytes : List ℕ) (i : ℕ) → IsProp (EndsLine bytes i)
EndsLine-prop bytes i = either-prop (hlevel props) (hlevel props) (λ feed return. omega (arith, same_Some 10 13 (sym feed ∙ return)))

-- no line ends at the end of the document or after it
not-ends : (bytes : List ℕ) (i : ℕ) → length bytes ≤ i → EndsLine bytes i → ⊥
not-ends bytes i past (inl feed) = let w = slice_get_within bytes i 10 feed in omega arith
not-ends bytes i past (inr return) = let w = slice_get_within bytes i 13 return in omega arith

ending-prop : (bytes : List ℕ) (end next : ℕ) → IsProp (((end ≡ next) × (next ≡ length bytes)) ⊎ (EndsLine bytes end × (next ≡ end + line_ending_length bytes end)))
ending-prop bytes end next = either-prop (hlevel props) (hlevel (EndsLine-prop, props)) (λ last more. not-ends bytes end (omega (arith, last.0, last.1)) more.0)

-- there is at most one proof of what is left of a line
pub IsRest-prop : (bytes : List ℕ) (from end next : ℕ) → IsProp (IsRest bytes from end next)
IsRest-prop bytes from end next = hlevel (ending-prop bytes end next, props)

-- the last `tail` bytes of a line, and no more, are only white space and markers of one kind of thematic break
pub record IsTail (bytes : List ℕ) (start end tail : ℕ) : Type 0 where
  pub exact : (n : ℕ) → start + n ≤ end → has_one_sign (slice_range bytes (end - n) end) ≡ nat_le n tail

-- a text is the bytes of the document that end at an offset
abbrev pub IsBefore : List ℕ → ℕ → List ℕ → Type 0
IsBefore bytes end text = text ≡ slice_range bytes (end - length text) end

-- this many columns come before a place: an offset, and a number of columns into the tab there
pub record HasColumns (bytes : List ℕ) (offset virtual_spaces columns : ℕ) : Type 0 where
  pub column : columns + 1 ≡ column_at bytes offset + virtual_spaces
  pub tab : 0 < virtual_spaces → (slice_get bytes offset ≡ Some 9) × (columns + 1 < after_tab (column_at bytes offset))

-- the width of a byte in columns, with this many columns before it
abbrev pub width : ℕ → ℕ → ℕ
width b columns = if b == 9 then 4 - columns % 4 else 1

-- a byte is a space or a tab
abbrev pub is_space_or_tab : ℕ → Bool
is_space_or_tab b = (b == 32) || (b == 9)

-- the columns of white space at the start of a text, with this many columns before it
unfoldable pub indentation : ℕ → List ℕ → ℕ
indentation columns [] = 0
indentation columns (b ∷ bs) = if is_space_or_tab b then width b columns + indentation (columns + width b columns) bs else 0

-- Indented code: a line with at least four columns of white space, and something after them. (If a paragraph is open, the line
-- continues the paragraph.)
abbrev pub begins_indented_code : ℕ → List ℕ → Bool
begins_indented_code columns rest = nat_le 4 (indentation columns rest) && has_more rest

-- a text without the white space at its start
unfoldable pub after_spaces : List ℕ → List ℕ
after_spaces [] = []
after_spaces (b ∷ bs) = if is_space_or_tab b then after_spaces bs else b ∷ bs

-- the number of columns before what follows a text, from the number before the text
unfoldable pub columns_after : ℕ → List ℕ → ℕ
columns_after columns [] = columns
columns_after columns (b ∷ bs) = columns_after (columns + width b columns) bs
