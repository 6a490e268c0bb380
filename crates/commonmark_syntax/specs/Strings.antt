-- Backtick strings, and where a code span ends.
use Rattle.commonmark_syntax.specs.declared.code_span.LastStrings.{LastStrings}
use Rattle.std.specs.Prelude.{◌≡◌, ◌≢◌, ℕ, ◌+◌, ◌<◌, ◌≤◌, List, length, slice_index}

-- A string of n marks begins at an offset of a text, with no mark directly before it or after it. (Math has dollars where
-- code has backticks.)
pub record IsStringAt (mark : ℕ) (text : List ℕ) (n i : ℕ) : Type 0 where
  pub within : i + n ≤ length text
  pub marks : (k : ℕ) → k < n → slice_index text (i + k) ≡ mark
  pub not_before : (k : ℕ) → k + 1 ≡ i → slice_index text k ≢ mark
  pub not_after : i + n < length text → slice_index text (i + n) ≢ mark

-- no string of n marks is in the text
abbrev pub HasNoString : ℕ → List ℕ → ℕ → Type 0
HasNoString mark text n = (i : ℕ) → IsStringAt mark text n i → ⊥

-- The first string of n marks in a text ends at an offset. A code span ends there, if a string of n backticks comes before
-- the text; if the text has no such string, those backticks stand for themselves.
pub record FirstStringEnds (mark : ℕ) (text : List ℕ) (n end : ℕ) : Type 0 where
  pub start : ℕ
  pub size : start + n ≡ end
  pub there : IsStringAt mark text n start
  pub none_before : (i : ℕ) → i < start → IsStringAt mark text n i → ⊥

-- No string in a text ends after the offset that is kept for its size.
abbrev pub AreLast : ℕ → List ℕ → LastStrings → Type 0
AreLast mark text last = (n i : ℕ) → 0 < n → IsStringAt mark text n i → i + n ≤ slice_index last.ends.items n

-- the ends of strings that are kept, with one more string, of this many marks
pub record IsKept (size end : ℕ) (old new : List ℕ) : Type 0 where
  pub here : 0 < size → slice_index new size ≡ end
  pub others : (n : ℕ) → n ≢ size → slice_index new n ≡ slice_index old n
  pub none : size ≡ 0 → new ≡ old
