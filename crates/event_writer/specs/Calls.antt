-- Where the cursor can go: definitions for a caller that must prove that no call is refused.
use Rattle.std.specs.Prelude.{Bool, List, None, Some, false, if◌then◌else◌, length, slice_get, slice_index, suc, ℕ, ◌+◌, ◌<◌, ◌==◌, ◌≡◌, ◌≢◌, ◌≤◌, ◌⊎◌}
use Rattle.markdown_events.specs.declared.event.Point.{Point}
use Rattle.event_writer.specs.Places.{after_tab, column_at}

-- a token can end at this offset, this many columns into a tab there: it is not before the cursor, and no line ends in between
pub record CanReach (bytes : List ℕ) (from : Point) (to virtual_spaces : ℕ) : Type 0 where
  pub order : (from.index < to) ⊎ ((from.index ≡ to) × (from.vs ≤ virtual_spaces))
  pub within : to ≤ length bytes
  pub line : (k : ℕ) → from.index ≤ k → k < to → (slice_index bytes k ≢ 10) × (slice_index bytes k ≢ 13)
  pub tab : 0 < virtual_spaces → (slice_get bytes to ≡ Some 9) × (column_at bytes to + virtual_spaces < after_tab (column_at bytes to))

-- whether this byte is at an offset
abbrev pub is_byte_at : ℕ → List ℕ → ℕ → Bool
is_byte_at b bytes i = elim (slice_get bytes i) [ Some c ↦ c == b | None ↦ false ]

-- the number of bytes of the line ending at an offset, 0 if there is none; a CR and the LF after it are one ending
abbrev pub line_ending_length : List ℕ → ℕ → ℕ
line_ending_length bytes i = if is_byte_at 10 bytes i then 1 else (if is_byte_at 13 bytes i then (if is_byte_at 10 bytes (i + 1) then 2 else 1) else 0)

-- an LF or a CR is at an offset
abbrev pub EndsLine : List ℕ → ℕ → Type 0
EndsLine bytes i = (slice_get bytes i ≡ Some 10) ⊎ (slice_get bytes i ≡ Some 13)

-- `to` is the start of the line after the line ending at `from`
pub record IsLineStart (bytes : List ℕ) (from to : Point) : Type 0 where
  pub whole : to.vs ≡ 0
  pub index : to.index ≡ from.index + line_ending_length bytes from.index
  pub order : from.index < to.index
  pub before : (k : ℕ) × (to.index ≡ suc k) × EndsLine bytes k
