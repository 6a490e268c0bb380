-- Bytes that take one column each.
use Rattle.std.specs.Prelude.{List, length, slice_index, ℕ, ◌<◌, ◌≤◌}

-- no control character of ASCII, such as a tab or a line ending, is between two offsets
pub record IsPlain (bytes : List ℕ) (from to : ℕ) : Type 0 where
  pub within : to ≤ length bytes
  pub each : (k : ℕ) → from ≤ k → k < to → 32 ≤ slice_index bytes k
