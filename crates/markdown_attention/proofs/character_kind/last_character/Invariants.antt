use Rattle.std.proofs.Common.{◌-◌, ◌<◌, ◌≤◌, ℕ, length}
use Rattle.std.specs.Prelude.{slice_index}
use Rattle.markdown_attention.proofs.Ends.{IsContinuation}
use Rattle.markdown_attention.proofs.character_kind.last_character.Given as goal

-- so many bytes at the end all go on with a character
abbrev pub invariant-loop-later : goal.invariant-loop-later
invariant-loop-later l = (k : ℕ) → 0 < k → k ≤ l.later → IsContinuation (slice_index l.bytes (length l.bytes - k))
