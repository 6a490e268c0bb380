use Rattle.std.proofs.Common.{ℕ, true, ◌-◌, ◌<◌, ◌≤◌, length}
use Rattle.std.specs.Prelude.{slice_index}
use Rattle.commonmark_syntax.proofs.bytes.count_back.Given as goal

-- the bytes so far are such
abbrev pub invariant-loop-size : goal.invariant-loop-size
invariant-loop-size g l = (k : ℕ) → length l.text - l.size ≤ k → k < length l.text → goal.F-post g l.is_such (slice_index l.text k) true
