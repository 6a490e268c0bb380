use Rattle.std.proofs.Common.{ℕ, true, ◌<◌, ◌≡◌}
use Rattle.std.specs.Prelude.{slice_index}
use Rattle.commonmark_syntax.proofs.reading.past_all.Given as goal

-- the bytes so far are such
abbrev pub invariant-loop-size : goal.invariant-loop-size
invariant-loop-size g l = (k : ℕ) → k < l.size → g.C.Class.class (slice_index l.text k) ≡ true
