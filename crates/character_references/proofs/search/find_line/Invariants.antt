use Rattle.std.proofs.Common.{◌≡◌, false, length, ℕ, ◌-◌, ◌<◌, ◌≤◌}
use Rattle.character_references.specs.Search.{may_follow}
use Rattle.character_references.proofs.search.find_line.Given as goal

abbrev pub invariant-loop-at : goal.invariant-loop-at
invariant-loop-at l = record {
  within : l.at ≤ length l.lines;
  before : (k : ℕ) → k < l.at → may_follow l.name l.lines k ≡ false;
}

abbrev pub decreases-loop-at : goal.decreases-loop-at
decreases-loop-at l = length l.lines - l.at
