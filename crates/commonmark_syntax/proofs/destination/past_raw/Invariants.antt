use Rattle.std.proofs.Common.{◌≡◌, ◌≤◌, false, length}
use Rattle.commonmark_syntax.specs.Parentheses.{ends}
use Rattle.commonmark_syntax.proofs.destination.past_raw.Given as goal

-- what is left ends where the text ends
abbrev pub invariant-bytes : goal.invariant-bytes
invariant-bytes l = (ends l.rest false l.depth ≡ ends l.text false 0) × (l.depth ≤ 32)

abbrev pub decreases-bytes : goal.decreases-bytes
decreases-bytes l = length l.rest
