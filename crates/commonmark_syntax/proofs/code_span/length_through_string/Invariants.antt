use Rattle.std.proofs.Common.{length, ◌-◌, ◌≤◌}
use Rattle.commonmark_syntax.proofs.Strings.{Searched}
use Rattle.commonmark_syntax.proofs.code_span.length_through_string.Given as goal

-- no string is before here
abbrev pub invariant-loop-at : goal.invariant-loop-at
invariant-loop-at l = record {
  within : l.at ≤ length l.text;
  searched : Searched l.mark l.text l.size l.at;
}

abbrev pub decreases-loop-at : goal.decreases-loop-at
decreases-loop-at l = length l.text - l.at
