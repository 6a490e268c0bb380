use Rattle.std.proofs.Common.{length}
use Rattle.markdown.proofs.expected.has_escaped_pipe.Given as goal

abbrev pub invariant-backslashes : goal.invariant-backslashes
invariant-backslashes l = Unit {0}

abbrev pub decreases-backslashes : goal.decreases-backslashes
decreases-backslashes l = length l.rest
