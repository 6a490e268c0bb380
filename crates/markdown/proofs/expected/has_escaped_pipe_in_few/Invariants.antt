use Rattle.std.proofs.Common.{length}
use Rattle.markdown.proofs.expected.has_escaped_pipe_in_few.Given as goal

abbrev pub invariant-bytes : goal.invariant-bytes
invariant-bytes l = Unit {0}

abbrev pub decreases-bytes : goal.decreases-bytes
decreases-bytes l = length l.rest
