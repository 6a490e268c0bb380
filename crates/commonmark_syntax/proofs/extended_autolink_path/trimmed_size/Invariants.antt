use Rattle.std.proofs.Common.{length}
use Rattle.commonmark_syntax.proofs.Trails.{TrimsTo}
use Rattle.commonmark_syntax.proofs.extended_autolink_path.trimmed_size.Given as goal

-- what has been taken from the path is a trail
abbrev pub invariant-end : goal.invariant-end
invariant-end l = TrimsTo l.path l.rest l.unmatched

abbrev pub decreases-end : goal.decreases-end
decreases-end l = length l.rest
