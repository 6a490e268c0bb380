use Rattle.std.proofs.Common.{◌≡◌, length}
use Rattle.commonmark_syntax.specs.Reading.{find}
use Rattle.commonmark_syntax.proofs.reading.past_first.Given as goal

-- the first place is still to come
abbrev pub invariant-bytes : goal.invariant-bytes
invariant-bytes l = find l.expected l.rest ≡ find l.expected l.text

abbrev pub decreases-bytes : goal.decreases-bytes
decreases-bytes l = length l.rest
