use Rattle.std.proofs.Common.{◌≡◌}
use Rattle.commonmark_syntax.specs.Reading.{first_of_class, greedy}
use Rattle.commonmark_syntax.proofs.reading.past_at_most.Given as goal

-- what is left is still to be read
abbrev pub invariant-bytes : goal.invariant-bytes
invariant-bytes g l = greedy (first_of_class g.C.Class.class) l.left l.rest ≡ greedy (first_of_class g.C.Class.class) l.most l.text

abbrev pub decreases-bytes : goal.decreases-bytes
decreases-bytes g l = l.left
