use Rattle.std.proofs.Common.{◌≡◌, ◌≤◌, length}
use Rattle.commonmark_syntax.specs.ExtendedAutolinks.{trail_piece}
use Rattle.commonmark_syntax.specs.Reading.{greedy, read}
use Rattle.commonmark_syntax.proofs.extended_autolink_path.past_trail.Given as goal

-- as many are still to be read as bytes are left, at most
abbrev pub invariant-pieces : goal.invariant-pieces
invariant-pieces l = (length l.rest ≤ length l.text) × (greedy (read trail_piece) (length l.rest) l.rest ≡ greedy (read trail_piece) (length l.text) l.text)

abbrev pub decreases-pieces : goal.decreases-pieces
decreases-pieces l = length l.rest
