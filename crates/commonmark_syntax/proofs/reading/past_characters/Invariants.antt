use Rattle.std.proofs.Common.{◌≡◌, ◌≤◌, length}
use Rattle.commonmark_syntax.specs.Syntax.{character}
use Rattle.commonmark_syntax.specs.Reading.{greedy, read}
use Rattle.commonmark_syntax.proofs.reading.past_characters.Given as goal

-- as many are still to be read as bytes are left, at most
abbrev pub invariant-characters : goal.invariant-characters
invariant-characters g l = (length l.rest ≤ length l.text) × (greedy (read (character g.T.Class.class g.C.Class.class)) (length l.rest) l.rest ≡ greedy (read (character g.T.Class.class g.C.Class.class)) (length l.text) l.text)

abbrev pub decreases-characters : goal.decreases-characters
decreases-characters g l = length l.rest
