use Rattle.std.proofs.Common.{◌≡◌, ◌≤◌, length}
use Rattle.commonmark_syntax.specs.Syntax.{attribute}
use Rattle.commonmark_syntax.specs.Reading.{greedy, read}
use Rattle.commonmark_syntax.proofs.open_tag.past_attributes.Given as goal

-- as many are still to be read as bytes are left, at most
abbrev pub invariant-attributes : goal.invariant-attributes
invariant-attributes l = (length l.rest ≤ length l.text) × (greedy (read attribute) (length l.rest) l.rest ≡ greedy (read attribute) (length l.text) l.text)

abbrev pub decreases-attributes : goal.decreases-attributes
decreases-attributes l = length l.rest
