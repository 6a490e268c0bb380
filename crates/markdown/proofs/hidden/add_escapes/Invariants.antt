use Rattle.std.proofs.Common.{◌≡◌, ◌+◌, ◌++◌, length}
use Rattle.markdown.specs.Hidden.{escapes}
use Rattle.markdown.proofs.hidden.add_escapes.Given as goal

-- what is found and what is left are all, and the offset is that of the first byte that is left
abbrev pub invariant-bytes : goal.invariant-bytes
invariant-bytes l =
    (l.offsets.items ++ escapes l.at l.rest ≡ l.initial.offsets.items ++ escapes l.start l.text)
    × (l.at + length l.rest ≡ l.start + length l.text)

abbrev pub decreases-bytes : goal.decreases-bytes
decreases-bytes l = length l.rest
