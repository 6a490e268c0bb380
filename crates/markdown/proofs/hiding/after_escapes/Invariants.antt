use Rattle.std.proofs.Common.{List, length, ℕ, ◌+◌, ◌++◌, ◌≡◌}
use Rattle.markdown.specs.Hidden.{escapes}
use Rattle.markdown.proofs.hiding.after_escapes.Given as goal

-- what comes after the escapes of what is left comes after those of the text; and the offset is that of the first byte that is left
abbrev pub invariant-bytes : goal.invariant-bytes
invariant-bytes l =
    ((later : List ℕ) → l.left ≡ escapes l.at l.rest ++ later → l.expected ≡ escapes l.start l.text ++ later)
    × (l.at + length l.rest ≡ l.start + length l.text)

abbrev pub decreases-bytes : goal.decreases-bytes
decreases-bytes l = length l.rest
