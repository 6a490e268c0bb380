use Rattle.std.proofs.Common.{◌≡◌, length}
use Rattle.markdown_grammar.specs.LineEndings.{is_empty_line}
use Rattle.markdown_parts.proofs.line_ending.is_empty_line.Given as goal

-- what is left says it of all
abbrev pub invariant-line : goal.invariant-line
invariant-line l = is_empty_line l.rest ≡ is_empty_line l.bytes

abbrev pub decreases-line : goal.decreases-line
decreases-line l = length l.rest
