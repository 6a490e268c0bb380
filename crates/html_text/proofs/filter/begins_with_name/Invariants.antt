use Rattle.std.proofs.Common.{◌≡◌, length}
use Rattle.html_text.specs.Filter.{begins_with_name}
use Rattle.html_text.proofs.filter.begins_with_name.Given as goal

abbrev pub invariant-loop-letter : goal.invariant-loop-letter
invariant-loop-letter l = begins_with_name l.letters l.rest ≡ begins_with_name l.name l.text

abbrev pub decreases-loop-letter : goal.decreases-loop-letter
decreases-loop-letter l = length l.letters
