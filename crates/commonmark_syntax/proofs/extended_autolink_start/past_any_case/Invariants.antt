use Rattle.std.proofs.Common.{◌≡◌, length}
use Rattle.commonmark_syntax.specs.Inlines.{in_any_case}
use Rattle.commonmark_syntax.specs.Reading.{read}
use Rattle.commonmark_syntax.proofs.extended_autolink_start.past_any_case.Given as goal

-- what is left of the word is to be read of what is left of the text
abbrev pub invariant-letters : goal.invariant-letters
invariant-letters l = read (in_any_case l.left) l.rest ≡ read (in_any_case l.expected) l.text

abbrev pub decreases-letters : goal.decreases-letters
decreases-letters l = length l.left
