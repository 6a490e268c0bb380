use Rattle.std.proofs.Common.{length, take, ◌≡◌}
use Rattle.markdown_parts.proofs.WholeTexts.{none_set}
use Rattle.markdown_parts.proofs.slice.none_is_set.Given as goal

-- none of the flags is set just if none of those that are left is
abbrev pub invariant-flags : goal.invariant-flags
invariant-flags l = none_set (take l.count l.flags) ≡ none_set l.rest

abbrev pub decreases-flags : goal.decreases-flags
decreases-flags l = length l.rest
