use Rattle.std.proofs.Common.{◌≡◌, ◌<◌, ◌+◌, length}
use Rattle.std.specs.Prelude.{filter}
use Rattle.commonmark_syntax.specs.Blocks.{is_break_sign}
use Rattle.commonmark_syntax.proofs.thematic_break.has_enough.Given as goal

-- the signs so far, and those to come
abbrev pub invariant-bytes : goal.invariant-bytes
invariant-bytes l = (l.count < 3) × (l.count + length (filter is_break_sign l.rest) ≡ length (filter is_break_sign l.text))

abbrev pub decreases-bytes : goal.decreases-bytes
decreases-bytes l = length l.rest
