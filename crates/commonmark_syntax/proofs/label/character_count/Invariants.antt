use Rattle.std.proofs.Common.{◌≡◌, ◌≤◌, ◌+◌, length}
use Rattle.std.specs.Prelude.{filter}
use Rattle.commonmark_syntax.specs.Syntax.{begins_character}
use Rattle.commonmark_syntax.proofs.label.character_count.Given as goal

-- the characters so far, and those to come
abbrev pub invariant-bytes : goal.invariant-bytes
invariant-bytes l = (l.count + length l.rest ≤ length l.text) × (l.count + length (filter begins_character l.rest) ≡ length (filter begins_character l.text))

abbrev pub decreases-bytes : goal.decreases-bytes
decreases-bytes l = length l.rest
