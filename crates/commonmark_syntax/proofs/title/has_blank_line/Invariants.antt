use Rattle.std.proofs.Common.{◌≡◌, length}
use Rattle.std.specs.Prelude.{◌&&◌, ◌||◌}
use Rattle.commonmark_syntax.specs.Syntax.{ends_blank, has_blank_line}
use Rattle.commonmark_syntax.proofs.title.has_blank_line.Given as goal

-- a blank line is still to come, or to end
abbrev pub invariant-bytes : goal.invariant-bytes
invariant-bytes l = ((l.is_blank && ends_blank l.rest) || has_blank_line l.rest) ≡ has_blank_line l.inside

abbrev pub decreases-bytes : goal.decreases-bytes
decreases-bytes l = length l.rest
