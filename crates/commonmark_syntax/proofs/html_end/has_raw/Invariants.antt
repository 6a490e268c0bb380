use Rattle.std.proofs.Common.{length}
use Rattle.commonmark_syntax.specs.Html.{IsIn, raw_end}
use Rattle.commonmark_syntax.proofs.html_end.has_raw.Given as goal

-- one is in what is left as it is in the text
abbrev pub invariant-bytes : goal.invariant-bytes
invariant-bytes l = (IsIn raw_end l.rest → IsIn raw_end l.text) × (IsIn raw_end l.text → IsIn raw_end l.rest)

abbrev pub decreases-bytes : goal.decreases-bytes
decreases-bytes l = length l.rest
