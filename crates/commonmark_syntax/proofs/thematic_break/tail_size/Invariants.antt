use Rattle.commonmark_syntax.proofs.Breaks.{IsOf, end_of}
use Rattle.commonmark_syntax.proofs.thematic_break.tail_size.Given as goal

-- what is in the end so far
abbrev pub invariant-loop-size : goal.invariant-loop-size
invariant-loop-size l = IsOf l.sign (end_of l.line l.size)
