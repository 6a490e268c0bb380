use Rattle.commonmark_syntax.proofs.Strings.{Keeps}
use Rattle.commonmark_syntax.proofs.code_span.LastStrings.new.Given as goal

-- the marks right before here, and the strings before them
abbrev pub invariant-loop-at : goal.invariant-loop-at
invariant-loop-at l = Keeps l.mark l.text l.at l.run l.last.ends.items
