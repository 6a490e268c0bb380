use Rattle.std.proofs.Common.{ℕ, ◌<◌}
use Rattle.commonmark_syntax.specs.EmailLiterals.{IsLiteralAt}
use Rattle.commonmark_syntax.specs.declared.email_literal.EmailLiteral.{EmailLiteral}
use Rattle.commonmark_syntax.proofs.email_literal.find.Given as goal

-- there is none around an at sign before here
abbrev pub invariant-loop-at : goal.invariant-loop-at
invariant-loop-at l = (k : ℕ) (it : EmailLiteral) → k < l.at → IsLiteralAt l.text k it → ⊥
