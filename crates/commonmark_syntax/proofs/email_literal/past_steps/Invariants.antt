use Rattle.std.proofs.Common.{◌≡◌, ◌≤◌, length}
use Rattle.commonmark_syntax.specs.EmailLiterals.{domain_step}
use Rattle.commonmark_syntax.specs.Reading.{greedy, read}
use Rattle.commonmark_syntax.proofs.email_literal.past_steps.Given as goal

-- as many are still to be read as bytes are left, at most
abbrev pub invariant-steps : goal.invariant-steps
invariant-steps g l = (length l.rest ≤ length l.text) × (greedy (read (domain_step g.C.Class.class)) (length l.rest) l.rest ≡ greedy (read (domain_step g.C.Class.class)) (length l.text) l.text)

abbrev pub decreases-steps : goal.decreases-steps
decreases-steps g l = length l.rest
