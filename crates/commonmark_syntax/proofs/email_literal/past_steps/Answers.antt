use Rattle.std.proofs.Common.{arith, refl, ◌∙◌}
use Rattle.commonmark_syntax.specs.EmailLiterals.{domain_step}
use Rattle.commonmark_syntax.proofs.Loops.{many_on, read_smaller}
use Rattle.commonmark_syntax.proofs.email_literal.past_steps.Goals as goal

pub steps-smaller : goal.steps-smaller
steps-smaller g c = read_smaller (domain_step g.C.Class.class) _ _ refl c.in-Some.ensures

pub steps-preserved : goal.steps-preserved
steps-preserved g c = (
  omega (arith, read_smaller (domain_step g.C.Class.class) c.steps.rest.now c.in-Some.tail.now refl c.in-Some.ensures, c.steps.invariant.0),
  many_on (domain_step g.C.Class.class) c.steps.rest.now c.in-Some.tail.now refl c.in-Some.ensures ∙ c.steps.invariant.1,
)
