use Rattle.std.proofs.Common.{arith, refl, ◌∙◌}
use Rattle.commonmark_syntax.specs.Inlines.{next_domain_label}
use Rattle.commonmark_syntax.proofs.Loops.{many_on, read_smaller}
use Rattle.commonmark_syntax.proofs.email_autolink.past_next_labels.Goals as goal

pub labels-smaller : goal.labels-smaller
labels-smaller c = read_smaller next_domain_label _ _ refl c.in-Some.ensures

pub labels-preserved : goal.labels-preserved
labels-preserved c = (
  omega (arith, read_smaller next_domain_label c.labels.rest.now c.in-Some.tail.now refl c.in-Some.ensures, c.labels.invariant.0),
  many_on next_domain_label c.labels.rest.now c.in-Some.tail.now refl c.in-Some.ensures ∙ c.labels.invariant.1,
)
