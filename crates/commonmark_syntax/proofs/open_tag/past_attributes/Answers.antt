use Rattle.std.proofs.Common.{arith, refl, ◌∙◌}
use Rattle.commonmark_syntax.specs.Syntax.{attribute}
use Rattle.commonmark_syntax.proofs.Loops.{many_on, read_smaller}
use Rattle.commonmark_syntax.proofs.open_tag.past_attributes.Goals as goal

pub attributes-smaller : goal.attributes-smaller
attributes-smaller c = read_smaller attribute _ _ refl c.in-Some.ensures

pub attributes-preserved : goal.attributes-preserved
attributes-preserved c = (
  omega (arith, read_smaller attribute c.attributes.rest.now c.in-Some.tail.now refl c.in-Some.ensures, c.attributes.invariant.0),
  many_on attribute c.attributes.rest.now c.in-Some.tail.now refl c.in-Some.ensures ∙ c.attributes.invariant.1,
)
