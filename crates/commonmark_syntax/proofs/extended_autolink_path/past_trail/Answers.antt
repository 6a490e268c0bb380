use Rattle.std.proofs.Common.{arith, refl, ◌∙◌}
use Rattle.commonmark_syntax.specs.ExtendedAutolinks.{trail_piece}
use Rattle.commonmark_syntax.proofs.Loops.{many_on, read_smaller}
use Rattle.commonmark_syntax.proofs.extended_autolink_path.past_trail.Goals as goal

pub pieces-smaller : goal.pieces-smaller
pieces-smaller c = read_smaller trail_piece _ _ refl c.in-Some.ensures

pub pieces-preserved : goal.pieces-preserved
pieces-preserved c = (
  omega (arith, read_smaller trail_piece c.pieces.rest.now c.in-Some.tail.now refl c.in-Some.ensures, c.pieces.invariant.0),
  many_on trail_piece c.pieces.rest.now c.in-Some.tail.now refl c.in-Some.ensures ∙ c.pieces.invariant.1,
)
