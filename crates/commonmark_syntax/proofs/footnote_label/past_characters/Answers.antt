use Rattle.std.proofs.Common.{arith, refl, ◌∙◌}
use Rattle.commonmark_syntax.specs.Blocks.{footnote_character}
use Rattle.commonmark_syntax.proofs.Loops.{many_on, read_smaller}
use Rattle.commonmark_syntax.proofs.footnote_label.past_characters.Goals as goal

pub characters-smaller : goal.characters-smaller
characters-smaller c = read_smaller footnote_character _ _ refl c.in-Some.ensures

pub characters-preserved : goal.characters-preserved
characters-preserved c = (
  omega (arith, read_smaller footnote_character c.characters.rest.now c.in-Some.tail.now refl c.in-Some.ensures, c.characters.invariant.0),
  many_on footnote_character c.characters.rest.now c.in-Some.tail.now refl c.in-Some.ensures ∙ c.characters.invariant.1,
)
