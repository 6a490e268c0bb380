use Rattle.std.proofs.Common.{arith, refl, ◌∙◌}
use Rattle.commonmark_syntax.specs.Syntax.{character}
use Rattle.commonmark_syntax.proofs.Loops.{many_on, plain_skipped, read_smaller}
use Rattle.commonmark_syntax.proofs.reading.past_characters.Goals as goal

pub characters-smaller : goal.characters-smaller
characters-smaller g c = omega (arith, c.after-rest.ensures.length, read_smaller (character g.T.Class.class g.C.Class.class) c.characters.rest.now c.in-Some.tail.now refl c.in-Some.ensures)

pub characters-preserved : goal.characters-preserved
characters-preserved g c = (
  omega (arith, c.after-rest.ensures.length, read_smaller (character g.T.Class.class g.C.Class.class) c.characters.rest.now c.in-Some.tail.now refl c.in-Some.ensures, c.characters.invariant.0),
  plain_skipped g.T.Class.class g.C.Class.class c.in-Some.tail.now _ c.plain_length.result c.after-rest.ensures.rest g.met.C.PlainClass.no_backslash c.plain_length.ensures.most c.plain_length.ensures.plain
      ∙ many_on (character g.T.Class.class g.C.Class.class) c.characters.rest.now c.in-Some.tail.now refl c.in-Some.ensures ∙ c.characters.invariant.1,
)
