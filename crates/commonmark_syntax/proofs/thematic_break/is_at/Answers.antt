use Rattle.commonmark_syntax.proofs.Breaks.{enough, not_one}
use Rattle.commonmark_syntax.proofs.thematic_break.is_at.Goals as goal

pub returns-then-has_one-clause-exact : goal.returns-then-has_one-clause-exact
returns-then-has_one-clause-exact c = enough c.args.text.now c.args.has_one c.has_enough.result c.if-has_one.true c.has_enough.ensures

pub returns-else-has_one-clause-exact : goal.returns-else-has_one-clause-exact
returns-else-has_one-clause-exact c same solid = not_one c.args.text.now c.args.has_one c.if-has_one.false same
