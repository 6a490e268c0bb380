use Rattle.std.proofs.Common.{◌∙◌, arith, sym}
use Rattle.commonmark_syntax.proofs.Breaks.{end_low, end_sign, end_stops, end_whole}
use Rattle.commonmark_syntax.proofs.thematic_break.tail_size.Goals as goal

pub returns-then-not-is_like-clause-exact : goal.returns-then-not-is_like-clause-exact
returns-then-not-is_like-clause-exact c = end_stops c.loop-size.sign c.args.line.now c.loop-size.size c.is_like.result (omega (arith, c.loop-size-test.true)) (sym c.is_space_or_tab.ensures ∙ c.if-is_space_or_tab.false) c.is_like.ensures c.if-not-is_like.true c.loop-size.invariant

pub returns-then-not-is_like-clause-ascii : goal.returns-then-not-is_like-clause-ascii
returns-then-not-is_like-clause-ascii c k = end_low c.args.line.now c.loop-size.size k (omega (arith, c.loop-size-test.true)) (end_stops c.loop-size.sign c.args.line.now c.loop-size.size c.is_like.result (omega (arith, c.loop-size-test.true)) (sym c.is_space_or_tab.ensures ∙ c.if-is_space_or_tab.false) c.is_like.ensures c.if-not-is_like.true c.loop-size.invariant)

pub loop-size-preserved : goal.loop-size-preserved
loop-size-preserved c = end_sign c.loop-size.sign c.args.line.now c.loop-size.size c.is_like.result (omega (arith, c.loop-size-test.true)) c.is_like.ensures c.if-not-is_like.false c.loop-size.invariant

pub returns-clause-exact : goal.returns-clause-exact
returns-clause-exact c = end_whole c.loop-size.sign c.args.line.now c.loop-size.size (omega (arith, c.loop-size-test.false)) c.loop-size.invariant

pub returns-clause-ascii : goal.returns-clause-ascii
returns-clause-ascii c k = end_low c.args.line.now _ k (omega arith) (end_whole c.loop-size.sign c.args.line.now c.loop-size.size (omega (arith, c.loop-size-test.false)) c.loop-size.invariant)
