use Rattle.std.proofs.Common.{arith, sym, ◌∙◌}
use Rattle.markdown_attention.specs.Runs.{view, views}
use Rattle.markdown_attention.proofs.Stack.{nearest, none_left, none_on}
use Rattle.markdown_attention.proofs.openers.Openers.height_for.Goals as goal

pub returns-then-goes_with-clause-some : goal.returns-then-goes_with-clause-some
returns-then-goes_with-clause-some c =
    nearest c.args.self.now.stack.items (view c.args.closer.now) c.runs.height c.index.result.now c.requires.sound.openers c.requires.closer.closes (omega (arith, c.runs-test.true)) c.runs.invariant.0 c.index.ensures (sym c.goes_with.ensures ∙ c.if-goes_with.true) c.runs.invariant.1.0

pub runs-preserved : goal.runs-preserved
runs-preserved c =
    let none = none_on c.args.self.now.stack.items (view c.args.closer.now) c.runs.height c.index.result.now (omega (arith, c.runs-test.true)) c.runs.invariant.0 c.index.ensures (sym c.goes_with.ensures ∙ c.if-goes_with.false) c.runs.invariant.1.0 in
    (omega (arith, c.runs.invariant.0), (none, (omega (arith, c.runs-test.true), omega (arith, c.runs-test.true, c.runs.invariant.1.1.1, c.tick.ensures))))

pub returns-clause-none : goal.returns-clause-none
returns-clause-none c =
    none_left c.args.self.now.bottoms (views c.args.self.now.stack.items) (view c.args.closer.now) c.runs.height c.bottom_for-bottom.result c.bottom_for-bottom.ensures c.runs-test.false c.runs.invariant.1.0 c.requires.sound.bottoms_are c.requires.closer.is_run
