use Rattle.std.proofs.Common.{◌<◌, arith}
use Rattle.markdown_attention.specs.Runs.{view}
use Rattle.markdown_attention.proofs.Costs.{closed_less}
use Rattle.markdown_attention.proofs.Taking.{begin, goes_on}
use Rattle.markdown_attention.proofs.openers.Openers.close_all.Goals as goal

pub pairs-init : goal.pairs-init
pairs-init c = (begin _ _ _ _ c.requires.sound c.requires.run, omega arith)

pub pairs-preserved : goal.pairs-preserved
pairs-preserved c =
    let it = c.close_nearest.ensures in
    let some : 0 < (view c.pairs.run).left = omega (arith, c.pairs-test.true, c.left.ensures) in
    let closed = it.paired c.if-not-close_nearest.false in (
      goes_on _ _ _ _ (view c.pairs.run) _ _ _ _ _ _ some c.pairs.invariant.0 closed it.sound,
      omega (arith, c.pairs.invariant.1, it.linear c.if-not-close_nearest.false, c.tick.ensures, closed_less closed.opener (view c.pairs.run) (view c.close_nearest.new.closer) some closed.paired.left_is),
    )
