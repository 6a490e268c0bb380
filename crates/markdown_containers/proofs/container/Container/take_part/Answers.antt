use Rattle.std.proofs.Common.{arith}
use Rattle.markdown_containers.proofs.Kept.{parts_kept}
use Rattle.markdown_containers.proofs.container.Container.take_part.Goals as goal
use Rattle.markdown_containers.proofs.container.Container.take_part.Goals.{in-Media-Resource-Resource, in-Media-Reference-Reference, in-CodeFenced-CodeFence-CodeFencedFence, in-MathFlow-MathFence-MathFlowFence}

pub returns : goal.returns
returns c s p a b ts = elim c.match-self.branch [
  | in-Media-Resource-Resource w ↦ parts_kept s p a b ts c.args.part _ _ _ _ _ _ _ w.in-Media-Resource-Resource.is-0 w.in-Media-Resource-Resource.is-1 w.in-Media-Resource-Resource.is-2 w.self-is (w.take_resource.ensures s p a b ts)
  | in-Media-Reference-Reference w ↦ parts_kept s p a b ts c.args.part _ _ _ _ _ _ _ w.in-Media-Reference-Reference.is-0 w.in-Media-Reference-Reference.is-1 w.in-Media-Reference-Reference.is-2 w.self-is (w.take_reference.ensures s p a b ts)
  | in-CodeFenced-CodeFence-CodeFencedFence w ↦ parts_kept s p a b ts c.args.part _ _ _ _ _ _ _ w.in-CodeFenced-CodeFence-CodeFencedFence.is-0 w.in-CodeFenced-CodeFence-CodeFencedFence.is-1 w.in-CodeFenced-CodeFence-CodeFencedFence.is-2 w.self-is (w.take_fence.ensures s p a b ts)
  | in-MathFlow-MathFence-MathFlowFence w ↦ parts_kept s p a b ts c.args.part _ _ _ _ _ _ _ w.in-MathFlow-MathFence-MathFlowFence.is-0 w.in-MathFlow-MathFence-MathFlowFence.is-1 w.in-MathFlow-MathFence-MathFlowFence.is-2 w.self-is (w.take_fence-in-MathFlow-MathFence-MathFlowFence.ensures s p a b ts)
]
