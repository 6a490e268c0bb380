use Rattle.std.proofs.Common.{◌+◌, ◌-◌, ◌*◌, ◌≤◌, length}
use Rattle.markdown_attention.specs.Costs.{reach}
use Rattle.markdown_attention.specs.Runs.{view, views}
use Rattle.markdown_attention.proofs.Taking.{IsGoing}
use Rattle.markdown_attention.proofs.openers.Openers.close_all.Given as goal

abbrev pub invariant-pairs : goal.invariant-pairs
invariant-pairs l =
    IsGoing (views l.initial.self.stack.items) (views l.self.stack.items) l.self.bottoms (view l.initial.run) (view l.run) l.initial.delimiters.items l.delimiters.items
    × (l.steps.number + reach l.self.bottoms (length l.self.stack.items) + 16 * (view l.run).left ≤ l.initial.steps.number + reach l.initial.self.bottoms (length l.initial.self.stack.items) + 16 * (view l.initial.run).left)

abbrev pub decreases-pairs : goal.decreases-pairs
decreases-pairs l = l.run.end - l.run.start - (l.run.closing + l.run.opening)
