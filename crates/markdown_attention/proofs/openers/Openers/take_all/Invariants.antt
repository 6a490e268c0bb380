use Rattle.std.proofs.Common.{◌≡◌, ◌≤◌, ◌+◌, List, length, take}
use Rattle.markdown_attention.specs.Costs.{cost, reach}
use Rattle.markdown_attention.specs.Emphasis.{DelimiterRun}
use Rattle.markdown_attention.specs.Taking.{AreTaken, openers}
use Rattle.markdown_attention.specs.Openers.{IsSound}
use Rattle.markdown_attention.specs.Runs.{views}
use Rattle.markdown_attention.proofs.openers.Openers.take_all.Given as goal

-- the runs so far are taken
abbrev pub invariant-loop-run : goal.invariant-loop-run
invariant-loop-run l =
    IsSound l.self.bottoms (views l.self.stack.items)
    × (((taken : List DelimiterRun) → openers taken ≡ views l.initial.self.stack.items → AreTaken taken (take l.run-index (views l.runs)) (views l.self.stack.items) l.initial.delimiters.items l.delimiters.items)
    × (l.steps.number + reach l.self.bottoms (length l.self.stack.items) ≤ l.initial.steps.number + reach l.initial.self.bottoms (length l.initial.self.stack.items) + cost (take l.run-index l.runs)))
