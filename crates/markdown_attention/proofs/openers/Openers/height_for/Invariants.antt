use Rattle.std.proofs.Common.{◌≡◌, ◌+◌, ◌-◌, ◌≤◌, drop, length}
use Rattle.markdown_attention.specs.Emphasis.{NoneOpens}
use Rattle.markdown_attention.specs.Runs.{view, views}
use Rattle.markdown_attention.proofs.openers.Openers.height_for.Given as goal

-- none of the runs above goes with the closing one, and each took a step
abbrev pub invariant-runs : goal.invariant-runs
invariant-runs l =
    (l.height ≤ length l.self.stack.items)
    × (NoneOpens (drop l.height (views l.self.stack.items)) (view l.closer)
    × ((l.bottom ≤ l.height) × (l.steps.number + l.height ≡ l.initial.steps.number + length l.self.stack.items)))

abbrev pub decreases-runs : goal.decreases-runs
decreases-runs l = l.height - l.bottom
