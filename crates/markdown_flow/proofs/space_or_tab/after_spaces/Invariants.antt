use Rattle.std.proofs.Common.{◌≡◌, drop}
use Rattle.markdown_flow.specs.Lines.{after_spaces}
use Rattle.markdown_flow.proofs.space_or_tab.after_spaces.Given as goal

abbrev pub invariant-loop-size : goal.invariant-loop-size
invariant-loop-size l = after_spaces (drop l.size l.text) ≡ after_spaces l.text
