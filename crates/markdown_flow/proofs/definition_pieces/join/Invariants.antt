use Rattle.std.proofs.Common.{◌≡◌, ◌++◌, drop}
use Rattle.markdown_flow.specs.Definitions.{joined}
use Rattle.markdown_flow.proofs.definition_pieces.join.Given as goal

abbrev pub invariant-loop-kept : goal.invariant-loop-kept
invariant-loop-kept l = l.text.items ++ joined (drop l.kept-index l.lines) ≡ joined l.lines
