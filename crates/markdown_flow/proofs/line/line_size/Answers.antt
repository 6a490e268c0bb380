use Rattle.std.proofs.Common.{◌+◌, ◌≤◌, ◌<◌, arith, length, sym, ◌∙◌, true≢false, rules}
use Rattle.std.proofs.lemmas.List.{length-drop}
use Rattle.markdown_flow.proofs.LineSizes.{at_first, more}
use Rattle.markdown_flow.proofs.line.line_size.Goals as goal
use Rattle.markdown_flow.proofs.line.line_size.Goals.{in-10, in_default}

pub controls-init : goal.controls-init
controls-init c = (c.find_control-size.ensures.within, at_first _ _ c.find_control-size.ensures.before)

pub controls-preserved : goal.controls-preserved
controls-preserved c =
    elim c.match-matches.branch [
      | in-10 w ↦ absurd (true≢false (sym w.matches-is ∙ c.if-not-matches.true))
      | in_default w ↦ (
        omega (arith, c.controls-test.true, c.find_control.ensures.within),
        more c.args.text.now c.controls.size c.find_control.result c.controls.invariant.1 (search rules) (search rules) c.find_control.ensures.before,
      )
    ]
