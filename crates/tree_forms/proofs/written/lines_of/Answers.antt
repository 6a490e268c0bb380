use Rattle.mdast_check.specs.Warnings.{warned}
use Rattle.tree_forms.specs.Forms.{warning_line}
use Rattle.tree_forms.proofs.AllLines.{all_lines}
use Rattle.tree_forms.proofs.written.lines_of.Goals as goal

pub returns : goal.returns
returns c = all_lines (warning_line c.args.name.now) warned c.args.found.now c.loop-warning.warning-index _ c.loop-warning-test.false c.loop-warning.invariant
