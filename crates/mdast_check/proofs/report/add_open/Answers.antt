use Rattle.std.proofs.Common.{nat_cmp, arith}
use Rattle.std.specs.BTreeSet.{contains}
use Rattle.mdast_check.specs.References.{told}
use Rattle.mdast_check.specs.Report.{open_line}
use Rattle.mdast_check.proofs.Reporting.{all_lines}
use Rattle.mdast_check.proofs.report.add_open.Goals as goal

pub returns : goal.returns
returns c = all_lines (open_line (contains nat_cmp c.args.escapes.now)) told c.args.found.now c.open.it-index _ _ c.open-test.false c.open.invariant
