use Rattle.std.proofs.Common.{nat_cmp, arith}
use Rattle.std.specs.BTreeSet.{contains}
use Rattle.mdast_check.specs.Report.{heading_line}
use Rattle.mdast_check.specs.Titles.{said}
use Rattle.mdast_check.proofs.Reporting.{all_lines}
use Rattle.mdast_check.proofs.report.add_titles.Goals as goal

pub returns : goal.returns
returns c = all_lines (heading_line (contains nat_cmp c.args.escapes.now)) said c.args.titles.now c.titles.title-index _ _ c.titles-test.false c.titles.invariant
