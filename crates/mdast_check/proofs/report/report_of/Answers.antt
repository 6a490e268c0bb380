use Rattle.std.proofs.Common.{rules}
use Rattle.mdast_check.proofs.Reporting.{none_open}
use Rattle.mdast_check.proofs.report.report_of.Goals as goal

pub returns-clause-text : goal.returns-clause-text
returns-clause-text c = search rules

pub returns-clause-state : goal.returns-clause-state
returns-clause-state c = none_open c.in_ok-found.found.items _ c.in_ok-found.found.len c.is_empty-is_open.result c.is_empty-is_open.ensures c.in_ok-found.found.ok.0 c.in_ok-found.ensures
