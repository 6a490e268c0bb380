use Rattle.std.proofs.Common.{rules}
use Rattle.mdast_check.proofs.references.is_known.Goals as goal

pub returns-in-Footnote : goal.returns-in-Footnote
returns-in-Footnote c = search rules
