use Rattle.std.proofs.Common.{rules}
use Rattle.markdown_blocks.proofs.table.Columns.take.Goals as goal

pub returns-clause-entries : goal.returns-clause-entries
returns-clause-entries c = search rules
