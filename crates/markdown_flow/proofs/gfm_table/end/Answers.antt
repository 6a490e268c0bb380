use Rattle.std.proofs.Common.{rules}
use Rattle.markdown_flow.proofs.gfm_table.end.Goals as goal

pub returns-clause-opens : goal.returns-clause-opens
returns-clause-opens c = search rules
