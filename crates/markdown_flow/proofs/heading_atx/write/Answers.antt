use Rattle.std.proofs.Common.{rules}
use Rattle.markdown_flow.proofs.heading_atx.write.Goals as goal

pub returns-clause-opens : goal.returns-clause-opens
returns-clause-opens c = search rules
