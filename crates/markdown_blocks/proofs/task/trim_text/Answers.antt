use Rattle.std.proofs.Common.{rules}
use Rattle.markdown_blocks.proofs.task.trim_text.Goals as goal

pub returns-clause-cut : goal.returns-clause-cut
returns-clause-cut c = search rules
