use Rattle.std.proofs.Common.{rules}
use Rattle.markdown_parts.proofs.buffer.label_of.Goals as goal

pub returns-clause-text : goal.returns-clause-text
returns-clause-text c = search rules
