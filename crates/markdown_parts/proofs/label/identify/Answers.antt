use Rattle.std.proofs.Common.{rules}
use Rattle.markdown_parts.proofs.label.identify.Goals as goal

pub returns-clause-label : goal.returns-clause-label
returns-clause-label c = search rules
