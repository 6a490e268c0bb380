use Rattle.std.proofs.Common.{rules}
use Rattle.markdown_events.proofs.steps.Steps.read.Goals as goal

pub returns-clause-count : goal.returns-clause-count
returns-clause-count c = search rules
