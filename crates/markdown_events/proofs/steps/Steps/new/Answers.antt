use Rattle.std.proofs.Common.{rules}
use Rattle.markdown_events.proofs.steps.Steps.new.Goals as goal

pub returns-clause-list : goal.returns-clause-list
returns-clause-list c = search rules
