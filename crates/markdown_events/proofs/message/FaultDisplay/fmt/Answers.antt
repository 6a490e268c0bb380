use Rattle.std.proofs.Common.{rules}
use Rattle.markdown_events.proofs.message.FaultDisplay.fmt.Goals as goal

pub returns-in-Memory-clause-writes : goal.returns-in-Memory-clause-writes
returns-in-Memory-clause-writes g c = search rules
