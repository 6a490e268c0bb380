use Rattle.std.proofs.Common.{rules}
use Rattle.event_lines.proofs.lines.LinesErrorDisplay.fmt.Goals as goal

pub returns-in-Unread-clause-writes : goal.returns-in-Unread-clause-writes
returns-in-Unread-clause-writes g c = search rules
