use Rattle.std.proofs.Common.{rules}
use Rattle.event_lines.proofs.lines.kind.Goals as goal

pub returns-in-43 : goal.returns-in-43
returns-in-43 c = search rules
