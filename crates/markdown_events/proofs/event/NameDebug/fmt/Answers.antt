use Rattle.std.proofs.Common.{rules}
use Rattle.markdown_events.proofs.event.NameDebug.fmt.Goals as goal

pub returns : goal.returns
returns g c = search rules
