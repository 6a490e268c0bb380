use Rattle.std.proofs.Common.{rules}
use Rattle.markdown_events.proofs.message.Place.start.Goals as goal

pub returns-in-Position : goal.returns-in-Position
returns-in-Position c = search rules
