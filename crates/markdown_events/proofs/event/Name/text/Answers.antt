use Rattle.std.proofs.Common.{rules}
use Rattle.markdown_events.proofs.event.Name.text.Goals as goal

pub returns-in-Data : goal.returns-in-Data
returns-in-Data c = search rules
