use Rattle.std.proofs.Common.{rules}
use Rattle.markdown_events.proofs.event.spans.opened.Goals as goal

pub returns : goal.returns
returns c = search rules
