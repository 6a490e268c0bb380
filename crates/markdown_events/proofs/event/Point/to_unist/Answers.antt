use Rattle.std.proofs.Common.{rules}
use Rattle.markdown_events.proofs.event.Point.to_unist.Goals as goal

pub returns : goal.returns
returns c = search rules
