use Rattle.std.proofs.Common.{rules}
use Rattle.markdown_events.proofs.unist.Point.new.Goals as goal

pub returns : goal.returns
returns c = search rules
