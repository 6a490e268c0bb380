use Rattle.std.proofs.Common.{rules}
use Rattle.markdown_events.proofs.around.Around.in_the_open.Goals as goal

pub returns : goal.returns
returns c = search rules
