use Rattle.std.proofs.Common.{rules}
use Rattle.markdown_events.proofs.unist.Position.new.Goals as goal

pub returns-clause-end : goal.returns-clause-end
returns-clause-end c = search rules
