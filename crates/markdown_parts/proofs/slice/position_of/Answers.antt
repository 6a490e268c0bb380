use Rattle.std.proofs.Common.{rules}
use Rattle.markdown_parts.proofs.slice.position_of.Goals as goal

pub returns : goal.returns
returns c = search rules
