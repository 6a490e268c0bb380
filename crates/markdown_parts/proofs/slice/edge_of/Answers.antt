use Rattle.std.proofs.Common.{rules}
use Rattle.markdown_parts.proofs.slice.edge_of.Goals as goal

pub returns-then-point-gt0 : goal.returns-then-point-gt0
returns-then-point-gt0 c = search rules
