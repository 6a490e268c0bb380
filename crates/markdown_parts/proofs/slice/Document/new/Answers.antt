use Rattle.std.proofs.Common.{rules}
use Rattle.markdown_parts.proofs.slice.Document.new.Goals as goal

pub invariant_of-result : goal.invariant_of-result
invariant_of-result c = search rules
