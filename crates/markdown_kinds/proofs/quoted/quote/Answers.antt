use Rattle.std.proofs.Common.{rules}
use Rattle.markdown_kinds.proofs.quoted.quote.Goals as goal

pub returns : goal.returns
returns c = search rules
