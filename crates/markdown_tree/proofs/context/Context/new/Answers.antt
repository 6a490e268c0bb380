use Rattle.std.proofs.Common.{rules}
use Rattle.markdown_tree.proofs.context.Context.new.Goals as goal

pub returns : goal.returns
returns c = search rules
