use Rattle.std.proofs.Common.{rules}
use Rattle.markdown_tree.proofs.to_mdast.compile.Goals as goal

pub returns-clause-found : goal.returns-clause-found
returns-clause-found g c = search rules
