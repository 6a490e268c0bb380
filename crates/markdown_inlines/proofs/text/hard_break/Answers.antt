use Rattle.std.proofs.Common.{rules}
use Rattle.markdown_nodes.specs.View.{view}
use Rattle.markdown_inlines.proofs.text.hard_break.Goals as goal

pub returns : goal.returns
unfolding view
returns c = search rules
