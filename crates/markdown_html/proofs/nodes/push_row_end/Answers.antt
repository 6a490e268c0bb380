use Rattle.std.proofs.Common.{arith}
use Rattle.std.proofs.lemmas.Grind.{common_steps}
use Rattle.markdown_html.proofs.nodes.push_row_end.Goals as goal

pub returns : goal.returns
returns c = grind (arith, common_steps)
