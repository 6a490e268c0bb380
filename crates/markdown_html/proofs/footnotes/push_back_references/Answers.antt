use Rattle.std.proofs.Common.{rules}
use Rattle.markdown_html.proofs.footnotes.push_back_references.Goals as goal

pub loop-before-init : goal.loop-before-init
loop-before-init c = search rules

pub returns : goal.returns
returns c = search rules
