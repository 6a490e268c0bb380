use Rattle.std.proofs.Common.{rules}
use Rattle.markdown_html.proofs.footnotes.id.Goals as goal

pub returns : goal.returns
returns c = search rules
