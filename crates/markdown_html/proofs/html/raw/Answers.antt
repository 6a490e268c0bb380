use Rattle.std.proofs.Common.{rules}
use Rattle.markdown_html.proofs.html.raw.Goals as goal

pub returns-in-Omit : goal.returns-in-Omit
returns-in-Omit c = search rules
