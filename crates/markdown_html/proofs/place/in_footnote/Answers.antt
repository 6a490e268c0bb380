use Rattle.std.proofs.Common.{rules}
use Rattle.markdown_html.proofs.place.in_footnote.Goals as goal

pub returns-in_default : goal.returns-in_default
returns-in_default c = search rules
