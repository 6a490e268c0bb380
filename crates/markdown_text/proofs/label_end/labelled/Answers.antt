use Rattle.std.proofs.Common.{rules}
use Rattle.markdown_text.proofs.label_end.labelled.Goals as goal

pub returns-in-Footnote-clause-on : goal.returns-in-Footnote-clause-on
returns-in-Footnote-clause-on c = search rules
