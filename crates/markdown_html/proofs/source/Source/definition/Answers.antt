use Rattle.std.proofs.Common.{rules}
use Rattle.markdown_html.proofs.source.Source.definition.Goals as goal

pub returns : goal.returns
returns c = search rules
