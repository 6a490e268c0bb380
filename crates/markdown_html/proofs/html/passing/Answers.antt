use Rattle.std.proofs.Common.{rules}
use Rattle.markdown_html.proofs.html.passing.Goals as goal

pub returns-then-tag_filter : goal.returns-then-tag_filter
returns-then-tag_filter c = search rules

pub returns-else-tag_filter : goal.returns-else-tag_filter
returns-else-tag_filter c = search rules
