use Rattle.std.proofs.Common.{rules, arith}
use Rattle.markdown_events.proofs.event.Name.role.Goals as goal

pub returns-in-HtmlFlow : goal.returns-in-HtmlFlow
returns-in-HtmlFlow c = search rules
