use Rattle.std.proofs.Common.{rules}
use Rattle.markdown_events.proofs.text.without_first_line_ending.Goals as goal

pub returns-in-Some : goal.returns-in-Some
returns-in-Some c = search rules
