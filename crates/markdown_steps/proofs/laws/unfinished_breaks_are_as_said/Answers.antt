use Rattle.markdown_steps.proofs.BreakEvents.{ends_after_break, follows_break}
use Rattle.markdown_steps.proofs.laws.unfinished_breaks_are_as_said.Goals as goal

pub returns-clause-event : goal.returns-clause-event
returns-clause-event c = follows_break

pub returns-clause-end : goal.returns-clause-end
returns-clause-end c = ends_after_break
