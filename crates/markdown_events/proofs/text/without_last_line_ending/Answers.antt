use Rattle.std.proofs.Common.{ap, ◌∙◌}
use Rattle.markdown_events.proofs.Cuts.{ended, trims_last}
use Rattle.markdown_events.proofs.text.without_last_line_ending.Goals as goal

pub returns-in-Some : goal.returns-in-Some
returns-in-Some c = c.without_last.ensures ∙ ap (λ found. ended found c.args.value.now) c.in-Some.ensures ∙ trims_last c.args.value.now

pub returns-in-None : goal.returns-in-None
returns-in-None c = c.without_last-in-None.ensures ∙ ap (λ found. ended found c.args.value.now) c.in-None.ensures ∙ trims_last c.args.value.now
