use Rattle.std.proofs.Common.{sym, ◌∙◌, rules}
use denote.Enum.Bare.{same_true, true_same}
use Rattle.markdown_events.specs.contracts.event.Name.{the_type}
use Rattle.markdown_events.proofs.event.Name.is.Goals as goal

pub returns-clause-value : goal.returns-clause-value
returns-clause-value c = c.eq.ensures

pub returns-clause-same : goal.returns-clause-same
returns-clause-same c = (λ t. same_true the_type (search rules) c.args.self c.args.other (sym c.eq.ensures ∙ t), λ h. c.eq.ensures ∙ true_same the_type c.args.self c.args.other h)
