use Rattle.markdown_flow.proofs.Opens.{none_open}
use Rattle.markdown_flow.proofs.output.Output.new.Goals as goal

pub returns-clause-opens : goal.returns-clause-opens
returns-clause-opens c = none_open c.new-2.result.items c.new-2.ensures.items
