use Rattle.markdown_text.proofs.Steps.{at_some}
use Rattle.markdown_text.specs.Outputs.{after_plain}
use Rattle.markdown_text.specs.Standings.{IsAt}
use Rattle.markdown_text.proofs.output.Output.fill_to.Goals as goal

pub returns-clause-stage : goal.returns-clause-stage
returns-clause-stage g c = λ a outer keeps at. at_some (λ b. IsAt c.token_to.new.self.writer.value b outer) (after_plain a c.args.name) a keeps (c.in_ok-token_to.ensures.stage a outer at)
