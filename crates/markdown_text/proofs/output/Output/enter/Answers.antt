use Rattle.markdown_text.proofs.Outputs.{moved_at}
use Rattle.markdown_text.proofs.output.Output.enter.Goals as goal

pub returns-clause-stage : goal.returns-clause-stage
returns-clause-stage g c = λ a outer at. c.enter.ensures.at a outer (moved_at c.args.self.now.writer.value c.deref_mut.result.now a outer c.deref_mut.ensures.value at)
