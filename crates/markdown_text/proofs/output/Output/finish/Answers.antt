use Rattle.markdown_text.proofs.Outputs.{finished}
use Rattle.markdown_text.proofs.output.Output.finish.Goals as goal

pub returns-clause-end : goal.returns-clause-end
returns-clause-end g c = finished c.args.self c.flush.new.self c.in_ok-flush.ensures.writes c.requires.ended
