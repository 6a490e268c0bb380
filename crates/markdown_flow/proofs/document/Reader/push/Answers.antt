use Rattle.markdown_flow.proofs.Readers.{opens_one_more}
use Rattle.markdown_flow.proofs.document.Reader.push.Goals as goal

pub returns-clause-opens : goal.returns-clause-opens
returns-clause-opens c = opens_one_more c.args.self.now.output c.push.new.self.items c.args.self.now.containers.items c.args.container c.in_ok-push.ensures.items c.requires
