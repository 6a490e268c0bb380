use Rattle.markdown_flow.proofs.Readers.{opens_none}
use Rattle.markdown_flow.proofs.document.Reader.close_last.Goals as goal

pub returns-clause-opens : goal.returns-clause-opens
returns-clause-opens c = opens_none c.close_container.new.self.output c.in_ok-close_container.field-0 c.close_container.new.self.containers.items c.in_ok-close_container.ensures.opens
