use Rattle.std.proofs.Common.{refl}
use Rattle.event_writer.specs.Stages.{definition_title, endings}
use Rattle.markdown_pieces.proofs.Walks.{at_less}
use Rattle.markdown_pieces.specs.Walks.{start}
use Rattle.markdown_flow.proofs.definition_pieces.PartWriter.write_title.Goals as goal

pub returns-in_default-clause-opens : goal.returns-in_default-clause-opens
returns-in_default-clause-opens c = λ outer opens. at_less start definition_title endings outer c.args.output.now.pieces.items opens refl
