use Rattle.markdown_json.proofs.Escapes.{reads_back}
use Rattle.markdown_json.proofs.laws.escapes_are_read_back.Goals as goal

pub returns : goal.returns
returns c = reads_back
