use Rattle.markdown_attention.proofs.Unique.{unique}
use Rattle.markdown_attention.proofs.laws.runs_have_one_result.Goals as goal

pub returns : goal.returns
returns c = unique
