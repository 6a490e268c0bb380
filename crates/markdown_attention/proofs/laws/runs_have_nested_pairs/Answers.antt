use Rattle.markdown_attention.proofs.Nesting.{nests}
use Rattle.markdown_attention.proofs.laws.runs_have_nested_pairs.Goals as goal

pub returns : goal.returns
returns c = nests 0
