use Rattle.markdown_events.proofs.Unique.{one_forest}
use Rattle.markdown_events.proofs.laws.one_forest.Goals as goal

pub returns : goal.returns
returns c = one_forest
