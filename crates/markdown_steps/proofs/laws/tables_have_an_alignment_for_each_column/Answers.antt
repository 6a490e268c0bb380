use Rattle.markdown_steps.proofs.ConsequencesOfTables.{columns}
use Rattle.markdown_steps.proofs.laws.tables_have_an_alignment_for_each_column.Goals as goal

pub returns : goal.returns
returns c = columns
