use Rattle.markdown_outline.proofs.HeadingTrees.{never-refused}
use Rattle.markdown_outline.proofs.laws.passed_on_headings_are_not_refused.Goals as goal

pub returns : goal.returns
returns c = never-refused
